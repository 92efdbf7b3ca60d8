-- What stands at the place of a field's plan is there where the field is.
use Rattle.std.proofs.Common.{ap, sym, ◌∙◌}
use Rattle.capnp_wire.specs.Standing.{struct_levels, struct_of}
use Rattle.capnp_schema.specs.Facts.Layers.{seen_which}
use Rattle.capnp_schema.specs.FieldLists.{index_of}
use Rattle.capnp_schema.specs.Types.{seen_variant}
use Rattle.capnp_schema.specs.declared.plan.SlotPlan.{SlotPlan}
use Rattle.capnp_records.specs.Record.{Left}
use Rattle.capnp_dynamic_readers.specs.Planned.{place_there}
use Rattle.capnp_slots.specs.Fields.{field_brand, field_set}
use Rattle.capnp_slots.proofs.GroupCopies.{there_is}
use Rattle.capnp_slots.proofs.group_copy.has.Goals as goal

pub returns : goal.returns
returns c =
    c.is_there.ensures
    ∙ (ap (λ (p : SlotPlan). place_there (struct_of c.args.source.now) p.place) c.plan.ensures.is
    ∙ sym (there_is (field_set c.args.field) (Left (struct_levels c.args.source.now)) (struct_of c.args.source.now) (field_brand c.args.field) (index_of c.args.field) c.which-variant.result
    (ap seen_variant c.which-variant.ensures ∙ (seen_which c.get_type.result ∙ c.get_type.ensures.is))))
