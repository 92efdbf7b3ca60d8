-- A list stands behind a pointer.
use Rattle.std.proofs.Common.{ap, ◌∙◌}
use Rattle.capnp_schema.specs.FieldLists.{typed_of}
use Rattle.capnp_schema.specs.Types.{seen_type}
use Rattle.capnp_schema.specs.declared.plan.SlotPlan.{SlotPlan}
use Rattle.capnp_records.specs.Writes.TreeEnds.{offset_of}
use Rattle.capnp_slots.specs.Fields.{field_set}
use Rattle.capnp_value_texts.specs.Calls.{lists_of}
use Rattle.riftcalico_core.proofs.ShownRead.{list_fits}
use Rattle.riftcalico_core.proofs.ShownTaken.{list_placed, lists_more}
use Rattle.riftcalico_core.proofs.shown_values.list_at_spot.Goals as goal

pub unreachable-requires : goal.unreachable-requires
unreachable-requires c =
    let field = c.args.spot.field in
    c.in_default.not-Pointer (offset_of (typed_of field).field.kind)
    (ap (λ (p : SlotPlan). p.place) c.plan.ensures.is
    ∙ list_placed (field_set field) (typed_of field).field.kind (typed_of field).type (lists_of c.args.spot.depth (seen_type c.args.element))
    (c.requires.typed ∙ lists_more c.args.spot.depth (seen_type c.args.element))
    (list_fits field c.get_containing_struct.result c.get_containing_struct.ensures.is c.get_containing_struct.ensures.stands field.inside))
