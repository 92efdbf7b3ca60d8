-- The plan is the field's.
use Rattle.std.proofs.Common.{Ok, ap, subst, ◌∙◌}
use Rattle.capnp_wire.specs.Standing.{struct_levels, struct_of}
use Rattle.capnp_schema.specs.FieldLists.{index_of, field_schema as field_schema}
use Rattle.capnp_schema.specs.StructHandles.{IsStruct, number_of, set_of}
use Rattle.capnp_schema.specs.Types.{seen_variant}
use Rattle.capnp_schema.specs.declared.schema.structs.StructSchema.{StructSchema}
use Rattle.capnp_schema.specs.Facts.Layers.{seen_which}
use Rattle.capnp_records.specs.Record.{Left}
use Rattle.capnp_dynamic_readers.specs.Handles.{reader_of}
use Rattle.capnp_dynamic_readers.specs.Steps.Planned.{planned_has}
use Rattle.capnp_dynamic_readers.proofs.FieldHandles.{same_has}
use Rattle.capnp_dynamic_readers.specs.Facts.HasWhich.{has_by_plan}
use Rattle.capnp_dynamic_readers.proofs.dynamic_struct.Reader.has.Goals as goal

pub returns : goal.returns
returns c =
    let s : StructSchema = field_schema c.args.field in
    let stands : IsStruct s = subst IsStruct c.get_containing_struct-schema.ensures.is c.get_containing_struct-schema.ensures.stands in
    ap Ok (c.has_planned.ensures
    ∙ (ap (planned_has (struct_of (reader_of c.args.self.now))) c.plan-plan.ensures.is
    ∙ (has_by_plan (set_of s) (Left (struct_levels (reader_of c.args.self.now))) (struct_of (reader_of c.args.self.now)) stands.accepted (number_of s) (index_of c.args.field) stands.number c.args.field.inside c.which-variant.result
    (ap seen_variant c.which-variant.ensures ∙ (seen_which c.get_type.result ∙ c.get_type.ensures.is))
    ∙ same_has c.args.field c.args.self.now c.requires)))
