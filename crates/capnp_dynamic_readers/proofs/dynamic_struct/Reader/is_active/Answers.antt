-- The plan is the field's.
use Rattle.std.proofs.Common.{ap, subst, ◌∙◌}
use Rattle.capnp_wire.specs.Standing.{struct_levels, struct_of}
use Rattle.capnp_schema.specs.FieldLists.{index_of, field_schema as field_schema}
use Rattle.capnp_schema.specs.StructHandles.{IsStruct, number_of, set_of}
use Rattle.capnp_schema.specs.declared.plan.SlotPlan.{SlotPlan}
use Rattle.capnp_schema.specs.declared.schema.structs.StructSchema.{StructSchema}
use Rattle.capnp_records.specs.Record.{Left}
use Rattle.capnp_dynamic_readers.specs.Facts.HasWhich.{active_by_plan}
use Rattle.capnp_dynamic_readers.specs.Handles.{reader_of}
use Rattle.capnp_dynamic_readers.specs.Steps.Planned.{member_there}
use Rattle.capnp_dynamic_readers.proofs.FieldHandles.{same_active}
use Rattle.capnp_dynamic_readers.proofs.dynamic_struct.Reader.is_active.Goals as goal

pub returns : goal.returns
returns c =
    let s : StructSchema = field_schema c.args.field in
    let stands : IsStruct s = subst IsStruct c.get_containing_struct-schema.ensures.is c.get_containing_struct-schema.ensures.stands in
    c.is_member_active.ensures
    ∙ (ap (λ (p : SlotPlan). member_there (struct_of (reader_of c.args.self.now)).bytes p.member) c.plan-plan.ensures.is
    ∙ (active_by_plan (set_of s) (Left (struct_levels (reader_of c.args.self.now))) (struct_of (reader_of c.args.self.now)) stands.accepted (number_of s) (index_of c.args.field) stands.number c.args.field.inside
    ∙ same_active c.args.field c.args.self.now c.requires))
