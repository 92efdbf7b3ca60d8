-- A group's field, by the table.
use Rattle.capnp_schema.specs.StructHandles.{number_of, set_of}
use Rattle.capnp_schema.proofs.GroupFieldTables.{is_group_field, no_field_no_group}
use Rattle.capnp_schema.proofs.schema.structs.StructSchema.get_group_field.Goals as goal

pub returns-in_default-clause-none : goal.returns-in_default-clause-none
returns-in_default-clause-none c = no_field_no_group (set_of c.args.self.now) c.in_default.ensures.accepted (number_of c.args.self.now) c.in_default.ensures.is

pub returns-clause-field : goal.returns-clause-field
returns-clause-field c = is_group_field c.args.self.now c.struct_schema.result c.new.result c.in-Some.brand c.in-Some.index c.in-Some.ensures.accepted c.in-Some.ensures.is c.struct_schema.ensures.set c.struct_schema.ensures.number c.struct_schema.ensures.stands c.new.ensures
