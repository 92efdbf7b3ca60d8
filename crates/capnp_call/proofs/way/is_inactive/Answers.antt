-- The member that is active is the one that stands in the whole record.
use Rattle.std.proofs.Common.{ap, subst, ◌∙◌}
use Rattle.capnp_arena.specs.Built.{built_at}
use Rattle.capnp_wire.specs.Standing.{struct_of}
use Rattle.capnp_schema.specs.FieldLists.{field_schema}
use Rattle.capnp_schema.specs.StructHandles.{IsStruct}
use Rattle.capnp_call.proofs.FieldReads.{active_reads}
use Rattle.capnp_call.proofs.way.is_inactive.Goals as goal

pub returns : goal.returns
returns c =
    let f = c.args.field in
    let is : IsStruct (field_schema f) = subst IsStruct c.get_containing_struct.ensures.is c.get_containing_struct.ensures.stands in
    active_reads c.new-reader.result f (struct_of c.get_struct_reader.result) (built_at c.args.arena.now c.args.place) (c.new-reader.ensures.schema ∙ c.get_containing_struct.ensures.is) (ap struct_of c.new-reader.ensures.reader)
    c.get_struct_reader.ensures.cut is f.inside c.is_active.result c.is_active.ensures
