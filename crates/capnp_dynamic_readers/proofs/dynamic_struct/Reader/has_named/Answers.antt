-- The field that was found is there.
use Rattle.std.proofs.Common.{ap, ◌∙◌}
use Rattle.capnp_schema.specs.Query.{field_named}
use Rattle.capnp_schema.specs.StructHandles.{struct_records}
use Rattle.capnp_dynamic_readers.specs.Handles.{schema_of}
use Rattle.capnp_dynamic_readers.specs.Reads.{kind_read}
use Rattle.capnp_dynamic_readers.specs.Facts.Found.{found_belongs}
use Rattle.capnp_dynamic_readers.proofs.FoundReads.{found_there}
use Rattle.capnp_dynamic_readers.proofs.dynamic_struct.Reader.has_named.Goals as goal

pub has-requires : goal.has-requires
has-requires c = found_belongs (schema_of c.args.self.now) (field_named (struct_records (schema_of c.args.self.now)) c.args.field_name.now) c.in_ok-field.field c.in_ok-field.ensures.field

pub returns : goal.returns
returns c =
    ap kind_read c.has.ensures
    ∙ found_there c.args.self.now (field_named (struct_records (schema_of c.args.self.now)) c.args.field_name.now) c.in_ok-field.field c.in_ok-field.ensures.field
