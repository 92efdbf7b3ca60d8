use Rattle.capnp_schema.specs.Entries.{lists_seen}
use Rattle.capnp_schema.specs.Query.{records_of}
use Rattle.capnp_schema.proofs.StructLookUps.{members_are_few}
use Rattle.capnp_schema.proofs.schema.structs.StructSchema.get_union_fields.Goals as goal

pub new-requires-clause-few : goal.new-requires-clause-few
new-requires-clause-few c = members_are_few (records_of (lists_seen c.args.self.schemas.now) c.args.self.number) c.members.result.now c.members.ensures
