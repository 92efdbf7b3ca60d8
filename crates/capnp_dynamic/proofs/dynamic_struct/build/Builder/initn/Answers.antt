-- The field has what was started there.
use Rattle.capnp_dynamic.specs.Built.{built_schema, built_struct}
use Rattle.capnp_dynamic.proofs.Builders.{room_for}
use Rattle.capnp_dynamic.proofs.dynamic_struct.build.Builder.initn.Goals as goal

pub start_sized-requires-clause-room : goal.start_sized-requires-clause-room
start_sized-requires-clause-room c = room_for c.args.field (built_schema c.args.self) (built_struct c.args.self) c.requires.belongs c.requires.ready.room
