use Rattle.capnp_schema.specs.Facts.GroupWalks.{frames_none}
use Rattle.capnp_schema.specs.StructHandles.{number_of, set_of}
use Rattle.capnp_json.proofs.walk.Walk.start.Goals as goal

pub returns-clause-above : goal.returns-clause-above
returns-clause-above c = frames_none (set_of c.args.schema) (number_of c.args.schema)
