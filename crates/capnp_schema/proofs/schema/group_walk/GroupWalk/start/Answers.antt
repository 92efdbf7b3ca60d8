-- No frames are above a start.
use Rattle.std.proofs.Common.{ℕ, ◌∷◌, List, ap}
use Rattle.capnp_schema.specs.Facts.GroupWalks.{frames_none}
use Rattle.capnp_schema.specs.StructHandles.{number_of, set_of}
use Rattle.capnp_schema.proofs.schema.group_walk.GroupWalk.start.Goals as goal

pub returns-clause-frames : goal.returns-clause-frames
returns-clause-frames c = ap (λ (rest : List (ℕ × ℕ)). (number_of c.args.schema, 0) ∷ rest) (frames_none (set_of c.args.schema) (number_of c.args.schema))
