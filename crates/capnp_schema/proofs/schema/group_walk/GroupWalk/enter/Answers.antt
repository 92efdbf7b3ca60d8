-- The frame behind a field stands above its group.
use Rattle.std.proofs.Common.{ℕ, ◌+◌, ◌∷◌, ◌∙◌, List, ap, arith}
use Rattle.capnp_schema.specs.Facts.GroupWalks.{frames_group}
use Rattle.capnp_schema.specs.GroupWalks.{walk_brand, walk_depth, walk_index, walk_set, frames_above}
use Rattle.capnp_schema.specs.Schema.{Schemas}
use Rattle.capnp_schema.specs.StructHandles.{number_of}
use Rattle.capnp_schema.proofs.schema.group_walk.GroupWalk.enter.Goals as goal

pub returns-clause-frames : goal.returns-clause-frames
returns-clause-frames c = ap (λ (rest : List (ℕ × ℕ)). (number_of c.args.group, 0) ∷ rest)
    (ap (λ (z : Schemas). frames_above z (walk_depth c.args.self + 1) (number_of c.args.group)) c.requires.set
    ∙ frames_group (walk_set c.args.self) (walk_depth c.args.self) (walk_depth c.args.self + 1) (number_of c.args.group) (walk_brand c.args.self) (walk_index c.args.self) (omega arith) c.requires.field)
