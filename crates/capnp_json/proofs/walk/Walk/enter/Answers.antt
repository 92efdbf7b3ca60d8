-- The frame behind a field stands above its group.
use Rattle.std.proofs.Common.{ap, arith, ◌+◌, ◌∙◌}
use Rattle.capnp_schema.specs.Facts.GroupWalks.{frames_group}
use Rattle.capnp_schema.specs.FieldLists.{index_of}
use Rattle.capnp_schema.specs.GroupWalks.{frames_above}
use Rattle.capnp_schema.specs.Schema.{Schemas}
use Rattle.capnp_schema.specs.StructHandles.{number_of}
use Rattle.capnp_json.specs.Steps.Walks.{walk_brand, walk_depth, walk_set}
use Rattle.capnp_json.proofs.walk.Walk.enter.Goals as goal

pub returns-clause-above : goal.returns-clause-above
returns-clause-above c =
    ap (λ (z : Schemas). frames_above z (walk_depth c.args.self + 1) (number_of c.args.group)) c.requires.set
    ∙ frames_group (walk_set c.args.self) (walk_depth c.args.self) (walk_depth c.args.self + 1) (number_of c.args.group) (walk_brand c.args.self) (index_of c.args.field) (omega arith) c.requires.back
