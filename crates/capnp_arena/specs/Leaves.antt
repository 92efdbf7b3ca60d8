-- What a call leaves at a pointer.
use Rattle.std.specs.Prelude.{◌≡◌, List, ℕ}
use Rattle.capnp_wire.specs.Tree.{Tree}
use Rattle.capnp_arena.specs.Forest.{Changes, Forest, tree}
use Rattle.capnp_arena.specs.Shape.{shape_at}

-- a tree, which starts where the one before did, and nothing else has changed
pub record Leaves (at : ℕ) (t : Tree) (old new : List ℕ) : Type 0 where
  pub forest : Forest new at
  pub tree : tree new at ≡ t
  pub changes : Changes at old new
  pub place : shape_at new at ≡ shape_at old at
