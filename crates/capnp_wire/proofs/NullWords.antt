-- What stands at a word of zeros is null, whatever levels are left.
use Rattle.std.proofs.Common.{◌≡◌, ℕ, ◌-◌, List, ap, ◌∙◌}
use Rattle.capnp_wire.specs.Tree.{Null}
use Rattle.capnp_wire.specs.Locate.{NoTarget, Segments, target_at}
use Rattle.capnp_wire.specs.Steps.Level.{tree_at_depth}
use Rattle.capnp_wire.specs.Place.{tree_below}
use Rattle.capnp_wire.specs.Facts.Levels.{below_step}

pub null_below : (depth : ℕ) (segments : Segments) (segment : List ℕ) (w : ℕ) → target_at segments segment w ≡ NoTarget → tree_below depth segments segment w ≡ Null
null_below depth segments segment w e =
    below_step depth segments segment w ∙ ap (tree_at_depth depth (tree_below (depth - 1) segments) (tree_below (depth - 2) segments)) e
