use Rattle.capnp_wire.specs.Facts.Places.{IsWellFormed_tree_at, IsWellFormed_tree_below}
use Rattle.capnp_wire.proofs.laws.trees_are_well_formed.Goals as goal

pub returns : goal.returns
returns c levels segments segment w h s = (IsWellFormed_tree_at levels segments segment w h s, IsWellFormed_tree_below levels segments segment w h s)
