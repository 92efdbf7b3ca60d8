use Rattle.std.proofs.Common.{sym}
use Rattle.capnp_wire.specs.Facts.Indexed.{nth_tree_from, nth_tree_past}
use Rattle.capnp_wire.proofs.parts.pointers.get_pointer.Goals as goal

pub returns-then-index-pointers : goal.returns-then-index-pointers
returns-then-index-pointers c = sym (nth_tree_past _ _ _ _ c.if-index-pointers.true)

pub returns : goal.returns
returns c = sym (nth_tree_from _ _ _ _ c.if-index-pointers.false)
