use Rattle.capnp_wire.specs.Found.{pointer_trees}
use Rattle.capnp_arena.specs.Steps.Copies.{fitted_row}
use Rattle.capnp_arena.proofs.Copying.{IsRowFilled}
use Rattle.capnp_arena.proofs.contents.fill_fitted.Given as goal

abbrev pub invariant-loop-i : goal.invariant-loop-i
invariant-loop-i l = IsRowFilled l.at l.i (fitted_row l.count (pointer_trees l.pointers)) l.fn.arena.bytes.items l.arena.bytes.items
