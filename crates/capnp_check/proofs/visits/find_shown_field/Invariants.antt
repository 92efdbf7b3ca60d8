use Rattle.capnp_check.proofs.PartsVisited.{NoneBefore}
use Rattle.capnp_check.proofs.visits.find_shown_field.Given as goal

abbrev pub invariant-loop-index : goal.invariant-loop-index
invariant-loop-index l = NoneBefore l.fn.left l.fn.reader l.fn.first l.index
