use Rattle.capnp_differences.specs.Steps.Gathering.{Gathers, IsAt}
use Rattle.capnp_differences.proofs.pairs.Pairs.of_list.Given as goal

abbrev pub invariant-loop-i : goal.invariant-loop-i
invariant-loop-i l = Gathers (IsAt l.asked) l.pairs l.i
