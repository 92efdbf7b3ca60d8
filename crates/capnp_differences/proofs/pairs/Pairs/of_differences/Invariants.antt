use Rattle.capnp_differences.specs.Steps.Gathering.{Gathers, IsToldAt}
use Rattle.capnp_differences.proofs.pairs.Pairs.of_differences.Given as goal

abbrev pub invariant-loop-i : goal.invariant-loop-i
invariant-loop-i l = Gathers (IsToldAt l.told) l.pairs l.i
