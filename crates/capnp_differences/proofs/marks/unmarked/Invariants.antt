use Rattle.std.proofs.Common.{◌≡◌, ◌++◌, drop, map, not}
use Rattle.capnp_differences.specs.Closing.{listed_pairs}
use Rattle.capnp_differences.specs.declared.differences.Pair.{Pair}
use Rattle.capnp_differences.proofs.marks.unmarked.Given as goal

abbrev pub invariant-loop-pair : goal.invariant-loop-pair
invariant-loop-pair l = l.follows.items ++ map (λ (p : Pair). not (listed_pairs l.marked p.older p.newer)) (drop l.pair-index l.asked) ≡ map (λ (p : Pair). not (listed_pairs l.marked p.older p.newer)) l.asked
