use Rattle.std.proofs.Common.{◌++◌, ◌∷◌, []}
use Rattle.capnp_schema.proofs.Checking.LevelTimes.{ClaimedTo}
use Rattle.capnp_schema.proofs.check.claims.claim_marks.Given as goal

abbrev pub invariant-loop-i : goal.invariant-loop-i
invariant-loop-i l = ClaimedTo (l.below ++ l.top ∷ []) l.now l.first l.i l.initial.marks l.marks
