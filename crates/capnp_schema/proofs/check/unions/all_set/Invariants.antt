use Rattle.std.proofs.Common.{ℕ, ◌<◌, ◌≡◌, get_or, true, false}
use Rattle.capnp_schema.proofs.check.unions.all_set.Given as goal

abbrev pub invariant-loop-d : goal.invariant-loop-d
invariant-loop-d l = (k : ℕ) → k < l.d → get_or l.marks k false ≡ true
