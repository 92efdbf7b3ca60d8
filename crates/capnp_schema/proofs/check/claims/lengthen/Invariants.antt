use Rattle.std.proofs.Common.{ℕ, ◌≡◌, ◌≤◌, length, get_or}
use Rattle.capnp_schema.proofs.check.claims.lengthen.Given as goal

abbrev pub invariant-loop : goal.invariant-loop
invariant-loop l = record {
  same : (i : ℕ) → get_or l.marks.items i 0 ≡ get_or l.initial.marks.items i 0;
  long : l.counter ≤ length l.marks.items;
}
