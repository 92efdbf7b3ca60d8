use Rattle.std.proofs.Common.{ℕ, ◌≡◌, ◌<◌, vec_len, get_or}
use Rattle.capnp_schema.proofs.names.name_order.Given as goal

abbrev pub invariant-loop-i : goal.invariant-loop-i
invariant-loop-i l = (vec_len l.indices ≡ l.i) × ((k : ℕ) → k < l.i → get_or l.indices.items k 0 ≡ k)
