-- There is no colon from the part's begin on, and one right before it.
use Rattle.std.proofs.Common.{ℕ, ◌≡◌, ◌≢◌, ◌<◌, ◌≤◌, get_or, suc}
use Rattle.capnp_request.proofs.names.behind_colon.Given as goal

abbrev pub invariant-loop-index : goal.invariant-loop-index
invariant-loop-index l = (l.start ≤ l.index) × ((k : ℕ) → l.start ≤ k → k < l.index → get_or l.name k 0 ≢ 58) × ((k : ℕ) → l.start ≡ suc k → get_or l.name k 0 ≡ 58)
