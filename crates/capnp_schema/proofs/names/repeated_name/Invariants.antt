use Rattle.std.proofs.Common.{map, ℕ, ◌≢◌, ◌<◌, ◌+◌, get_or}
use Rattle.capnp_schema.specs.Schema.{seen_field}
use Rattle.capnp_schema.specs.Names.{name_at}
use Rattle.capnp_schema.proofs.names.repeated_name.Given as goal

abbrev pub invariant-loop-k : goal.invariant-loop-k
invariant-loop-k l = (j : ℕ) → j + 1 < l.k → name_at (map seen_field l.fields) (get_or l.order j 0) ≢ name_at (map seen_field l.fields) (get_or l.order (j + 1) 0)
