-- An interval by its parts.
use Rattle.std.specs.Prelude.{ℕ, Bool}
use Rattle.capnp_floats.specs.Shortest.{Interval}

abbrev pub interval : Bool → ℕ → ℕ → ℕ → ℕ → Interval
interval ends s v b a = record { one = s; value = v; below = b; above = a; has_ends = ends }
