-- Bytes of strings.
use Rattle.std.specs.Prelude.{ℕ, Bool, false, not, ◌==◌, nat_lt, cond}

-- whether a byte stands in a string as it is
abbrev pub is_plain : ℕ → Bool
is_plain b = cond (nat_lt b 32) false (cond (b == 34) false (not (b == 92)))
