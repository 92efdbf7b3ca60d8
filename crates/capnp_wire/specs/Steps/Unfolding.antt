-- What a walk has left of an allowance.
use Rattle.std.specs.Prelude.{ℕ, ◌+◌, ◌<◌, ◌≡◌, Option, Some, None}

-- nothing where there is more than is allowed
abbrev pub IsLeft : (allowed size : ℕ) → Option ℕ → Type 0
IsLeft allowed size None = allowed < size
IsLeft allowed size (Some rest) = allowed ≡ size + rest
