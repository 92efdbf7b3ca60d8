-- how a device counts its failures
use Rattle.std.specs.Prelude.{◌≡◌, ℕ, zero, suc, ◌+◌, ◌-◌, ◌^◌, ◌<◌, min, MatchResult, Result, Option, None, Some}

-- the last value of a count of failures
abbrev pub last_count : ℕ
last_count = 2 ^ 64 - 1

-- the count stayed, and is below its last value
abbrev pub HasWorked : ℕ → ℕ → Type 0
HasWorked old new = (new ≡ old) × (old < last_count)

-- the count rose by one, or stands at its last value
abbrev pub HasFailed : ℕ → ℕ → Type 0
HasFailed old new = new ≡ min (old + 1) last_count

-- a call that worked leaves the count, which is below its last value; a failed one raises it
abbrev pub Counts : {A E : Type 0} → ℕ → ℕ → Result A E → Type 0
Counts old new r = MatchResult r (λ _. HasWorked old new) (λ _. HasFailed old new)

-- how many calls work before the chosen one, after one more call
abbrev pub calls_after : Option ℕ → Option ℕ
calls_after None = None
calls_after (Some zero) = None
calls_after (Some (suc n)) = Some n
