-- What is so of one entry of a list, and of all.
use Rattle.std.specs.Prelude.{ℕ, ◌≡◌, List, All, slice_get, Option, Some, MatchOption}
use Rattle.capnp_schema.specs.Broken.{EntryBreaks}

-- P is so of entry i, where there is one
abbrev pub IsSoAt : {A : Type 0} → List A → (A → Type 0) → ℕ → Type 0
IsSoAt {A} xs P i = (x : A) → slice_get xs i ≡ Some x → P x

-- no entry is answered and P is so of all, or one is of which P isn't so
abbrev pub AllOrBroken : {A : Type 0} → List A → (A → Type 0) → Option ℕ → Type 0
AllOrBroken xs P result = MatchOption result (All P xs) (EntryBreaks xs P)
