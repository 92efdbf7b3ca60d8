-- What a word is read as, or the place in it of the first byte that can't stand: its length where it ends too soon.
use Rattle.std.specs.Prelude.{ℕ, List, [], ◌∷◌, Option, Some, None, Result, Ok, Err}

abbrev pub Read : Type 0 → Type 0
Read A = Result A ℕ

abbrev pub read_as : {A B : Type 0} → (A → B) → Read A → Read B
read_as f (Ok x) = Ok (f x)
read_as f (Err place) = Err place

abbrev pub read_then : {A B : Type 0} → Read A → (A → Read B) → Read B
read_then (Ok x) f = f x
read_then (Err place) f = Err place

-- what stands at a place, or nothing that can
abbrev pub stands_or : {A B : Type 0} → Option A → (place : ℕ) → (A → Read B) → Read B
stands_or None place f = Err place
stands_or (Some x) place f = f x

-- the word ends here
abbrev pub ended_read : {A : Type 0} → A → (place : ℕ) → List ℕ → Read A
ended_read x place [] = Ok x
ended_read x place (b ∷ bs) = Err place
