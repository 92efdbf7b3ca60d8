-- What is read of a text, or its first refusal with its place.
use Rattle.std.specs.Prelude.{ℕ, ⊤, ◌-◌, ◌≡◌, List, length, Result, Ok, Err}
use Rattle.capnp_value_texts.specs.declared.error.RefusalKind.{RefusalKind}
use Rattle.capnp_value_texts.specs.declared.error.RefusalKind.TheVariants.{CannotStand}
use Rattle.capnp_value_texts.specs.declared.error.Refusal.{Refusal}
use Rattle.capnp_value_texts.specs.declared.error.Error.{Error}
use Rattle.capnp_value_texts.specs.declared.error.Error.TheVariants.{NotMade, OutOfMemory, Refused}

abbrev pub Read : Type 0 → Type 0
Read A = Result A Refusal

abbrev pub refused : {A : Type 0} → RefusalKind → (place : ℕ) → Read A
refused kind place = Err (record { kind = kind; place = place })

-- the first of these last bytes of a text can't stand there
abbrev pub cannot_stand : {A : Type 0} → (whole : ℕ) → List ℕ → Read A
cannot_stand whole bs = refused CannotStand (whole - length bs)

abbrev pub read_as : {A B : Type 0} → (A → B) → Read A → Read B
read_as f (Ok x) = Ok (f x)
read_as f (Err r) = Err r

abbrev pub read_then : {A B : Type 0} → Read A → (A → Read B) → Read B
read_then (Ok x) f = f x
read_then (Err r) f = Err r

-- why a read failed: memory was refused, or the text is
abbrev pub IsErrorOf : {A : Type 0} → Read A → Error → Type 0
IsErrorOf r OutOfMemory = ⊤
IsErrorOf r (Refused refusal) = r ≡ Err refusal
IsErrorOf r (NotMade kind) = ⊥
