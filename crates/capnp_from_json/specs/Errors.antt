-- Why a JSON text stands for no message: the numbers and places of errors.
use Rattle.std.specs.Prelude.{ℕ, List, codes, Option, Some, None, ⊤, ◌≡◌, Result, Err}
use Rattle.capnp_from_json.specs.declared.error.RefusalKind.{RefusalKind}
use Rattle.capnp_from_json.specs.declared.error.RefusalKind.TheVariants.{TooDeep, SizePastFormat, NotJson, WrongJsonKind, NumberOutOfRange, GivenTwice, NameUnknown}
use Rattle.capnp_from_json.specs.declared.error.Refusal.{Refusal}
use Rattle.capnp_from_json.specs.declared.error.Error.{Error}
use Rattle.capnp_from_json.specs.declared.error.Error.TheVariants.{OutOfMemory, TooLarge, Refused}

abbrev pub kind_number : RefusalKind → ℕ
kind_number TooDeep = 8
kind_number SizePastFormat = 10
kind_number NotJson = 70
kind_number WrongJsonKind = 71
kind_number NumberOutOfRange = 72
kind_number GivenTwice = 73
kind_number NameUnknown = 74

abbrev pub kind_name : RefusalKind → List ℕ
kind_name TooDeep = codes "TooDeep"
kind_name SizePastFormat = codes "SizePastFormat"
kind_name NotJson = codes "NotJson"
kind_name WrongJsonKind = codes "WrongJsonKind"
kind_name NumberOutOfRange = codes "NumberOutOfRange"
kind_name GivenTwice = codes "GivenTwice"
kind_name NameUnknown = codes "NameUnknown"

abbrev pub error_number : Error → ℕ
error_number OutOfMemory = 1
error_number TooLarge = 11
error_number (Refused r) = kind_number r.kind

abbrev pub error_place : Error → Option ℕ
error_place OutOfMemory = None
error_place TooLarge = None
error_place (Refused r) = Some r.place

-- what is read, or the first refusal
abbrev pub Read : Type 0 → Type 0
Read A = Result A Refusal

abbrev pub refused : {A : Type 0} → RefusalKind → (place : ℕ) → Read A
refused kind place = Err (record { kind = kind; place = place })

-- why a read failed: memory was refused, or the text is
abbrev pub IsErrorOf : {A : Type 0} → Read A → Error → Type 0
IsErrorOf r OutOfMemory = ⊤
IsErrorOf r TooLarge = ⊥
IsErrorOf r (Refused refusal) = r ≡ Err refusal
