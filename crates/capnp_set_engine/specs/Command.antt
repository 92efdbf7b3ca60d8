-- What the program's words say, and what is told where no set is written.
use Rattle.std.specs.Prelude.{ℕ, ◌≡◌, List, [], ◌∷◌, ◌++◌, Bool, true, false, Option, Some, None, String, string_bytes, bytes_eq, codes, if◌then◌else◌}
use Rattle.capnp_device.specs.Device.{HasFailed}
use Rattle.capnp_device.specs.declared.error.Error.{Error}
use Rattle.capnp_device.specs.declared.error.ErrorKind.TheVariants.{ReadFailed, WriteFailed}
use Rattle.capnp_show_engine.specs.Show.{IsOfMessage}
use Rattle.capnp_set_engine.specs.Convert.{IsCutShort, IsRefused}

-- what the words ask for: a conversion, and whether it refuses floats and interfaces
abbrev pub asked_conversion : {A : Type 0} → List (String A) → Option Bool
asked_conversion [] = Some false
asked_conversion (option ∷ []) = if bytes_eq (string_bytes option) (codes "--strict") then Some true else None
asked_conversion (option ∷ more ∷ words) = None

-- how the program is called
abbrev pub set_usage_line : List ℕ
set_usage_line = codes "usage: capnp_set [--strict]" ++ 10 ∷ []

-- A conversion that was refused; by what the source had left before and after, what was written, and the counts of failures
-- of source and sink. Nothing was written, or after a failure of the sink a beginning.
pub record IsRefusedRun (strict : Bool) (e : Error) (left left' written written' : Option (List ℕ)) (reads reads' writes writes' : ℕ) : Type 0 where
  pub of_request : IsOfMessage e.kind → IsRefused strict e left left'
  pub read_failed : e.kind ≡ ReadFailed → HasFailed reads reads'
  pub write_failed : e.kind ≡ WriteFailed → HasFailed writes writes'
  pub beginning : e.kind ≡ WriteFailed → IsCutShort strict left left' written written'
