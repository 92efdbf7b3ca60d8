-- Texts as they are put piece by piece into a place.
use Rattle.std.specs.Prelude.{ℕ, List, ◌++◌, ◌<◌, ◌≡◌, ⊤, Ok, Err, length, string_bytes}
use Rattle.capnp_device.specs.declared.error.ErrorKind.{ErrorKind}
use Rattle.capnp_device.specs.declared.error.ErrorKind.TheVariants.{OutOfMemory, TooLarge}
use Rattle.capnp_records.specs.Text.{IsSpelled, IsText, Out}
use Rattle.capnp_dynamic_readers.specs.declared.walk.output.Made.{Made}
use Rattle.capnp_dynamic_readers.specs.declared.walk.output.Stop.{Stop}
use Rattle.capnp_dynamic_readers.specs.declared.walk.output.Stop.TheVariants.{Full, Refused, TooLong}

-- a string after a text was appended to it
abbrev pub IsAppended : List ℕ → Out → List ℕ → Type 0
IsAppended old o new = (bytes : List ℕ) × IsText o bytes × (new ≡ old ++ bytes)

-- A text is longer than so many bytes: one of its spellings is, and where all its bytes are known it has no other. Of a text
-- that is refused nothing is said: the refusal may stand behind so many bytes.
abbrev pub IsLonger : ℕ → Out → Type 0
IsLonger limit (Ok pieces) = (bytes : List ℕ) × IsSpelled pieces bytes × (limit < length bytes)
IsLonger limit (Err kind) = ⊤

-- what a place has taken: the bytes of a string, which may be so many; of a formatter that is not said
pub data Taken : Type 0 where
  Untold : Taken
  Within : (limit : ℕ) → (bytes : List ℕ) → Taken

-- the bytes of a string that is being made
abbrev pub made_bytes : Made → List ℕ
made_bytes made = string_bytes made.text

abbrev pub made_text : Made → Taken
made_text made = Within made.limit (made_bytes made)

-- the number of the refusal of a printer that stopped in a string
abbrev pub stopped_kind : Stop → ErrorKind
stopped_kind (Refused e) = e.kind
stopped_kind Full = OutOfMemory
stopped_kind TooLong = TooLarge
