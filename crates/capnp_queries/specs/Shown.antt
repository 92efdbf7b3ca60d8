-- What stands at a path of a message, as it is written: its text, which shows floats, and a line break, or the bytes of a
-- text or data.
use Rattle.std.specs.Prelude.{ℕ, suc, ◌<◌, ◌≤◌, ◌≡◌, ⊤, List, length, Bool, true, Option, Some, None, Ok, Err}
use Rattle.capnp_schema.specs.Schema.{Schemas}
use Rattle.capnp_records.specs.Call.{PathStep}
use Rattle.capnp_records.specs.Record as value
use Rattle.capnp_records.specs.Record.{Value}
use Rattle.capnp_records.specs.Text.{Out}
use Rattle.capnp_dynamic_readers.specs.Pieces.{IsLonger}
use Rattle.capnp_show_engine.specs.Show.{IsLineOf, as_printed}
use Rattle.capnp_float_texts.specs.Texts.{float_text_of}
use Rattle.capnp_patch.specs.Gets.{Reached, is_group_type}
use Rattle.capnp_queries.specs.Floats.{floats_at}
use Rattle.capnp_queries.specs.Reach.{at_path}

-- the bytes of a text or data, where it is asked for raw
abbrev pub raw_bytes : (raw : Bool) → Value → Option (List ℕ)
raw_bytes true (value.Text bytes) = Some bytes
raw_bytes true (value.Data bytes) = Some bytes
raw_bytes raw v = None

-- a line whose text has at most so many bytes
abbrev pub IsLineWithin : (limit : ℕ) → Out → (line : List ℕ) → Type 0
IsLineWithin limit o line = IsLineOf o line × (length line ≤ suc limit)

-- such bytes alone, or else a line; of at most so many bytes, without the line break
abbrev pub IsWritten : Option (List ℕ) → (limit : ℕ) → Out → (written : List ℕ) → Type 0
IsWritten (Some raw) limit o written = (written ≡ raw) × (length raw ≤ limit)
IsWritten None limit o written = IsLineWithin limit o written

-- there are more
abbrev pub IsTooLong : Option (List ℕ) → (limit : ℕ) → Out → Type 0
IsTooLong (Some raw) limit o = limit < length raw
IsTooLong None limit o = IsLonger limit o

-- the text of what stands there, whose numbers are floats or not
abbrev pub reached_float_text : Schemas → (floats indented : Bool) → Reached → Out
reached_float_text set floats indented (Err kind) = Err kind
reached_float_text set floats indented (Ok p) = float_text_of set floats indented p.type (as_printed (is_group_type set p.type) p.value)

abbrev pub IsReachedShown : Schemas → (floats raw indented : Bool) → (limit : ℕ) → Reached → (written : List ℕ) → Type 0
IsReachedShown set floats raw indented limit (Err kind) written = ⊥
IsReachedShown set floats raw indented limit (Ok p) written = IsWritten (raw_bytes raw p.value) limit (reached_float_text set floats indented (Ok p)) written

abbrev pub IsReachedTooLong : Schemas → (floats raw indented : Bool) → (limit : ℕ) → Reached → Type 0
IsReachedTooLong set floats raw indented limit (Err kind) = ⊤
IsReachedTooLong set floats raw indented limit (Ok p) = IsTooLong (raw_bytes raw p.value) limit (reached_float_text set floats indented (Ok p))

-- what is written of what stands at a path, whose last field says whether its numbers are floats
abbrev pub IsShownAt : Schemas → ℕ → List PathStep → (raw indented : Bool) → (limit : ℕ) → (bytes : List ℕ) → (written : List ℕ) → Type 0
IsShownAt set b path raw indented limit bytes written = IsReachedShown set (floats_at set b path) raw indented limit (at_path set b path bytes) written

-- It is longer than it may be. Of what isn't reached nothing is said.
abbrev pub IsTooLongAt : Schemas → ℕ → List PathStep → (raw indented : Bool) → (limit : ℕ) → (bytes : List ℕ) → Type 0
IsTooLongAt set b path raw indented limit bytes = IsReachedTooLong set (floats_at set b path) raw indented limit (at_path set b path bytes)
