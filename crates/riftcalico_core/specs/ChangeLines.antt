-- The line of a change: the word of its call, as `patch` reads it.
use Rattle.std.specs.Prelude.{ℕ, ◌≡◌, ◌⊎◌, ⊤, List, [], ◌∷◌, ◌++◌, Bool, true, false, not, Result, Some, Ok, Err, codes, decimal}
use Rattle.std.specs.Str.{is_utf8}
use Rattle.capnp_call.specs.Seen.{path_seen, step_seen}
use Rattle.capnp_call.specs.declared.calls.Op.{Op}
use Rattle.capnp_call.specs.declared.calls.Op.TheVariants as op
use Rattle.capnp_diffs.specs.Changes.{same_leaf}
use Rattle.capnp_diffs.specs.declared.change.Change.{Change as FoundChange}
use Rattle.capnp_dynamic_readers.specs.Pieces.{IsLonger}
use Rattle.capnp_dynamic_readers.specs.Seen.{value_seen}
use Rattle.capnp_dynamic_readers.specs.declared.dynamic_value.Reader.{Reader as DynamicValue}
use Rattle.capnp_dynamic_readers.specs.declared.dynamic_value.Reader.TheVariants as dynamic
use Rattle.capnp_float_texts.specs.Printed.{printed_float_text}
use Rattle.capnp_json.specs.Errors.{json_error_name, json_error_number}
use Rattle.capnp_json.specs.Pieces.{IsJson}
use Rattle.capnp_json.specs.Written.{IsRefused, written_json_as}
use Rattle.capnp_json.specs.declared.error.JsonError.{JsonError}
use Rattle.capnp_json.specs.declared.error.JsonError.TheVariants.{OutOfMemory, Read, TextNotUtf8, TooLarge, UntypedHasNoJson}
use Rattle.capnp_json.specs.declared.forms.Form.{Form}
use Rattle.capnp_queries.specs.Floats.{form_at}
use Rattle.capnp_records.specs.Call.{PathStep}
use Rattle.capnp_records.specs.Record.{Value}
use Rattle.capnp_records.specs.Run.{root_type}
use Rattle.capnp_records.specs.Text.{IsText, Out}
use Rattle.capnp_schema.specs.Schema.{Schemas}
use Rattle.capnp_schema.specs.Types.{SchemaType}
use Rattle.capnp_words.specs.Calls.{Clear, Init, Set, op_word}
use Rattle.capnp_words.specs.Marked.{marked_value_by_word}
use Rattle.capnp_words.specs.Reads.{Read as WordRead}
use Rattle.riftcalico_core.specs.AllFaults.{part_note}
use Rattle.riftcalico_core.specs.FieldNames.{named_path}
use Rattle.riftcalico_core.specs.Replies.{Unknown, types_along}
use Rattle.riftcalico_core.specs.declared.change_line.NoWord.{NoWord}
use Rattle.riftcalico_core.specs.declared.change_line.NoWord.TheVariants as none

-- ---- the path ----

abbrev pub change_steps : FoundChange → List PathStep
change_steps c = path_seen c.path.items ++ step_seen c.last ∷ []

-- its fields by their names
abbrev pub change_path : Schemas → ℕ → FoundChange → List PathStep
change_path set b c = named_path set (Some (root_type set b)) (change_steps c)

-- ---- the word of a value ----

-- what a word is read as is a value
abbrev pub is_read : Value → WordRead Value → Bool
is_read v (Ok u) = same_leaf v u
is_read v (Err place) = false

-- under the type that a path leads to
abbrev pub is_read_under : Schemas → (floats : Bool) → Result SchemaType Unknown → Value → (word : List ℕ) → Bool
is_read_under set floats (Ok t) v word = is_read v (marked_value_by_word set floats t word)
is_read_under set floats (Err x) v word = false

-- a value without parts: what is printed of it, which is read back as the value
pub record IsLeafWord (set : Schemas) (form : Form) (t : Result SchemaType Unknown) (v : DynamicValue) (word : List ℕ) : Type 0 where
  pub printed : IsText (printed_float_text form.floats false v) word
  pub read : is_read_under set form.floats t (value_seen v) word ≡ true

-- a struct or list: its JSON on one line
abbrev pub IsValueWord : Schemas → Form → Result SchemaType Unknown → DynamicValue → (word : List ℕ) → Type 0
IsValueWord set form t (dynamic.Struct s) word = IsJson (written_json_as form false (dynamic.Struct s)) word
IsValueWord set form t (dynamic.List l) word = IsJson (written_json_as form false (dynamic.List l)) word
IsValueWord set form t v word = IsLeafWord set form t v word

-- what is printed has an end, behind which it is refused so
abbrev pub IsUnprinted : (left : ℕ) → Out → JsonError → Type 0
IsUnprinted left o (Read kind) = o ≡ Err kind
IsUnprinted left o TooLarge = IsLonger left o
IsUnprinted left o OutOfMemory = ⊤
IsUnprinted left o UntypedHasNoJson = ⊥
IsUnprinted left o TextNotUtf8 = ⊥

-- whether a value is a text that is not UTF-8
abbrev pub is_no_utf8 : DynamicValue → Bool
is_no_utf8 (dynamic.Text t) = not (is_utf8 t.0.now)
is_no_utf8 v = false

-- what is printed is read as another value, or as none
pub record IsUnreadWord (set : Schemas) (form : Form) (t : Result SchemaType Unknown) (v : DynamicValue) : Type 0 where
  pub word : List ℕ
  pub printed : IsText (printed_float_text form.floats false v) word
  pub unread : is_read_under set form.floats t (value_seen v) word ≡ false

abbrev pub IsLeafless : (left : ℕ) → Schemas → Form → Result SchemaType Unknown → DynamicValue → NoWord → Type 0
IsLeafless left set form t v none.Unread = IsUnreadWord set form t v
IsLeafless left set form t v (none.Refused why) = IsUnprinted left (printed_float_text form.floats false v) why ⊎ ((why ≡ TextNotUtf8) × (is_no_utf8 v ≡ true))

abbrev pub IsJsonless : (left : ℕ) → Form → DynamicValue → NoWord → Type 0
IsJsonless left form v none.Unread = ⊥
IsJsonless left form v (none.Refused why) = IsRefused left (written_json_as form false v) why

-- a value has no word of at most so many bytes, for this cause
abbrev pub IsWordless : (left : ℕ) → Schemas → Form → Result SchemaType Unknown → DynamicValue → NoWord → Type 0
IsWordless left set form t (dynamic.Struct s) why = IsJsonless left form (dynamic.Struct s) why
IsWordless left set form t (dynamic.List l) why = IsJsonless left form (dynamic.List l) why
IsWordless left set form t (dynamic.AnyPointer p) why = why ≡ none.Refused UntypedHasNoJson
IsWordless left set form t v why = IsLeafless left set form t v why

-- ---- the line ----

-- the form and the type of what a path of a root leads to
abbrev pub IsPutWord : Schemas → ℕ → List PathStep → DynamicValue → (word : List ℕ) → Type 0
IsPutWord set b path v word = IsValueWord set (form_at set b path) (types_along set (root_type set b) path) v word

pub record IsSetLine (set : Schemas) (b : ℕ) (path : List PathStep) (v : DynamicValue) (line : List ℕ) : Type 0 where
  pub word : List ℕ
  pub is : IsPutWord set b path v word
  pub line_is : line ≡ op_word path (Set word 0)

abbrev pub IsOpLine : Schemas → ℕ → List PathStep → Op → (line : List ℕ) → Type 0
IsOpLine set b path (op.Set v) line = IsSetLine set b path v line
IsOpLine set b path op.Init line = line ≡ op_word path Init
IsOpLine set b path o line = line ≡ op_word path Clear

abbrev pub IsChangeLine : Schemas → ℕ → FoundChange → (line : List ℕ) → Type 0
IsChangeLine set b c line = IsOpLine set b (change_path set b c) c.op line

-- what stands before the word of a value
abbrev pub set_heading : List PathStep → List ℕ
set_heading path = op_word path (Set [] 0)

-- ---- the refusal ----

-- the refusals that no message has
abbrev pub is_own : NoWord → Bool
is_own none.Unread = true
is_own (none.Refused UntypedHasNoJson) = true
is_own (none.Refused TextNotUtf8) = true
is_own (none.Refused (Read kind)) = false
is_own (none.Refused OutOfMemory) = false
is_own (none.Refused TooLarge) = false

abbrev pub cause_number : NoWord → ℕ
cause_number none.Unread = 75
cause_number (none.Refused why) = json_error_number why

abbrev pub cause_name : NoWord → List ℕ
cause_name none.Unread = codes "ValueHasNoWord"
cause_name (none.Refused why) = json_error_name why

-- one of them as a line, with the place in the newer message
abbrev pub wordless_line : NoWord → List PathStep → List ℕ
wordless_line why path = codes "refused: " ++ decimal (cause_number why) ++ codes " " ++ cause_name why ++ part_note path [] ++ codes "\n"
