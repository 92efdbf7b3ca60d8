-- Structs and lists that words give as JSON texts.
use Rattle.std.specs.Prelude.{ℕ, ◌+◌, ◌-◌, ◌==◌, ◌||◌, ◌≡◌, ◌≤◌, cond, Bool, true, false, ◌&&◌, List, [], ◌∷◌, length, Ok, Err}
use Rattle.capnp_wire.specs.Depth.{IsShallow, message_levels}
use Rattle.capnp_wire.specs.Tree.{Tree}
use Rattle.capnp_arena.specs.Message.{message_tree}
use Rattle.capnp_arena.specs.declared.arena.Arena.{Arena}
use Rattle.capnp_base.specs.declared.introspect.«Type».{«Type» as TypeHandle}
use Rattle.capnp_schema.specs.Schema.{Schemas}
use Rattle.capnp_schema.specs.Types.{SchemaType, seen_type}
use Rattle.capnp_records.specs.Call.{Source}
use Rattle.capnp_records.specs.Record.{MoreValues, NoValues, Value}
use Rattle.capnp_json_text.specs.Readings.{after_blanks}
use Rattle.capnp_json_fields.specs.Marks.{has_float_base}
use Rattle.capnp_from_json.specs.declared.error.RefusalKind.{RefusalKind}
use Rattle.capnp_json_messages.specs.Holders.{text_element}
use Rattle.capnp_json_messages.specs.Ones.{IsTakenAs, element_source}
use Rattle.capnp_json_messages.specs.Put.{IsListOf}
use Rattle.capnp_json_messages.specs.Walks.{AreRules, IsRead}
use Rattle.capnp_words.specs.Reads.{Read}

-- ---- what is given ----

-- a value of the type, for which a text stands by names that the type has, as an element of a list; a set takes a copy of it
pub record IsWholeRead (set : Schemas) (floats : Bool) (t : SchemaType) (text : List ℕ) (s : Source) : Type 0 where
  pub value : Value
  pub is : IsRead set true (text_element t (floats && has_float_base t) text) value
  pub taken : IsTakenAs set t s value

-- it stands in a list of one of a type
abbrev pub whole_source : Arena × TypeHandle → Source
whole_source w = element_source (seen_type w.1) (message_tree w.0)

-- ---- where it can't be read ----

-- `{` and `[`
abbrev pub is_opening : ℕ → Bool
is_opening b = b == 123 || b == 91

-- an object or an array begins
abbrev pub begins_whole : List ℕ → Bool
begins_whole [] = false
begins_whole (b ∷ bs) = is_opening b

-- how many bytes may begin one
abbrev pub openings : List ℕ → ℕ
openings [] = 0
openings (b ∷ bs) = cond (is_opening b) 1 0 + openings bs

-- the place of the first byte behind blanks
abbrev pub begin : List ℕ → ℕ
begin text = length text - length (after_blanks text)

-- a list of a text's value is more than 64 levels deep, and the text has a bracket for each of so many
pub record IsTooDeep (set : Schemas) (floats : Bool) (t : SchemaType) (text : List ℕ) : Type 0 where
  pub value : Value
  pub is : IsRead set true (text_element t (floats && has_float_base t) text) value
  pub tree : Tree
  pub list : IsListOf set t tree (MoreValues value NoValues)
  pub deep : IsShallow tree → ⊥
  pub many : message_levels ≤ openings text

-- the place of the first byte that can't stand: where no object and no array begins, or where JSON is refused under the type
pub data IsWholeUnread (set : Schemas) (floats : Bool) (t : SchemaType) (text : List ℕ) : ℕ → Type 0 where
  unbegun : begins_whole (after_blanks text) ≡ false → IsWholeUnread set floats t text (begin text)
  refused : (kind : RefusalKind) (place : ℕ) → ((rules : _) → AreRules set true rules → text_element t (floats && has_float_base t) text rules ≡ Err (record { kind = kind; place = place })) → IsWholeUnread set floats t text place
  too_deep : IsTooDeep set floats t text → IsWholeUnread set floats t text (begin text)

-- ---- as a word gives it ----

-- the text stands at a place of the word
pub record IsWholeUnreadAt (set : Schemas) (floats : Bool) (t : SchemaType) (text : List ℕ) (place at : ℕ) : Type 0 where
  pub inner : ℕ
  pub unread : IsWholeUnread set floats t text inner
  pub is : at ≡ place + inner

abbrev pub IsWholeGiven : Schemas → (floats : Bool) → SchemaType → (text : List ℕ) → (place : ℕ) → Read Source → Type 0
IsWholeGiven set floats t text place (Ok s) = IsWholeRead set floats t text s
IsWholeGiven set floats t text place (Err at) = IsWholeUnreadAt set floats t text place at
