-- Where a value's text is refused: the steps that lead from the value to the part whose own read is refused. Each step is the
-- first, in the order of the text, at which it is refused. The text has the fields of a struct by index, with the active
-- member at its own, and the elements of a list by index.
use Rattle.std.specs.Prelude.{ℕ, zero, suc, ◌<◌, ◌≡◌, List, [], ◌∷◌, ◌++◌, length, true, Option, Some, None, decimal, string_bytes}
use Rattle.capnp_device.specs.declared.error.ErrorKind.{ErrorKind}
use Rattle.capnp_device.specs.declared.error.ErrorKind.TheVariants.{TooDeep}
use Rattle.capnp_schema.specs.Schema.{Schemas, VoidValue, default_of, field_at, fields_of, Value as SchemaValue}
use Rattle.capnp_schema.specs.Types.{SchemaType, struct_number}
use Rattle.capnp_records.specs.Default.{read_of}
use Rattle.capnp_records.specs.Part.{nth_value, part_at, value_count}
use Rattle.capnp_records.specs.Reading.{element_type}
use Rattle.capnp_records.specs.Record as value
use Rattle.capnp_records.specs.Record.{Record, Value, Values}
use Rattle.capnp_records.specs.Text.{fault_kind, part_text, print_levels, text_within}
use Rattle.capnp_dynamic_readers.specs.Shown.{set_seen, type_seen, value_printed}
use Rattle.capnp_dynamic_readers.specs.declared.dynamic_value.Reader.{Reader as DynamicValue}
use Rattle.capnp_check.specs.Refusals.{text_refusal}
use Rattle.capnp_check.specs.ShownFields.{is_shown}
use Rattle.capnp_check.specs.declared.place.PlaceStep.{PlaceStep}
use Rattle.capnp_check.specs.declared.place.PlaceStep.TheVariants.{Field, Element}
use Rattle.capnp_check.specs.declared.place.RefusedPlace.{RefusedPlace}

-- ---- what a text shows of a value ----

-- Nothing that could be refused; a refusal alone, where the value can't be read or is too deep; the fields of a record of a
-- brand; or the elements of a list, under their type. Each part has so many levels.
pub data TextParts : Type 0 where
  NoParts : TextParts
  RefusedAs : ErrorKind → TextParts
  RecordParts : (left brand : ℕ) → Record → TextParts
  ElementParts : (left : ℕ) → SchemaType → Values → TextParts

-- a struct or list takes a level
abbrev pub one_level_in : ℕ → (ℕ → TextParts) → TextParts
one_level_in zero parts = RefusedAs TooDeep
one_level_in (suc left) parts = parts left

-- with no level left a pointer of another kind is too deep before it is another kind
abbrev pub kind_within : ℕ → SchemaType → ErrorKind → ErrorKind
kind_within zero t kind = fault_kind None t kind
kind_within (suc left) t kind = kind

-- of a value that was read under a type
abbrev pub value_parts : ℕ → SchemaType → Value → TextParts
value_parts left t (value.Struct r) = one_level_in left (λ further. RecordParts further (struct_number t) r)
value_parts left t (value.Elements vs) = one_level_in left (λ further. ElementParts further (element_type t) vs)
value_parts left t (value.Fault kind) = RefusedAs (kind_within left t kind)
value_parts left t v = NoParts

-- of a part of a struct, which is read with its default; a group takes no level
abbrev pub part_parts : Schemas → ℕ → SchemaValue → SchemaType → Value → TextParts
part_parts set left d t (value.Group r) = RecordParts left (struct_number t) r
part_parts set left d t v = value_parts left t (read_of set d t v)

-- of a value that stands alone
abbrev pub root_parts : DynamicValue → TextParts
root_parts v = part_parts (set_seen v) print_levels VoidValue (type_seen v) (value_printed v)

-- ---- fields and elements ----

-- what a text shows under field i of a record, and with which number the field's text is refused
abbrev pub field_parts : Schemas → (left brand : ℕ) → Record → ℕ → TextParts
field_parts set left b r i = part_parts set left (default_of (field_at set b i).field) (field_at set b i).type (part_at r (field_at set b i).field i)

abbrev pub field_refusal : Schemas → (left brand : ℕ) → Record → ℕ → Option ErrorKind
field_refusal set left b r i =
    text_refusal (part_text set (text_within set left) None (default_of (field_at set b i).field) (field_at set b i).type (part_at r (field_at set b i).field i))

-- field i is shown, and those before it that are shown have texts
pub record IsFirstField (set : Schemas) (left b : ℕ) (r : Record) (i : ℕ) : Type 0 where
  pub inside : i < length (fields_of set b)
  pub shown : is_shown r (field_at set b i).field i ≡ true
  pub before : (j : ℕ) → j < i → is_shown r (field_at set b j).field j ≡ true → field_refusal set left b r j ≡ None

-- the same of an element, which has no default
abbrev pub element_parts : Schemas → (left : ℕ) → SchemaType → Values → ℕ → TextParts
element_parts set left t vs i = value_parts left t (read_of set VoidValue t (nth_value vs i))

abbrev pub element_refusal : Schemas → (left : ℕ) → SchemaType → Values → ℕ → Option ErrorKind
element_refusal set left t vs i = text_refusal (text_within set left None t (read_of set VoidValue t (nth_value vs i)))

pub record IsFirstElement (set : Schemas) (left : ℕ) (t : SchemaType) (vs : Values) (i : ℕ) : Type 0 where
  pub inside : i < value_count vs
  pub before : (j : ℕ) → j < i → element_refusal set left t vs j ≡ None

-- ---- steps ----

-- what a step leads to
abbrev pub parts_after : Schemas → TextParts → PlaceStep → TextParts
parts_after set (RecordParts left b r) (Field i) = field_parts set left b r i
parts_after set (ElementParts left t vs) (Element i) = element_parts set left t vs i
parts_after set parts step = NoParts

-- all that a text has before a step has a text
abbrev pub IsFirstStep : Schemas → TextParts → PlaceStep → Type 0
IsFirstStep set (RecordParts left b r) (Field i) = IsFirstField set left b r i
IsFirstStep set (ElementParts left t vs) (Element i) = IsFirstElement set left t vs i
IsFirstStep set parts step = ⊥

-- steps that lead from what is shown of a value to what is shown of a part
unfoldable pub IsPathTo : Schemas → List PlaceStep → (from to : TextParts) → Type 0
IsPathTo set [] from to = from ≡ to
IsPathTo set (step ∷ steps) from to = IsFirstStep set from step × IsPathTo set steps (parts_after set from step) to

-- the word of a step: the name of a field, or the index of an element
abbrev pub part_word : Schemas → TextParts → PlaceStep → List ℕ
part_word set (RecordParts left b r) (Field i) = (field_at set b i).field.name
part_word set (ElementParts left t vs) (Element i) = decimal i
part_word set parts step = []

-- the words of steps, each behind a point
unfoldable pub place_words : Schemas → TextParts → List PlaceStep → List ℕ
place_words set parts [] = []
place_words set parts (step ∷ steps) = 46 ∷ part_word set parts step ++ place_words set (parts_after set parts step) steps

-- The place of a value's first refusal: at the end of its steps stands a part that is refused itself, with this number, and
-- all before it has a text.
pub record IsPlace (v : DynamicValue) (place : RefusedPlace) : Type 0 where
  pub steps : IsPathTo (set_seen v) place.path.items (root_parts v) (RefusedAs place.kind)
  pub words : string_bytes place.words ≡ place_words (set_seen v) (root_parts v) place.path.items

-- the number with which a place is refused; none where there is no place
abbrev pub place_refusal : Option RefusedPlace → Option ErrorKind
place_refusal None = None
place_refusal (Some place) = Some place.kind
