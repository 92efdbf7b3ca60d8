-- All parts that a text shows of a value, in its order, and those of them that are refused themselves. The text has the fields
-- of a struct by index, with the active member at its own, and the elements of a list by index.
use Rattle.std.specs.Prelude.{ℕ, zero, suc, ◌+◌, ◌*◌, ◌<◌, ◌≤◌, ◌≡◌, List, [], ◌∷◌, ◌++◌, length, map, Bool, true, false, Option, Some, None, string_bytes}
use Rattle.capnp_device.specs.declared.error.ErrorKind.{ErrorKind}
use Rattle.capnp_schema.specs.Schema.{Schemas, field_at, fields_of}
use Rattle.capnp_records.specs.Part.{value_count}
use Rattle.capnp_dynamic_readers.specs.Shown.{set_seen}
use Rattle.capnp_dynamic_readers.specs.declared.dynamic_value.Reader.{Reader as DynamicValue}
use Rattle.capnp_check.specs.Places.{ElementParts, RecordParts, RefusedAs, TextParts, part_word, parts_after, root_parts}
use Rattle.capnp_check.specs.ShownFields.{is_shown}
use Rattle.capnp_check.specs.declared.place.PlaceStep.{PlaceStep}
use Rattle.capnp_check.specs.declared.place.PlaceStep.TheVariants.{Field, Element}
use Rattle.capnp_check.specs.declared.place.RefusedPlace.{RefusedPlace}

-- ---- a part ----

-- The steps that lead to it, their words, each behind a point, and why it is refused itself, where it is.
pub record ShownPart : Type 0 where
  pub path : List PlaceStep
  pub words : List ℕ
  pub refusal : Option ErrorKind

abbrev pub refusal_itself : TextParts → Option ErrorKind
refusal_itself (RefusedAs kind) = Some kind
refusal_itself parts = None

-- the value that its own parts are of
abbrev pub itself : TextParts → ShownPart
itself parts = record { path = []; words = []; refusal = refusal_itself parts }

-- a part, from one step further out
abbrev pub behind_step : PlaceStep → (word : List ℕ) → ShownPart → ShownPart
behind_step step word part = record { path = step ∷ part.path; words = 46 ∷ word ++ part.words; refusal = part.refusal }

-- ---- the steps from a value ----

abbrev pub step_count : Schemas → TextParts → ℕ
step_count set (RecordParts left b r) = length (fields_of set b)
step_count set (ElementParts left t vs) = value_count vs
step_count set parts = 0

abbrev pub step_at : TextParts → ℕ → PlaceStep
step_at (RecordParts left b r) i = Field i
step_at parts i = Element i

-- each element is shown
abbrev pub is_step_shown : Schemas → TextParts → ℕ → Bool
is_step_shown set (RecordParts left b r) i = is_shown r (field_at set b i).field i
is_step_shown set parts i = true

abbrev pub if_shown : Bool → List ShownPart → List ShownPart
if_shown true parts = parts
if_shown false parts = []

-- ---- all parts ----

-- those behind a step, where each value has these
abbrev pub parts_behind : Schemas → (TextParts → List ShownPart) → TextParts → PlaceStep → List ShownPart
parts_behind set within parts step = map (behind_step step (part_word set parts step)) (within (parts_after set parts step))

-- those behind the steps from an index on, so many
unfoldable pub parts_from : Schemas → (TextParts → List ShownPart) → TextParts → (first count : ℕ) → List ShownPart
parts_from set within parts i zero = []
parts_from set within parts i (suc more) =
    if_shown (is_step_shown set parts i) (parts_behind set within parts (step_at parts i)) ++ parts_from set within parts (suc i) more

-- The value itself, and each part that so many steps lead to, or fewer.
unfoldable pub parts_within : Schemas → (steps : ℕ) → TextParts → List ShownPart
parts_within set zero parts = itself parts ∷ []
parts_within set (suc n) parts = itself parts ∷ parts_from set (parts_within set n) parts 0 (step_count set parts)

-- A text goes down 64 levels, and in each through fewer groups than there are brands. So no more steps lead to any part.
abbrev pub most_steps : Schemas → ℕ
most_steps set = 65 * (length set.brands + 4)

abbrev pub shown_within : (steps : ℕ) → DynamicValue → List ShownPart
shown_within n v = parts_within (set_seen v) n (root_parts v)

-- ---- those that are refused ----

abbrev pub with_refused : Option ErrorKind → ShownPart → List ShownPart → List ShownPart
with_refused None part parts = parts
with_refused (Some kind) part parts = part ∷ parts

abbrev pub refused_parts : List ShownPart → List ShownPart
refused_parts [] = []
refused_parts (part ∷ parts) = with_refused part.refusal part (refused_parts parts)

-- a place as a part
abbrev pub part_told : RefusedPlace → ShownPart
part_told place = record { path = place.path.items; words = string_bytes place.words; refusal = Some place.kind }

-- The places of all parts that are refused, in the order of the text, each once.
abbrev pub AreAllPlaces : DynamicValue → List RefusedPlace → Type 0
AreAllPlaces v places = (n : ℕ) → most_steps (set_seen v) ≤ n → map part_told places ≡ refused_parts (shown_within n v)

-- the first of them, where there is one
abbrev pub first_part : List ShownPart → Option ShownPart
first_part [] = None
first_part (part ∷ parts) = Some part

abbrev pub told_part : Option RefusedPlace → Option ShownPart
told_part None = None
told_part (Some place) = Some (part_told place)

abbrev pub IsFirstPlace : DynamicValue → Option RefusedPlace → Type 0
IsFirstPlace v found = (n : ℕ) → most_steps (set_seen v) ≤ n → told_part found ≡ first_part (refused_parts (shown_within n v))

-- ---- how many are shown ----

-- the value itself counts as one
abbrev pub IsPartCount : ℕ → DynamicValue → Type 0
IsPartCount count v = (n : ℕ) → most_steps (set_seen v) ≤ n → count ≡ length (shown_within n v)

abbrev pub ShowsMoreThan : ℕ → DynamicValue → Type 0
ShowsMoreThan limit v = (n : ℕ) → most_steps (set_seen v) ≤ n → limit < length (shown_within n v)

abbrev pub ShowsAtMost : ℕ → DynamicValue → Type 0
ShowsAtMost limit v = (n : ℕ) → most_steps (set_seen v) ≤ n → length (shown_within n v) ≤ limit
