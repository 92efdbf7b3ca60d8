-- What a place's search sees of values that are read.
use Rattle.std.specs.Prelude.{ℕ, zero, suc, ◌+◌, ◌<◌, ◌≡◌, ⊤, length, true, Option, Some, None}
use Rattle.capnp_device.specs.declared.error.ErrorKind.{ErrorKind}
use Rattle.capnp_device.specs.declared.error.ErrorKind.TheVariants.{TooDeep}
use Rattle.capnp_schema.specs.Laws.{group_height}
use Rattle.capnp_schema.specs.Schema.{Schemas, TypedField, default_of}
use Rattle.capnp_schema.specs.StructHandles.{number_of, set_of, struct_field}
use Rattle.capnp_records.specs.Text.{element_texts, list_text, record_text, text_within}
use Rattle.capnp_dynamic_readers.specs.Handles.{element_of, list_set, schema_of}
use Rattle.capnp_dynamic_readers.specs.Reads.{element_seen}
use Rattle.capnp_dynamic_readers.specs.Seen.{record_seen}
use Rattle.capnp_dynamic_readers.specs.Steps.Shown.{count_of, element_shown, elements_from, field_shown, part_seen}
use Rattle.capnp_dynamic_readers.specs.declared.dynamic_list.Reader.{Reader as ListHandle}
use Rattle.capnp_dynamic_readers.specs.declared.dynamic_struct.Reader.{Reader as StructHandle}
use Rattle.capnp_dynamic_readers.specs.declared.dynamic_value.Reader.{Reader as DynamicValue}
use Rattle.capnp_dynamic_readers.specs.declared.dynamic_value.Reader.TheVariants as dynamic
use Rattle.capnp_check.specs.Places.{ElementParts, RecordParts, IsFirstStep, NoParts, RefusedAs, TextParts, part_parts, parts_after, value_parts}
use Rattle.capnp_check.specs.Refusals.{text_refusal}
use Rattle.capnp_check.specs.ShownFields.{is_shown}
use Rattle.capnp_check.specs.declared.place.PlaceStep.{PlaceStep}
use Rattle.capnp_check.specs.declared.parts_below.OpenValue.{OpenValue}
use Rattle.capnp_check.specs.declared.parts_below.OpenValue.TheVariants as opened

-- ---- what is open ----

-- with no level left a struct or list is too deep
abbrev pub level_opened : ℕ → (ℕ → OpenValue) → OpenValue
level_opened zero parts = opened.Refused TooDeep
level_opened (suc left) parts = parts left

abbrev pub value_opened : ℕ → DynamicValue → OpenValue
value_opened left (dynamic.Struct s) = level_opened left (λ n. opened.Struct s n)
value_opened left (dynamic.List l) = level_opened left (λ n. opened.List l n)
value_opened left v = opened.Whole

-- as the definition has it
abbrev pub parts_seen : OpenValue → TextParts
parts_seen opened.Whole = NoParts
parts_seen (opened.Refused kind) = RefusedAs kind
parts_seen (opened.Struct s left) = RecordParts left (number_of (schema_of s)) (record_seen s)
parts_seen (opened.List l left) = ElementParts left (element_of l) (elements_from l 0 (count_of l))

-- its handle is of a set
abbrev pub IsOpenIn : Schemas → OpenValue → Type 0
IsOpenIn set opened.Whole = ⊤
IsOpenIn set (opened.Refused kind) = ⊤
IsOpenIn set (opened.Struct s left) = set_of (schema_of s) ≡ set
IsOpenIn set (opened.List l left) = list_set l ≡ set

-- the number with which its text is refused
abbrev pub parts_refusal : Schemas → TextParts → Option ErrorKind
parts_refusal set NoParts = None
parts_refusal set (RefusedAs kind) = Some kind
parts_refusal set (RecordParts left b r) = text_refusal (record_text set (text_within set left) None b r)
parts_refusal set (ElementParts left t vs) = text_refusal (list_text None (element_texts set (text_within set left) None t vs))

-- and its own, where it has no parts
abbrev pub own_number : OpenValue → Option ErrorKind
own_number opened.Whole = None
own_number (opened.Refused kind) = Some kind
own_number (opened.Struct s left) = None
own_number (opened.List l left) = None

-- a bound of the steps that can follow
abbrev pub level_steps : Schemas → ℕ → ℕ
level_steps set zero = 0
level_steps set (suc left) = level_steps set left + (length set.brands + 4)

abbrev pub steps_below : Schemas → OpenValue → ℕ
steps_below set opened.Whole = 0
steps_below set (opened.Refused kind) = 0
steps_below set (opened.Struct s left) = suc (level_steps set left + group_height set (number_of (schema_of s)))
steps_below set (opened.List l left) = suc (level_steps set left)

-- ---- what stands under a field or at an index ----

pub record IsFieldOpened (left : ℕ) (h : StructHandle) (f : TypedField) (next : OpenValue) : Type 0 where
  pub parts : parts_seen next ≡ part_parts (set_of (schema_of h)) left (default_of f.field) f.type (part_seen h f)
  pub of_set : IsOpenIn (set_of (schema_of h)) next
  pub less : steps_below (set_of (schema_of h)) next < steps_below (set_of (schema_of h)) (opened.Struct h left)

pub record IsElementOpened (left : ℕ) (l : ListHandle) (i : ℕ) (next : OpenValue) : Type 0 where
  pub parts : parts_seen next ≡ value_parts left (element_of l) (element_seen l i)
  pub of_set : IsOpenIn (list_set l) next
  pub less : steps_below (list_set l) next < steps_below (list_set l) (opened.List l left)

-- field i has a text, where it is shown
abbrev pub IsFieldSaid : ℕ → StructHandle → ℕ → Type 0
IsFieldSaid left h i =
    is_shown (record_seen h) (struct_field (schema_of h) i).field i ≡ true → text_refusal (field_shown left None h (struct_field (schema_of h) i)) ≡ None

-- or is shown, and refused
pub record IsFieldRefused (left : ℕ) (h : StructHandle) (i : ℕ) (next : OpenValue) : Type 0 where
  pub shown : is_shown (record_seen h) (struct_field (schema_of h) i).field i ≡ true
  pub opened : IsFieldOpened left h (struct_field (schema_of h) i) next
  pub kind : ErrorKind
  pub refused : parts_refusal (set_of (schema_of h)) (parts_seen next) ≡ Some kind

abbrev pub IsElementSaid : ℕ → ListHandle → ℕ → Type 0
IsElementSaid left l i = text_refusal (element_shown left None l (element_seen l i)) ≡ None

pub record IsElementUnsaid (left : ℕ) (l : ListHandle) (i : ℕ) (next : OpenValue) : Type 0 where
  pub opened : IsElementOpened left l i next
  pub kind : ErrorKind
  pub refused : parts_refusal (list_set l) (parts_seen next) ≡ Some kind

-- ---- a step ----

-- a step to the first part that is refused, with the same number; fewer steps can follow
pub record IsStepBelow (set : Schemas) (now : OpenValue) (step : PlaceStep) (next : OpenValue) : Type 0 where
  pub first : IsFirstStep set (parts_seen now) step
  pub at : parts_seen next ≡ parts_after set (parts_seen now) step
  pub of_set : IsOpenIn set next
  pub same : parts_refusal set (parts_seen now) ≡ parts_refusal set (parts_seen next)
  pub less : steps_below set next < steps_below set now
