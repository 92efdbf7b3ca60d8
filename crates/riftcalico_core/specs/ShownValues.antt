-- Structs and lists that words give as they are printed.
use Rattle.std.specs.Prelude.{ℕ, zero, suc, ◌+◌, ◌==◌, ◌||◌, ◌≡◌, ◌≢◌, Bool, false, cond, List, [], ◌∷◌, max, Option, Some, None, Ok, Err}
use Rattle.capnp_device.specs.declared.error.ErrorKind.{ErrorKind}
use Rattle.capnp_device.specs.declared.error.ErrorKind.TheVariants.{OutOfMemory}
use Rattle.capnp_wire.specs.Depth.{IsShallow}
use Rattle.capnp_wire.specs.Edits.{struct_in}
use Rattle.capnp_wire.specs.Tree.{StructTree, Tree}
use Rattle.capnp_schema.specs.Schema.{Schemas, field_at}
use Rattle.capnp_schema.specs.StructHandles.{number_of, set_of}
use Rattle.capnp_schema.specs.Types.{ListType, SchemaType, StructType}
use Rattle.capnp_schema.specs.declared.schema.structs.StructSchema.{StructSchema}
use Rattle.capnp_records.specs.Call.{Call, Source}
use Rattle.capnp_records.specs.Reading.{part_of, reads, values_of}
use Rattle.capnp_records.specs.Record as value
use Rattle.capnp_records.specs.Record.{Elements, Endless, Missing, MoreValues, Value}
use Rattle.capnp_json_text.specs.Faults.{fault_of}
use Rattle.capnp_json_text.specs.Readings.{after_blanks}
use Rattle.capnp_json_messages.specs.Ones.{IsTakenAs}
use Rattle.capnp_value_texts.specs.Calls.{element_of_text, root_of_text}
use Rattle.capnp_value_texts.specs.Errors as text
use Rattle.capnp_value_texts.specs.Values.{IsMadeOf, IsNotMadeOf}
use Rattle.capnp_value_texts.specs.declared.error.Error.TheVariants.{NotMade}
use Rattle.capnp_value_texts.specs.declared.error.Refusal.{Refusal}
use Rattle.capnp_words.specs.Reads.{Read}
use Rattle.riftcalico_core.specs.JsonValues.{IsWholeGiven, begin}
use Rattle.riftcalico_core.specs.LastFields.{Spot}

-- ---- which texts are printed ones ----

-- `(` and `[`
abbrev pub begins_shown : List ℕ → Bool
begins_shown [] = false
begins_shown (b ∷ bs) = (b == 40) || (b == 91)

-- one that begins with a bracket, and is no JSON: the place of the first byte that no JSON has there
abbrev pub shown_fault : List ℕ → Option ℕ
shown_fault text = cond (begins_shown (after_blanks text)) (fault_of text) None

-- ---- what is given ----

-- the brand of the root that a value is made in, and the calls that make it
pub record Making : Type 0 where
  pub brand : ℕ
  pub calls : text.Read (List Call)

-- A struct is a root. A list is made in its field, or as the one element of lists there.
abbrev pub making_of : Schemas → (spot : Option Spot) → SchemaType → (text : List ℕ) → Option Making
making_of set o (StructType b g) text = Some (record { brand = b; calls = root_of_text set b text })
making_of set (Some p) (ListType e) text = Some (record { brand = p.place.0; calls = element_of_text set (field_at set p.place.0 p.place.1) p.place.1 p.depth text })
making_of set o t text = None

-- the first element of a list; what has none reads as a null
abbrev pub first_element : Value → Value
first_element (Elements (MoreValues v vs)) = v
first_element v = Missing Endless

-- the same, so many lists down
abbrev pub first_within : (depth : ℕ) → Value → Value
first_within zero v = v
first_within (suc n) v = first_element (first_within n v)

-- the root's record, or its field's value, or what that has so deep in its lists
abbrev pub shown_value : Schemas → (spot : Option Spot) → SchemaType → StructTree → Value
shown_value set o (StructType b g) s = value.Struct (reads set s b)
shown_value set (Some p) (ListType e) s = first_within p.depth (part_of set Endless s.bytes (values_of set s.pointers) (field_at set p.place.0 p.place.1))
shown_value set o t s = value.Void

-- the schema of a brand of a set
pub record IsSchemaOf (set : Schemas) (b : ℕ) (schema : StructSchema) : Type 0 where
  pub same_set : set_of schema ≡ set
  pub same_number : number_of schema ≡ b

-- a value of the type that the text's calls leave; a set takes a copy of it
pub record IsShownRead (set : Schemas) (spot : Option Spot) (t : SchemaType) (text : List ℕ) (s : Source) : Type 0 where
  pub making : Making
  pub asked : making_of set spot t text ≡ Some making
  pub schema : StructSchema
  pub of : IsSchemaOf set making.brand schema
  pub root : Tree
  pub made : IsMadeOf schema making.calls root
  pub taken : IsTakenAs set t s (shown_value set spot t (struct_in root))

-- ---- where it can't be read ----

-- the place of the first byte that is refused; that of the text's first where a call is, or what is left is more than 64 levels deep
pub data IsUnmade (set : Schemas) (m : Making) (text : List ℕ) : ℕ → Type 0 where
  refused : (r : Refusal) → m.calls ≡ Err r → IsUnmade set m text r.place
  not_made : (schema : StructSchema) (kind : ErrorKind) → IsSchemaOf set m.brand schema → kind ≢ OutOfMemory → IsNotMadeOf schema m.calls (NotMade kind) → IsUnmade set m text (begin text)
  too_deep : (schema : StructSchema) (root : Tree) → IsSchemaOf set m.brand schema → IsMadeOf schema m.calls root → (IsShallow root → ⊥) → IsUnmade set m text (begin text)

abbrev pub IsUnmadeBy : Schemas → Option Making → (text : List ℕ) → (place : ℕ) → Type 0
IsUnmadeBy set None text place = place ≡ 0
IsUnmadeBy set (Some m) text place = IsUnmade set m text place

abbrev pub IsShownUnread : Schemas → (spot : Option Spot) → SchemaType → (text : List ℕ) → (place : ℕ) → Type 0
IsShownUnread set spot t text place = IsUnmadeBy set (making_of set spot t text) text place

-- ---- as a word gives it ----

-- the text stands at a place of the word, and is no JSON from a fault on: what neither form has there is the further of two places
abbrev pub IsShownGiven : Schemas → (spot : Option Spot) → SchemaType → (text : List ℕ) → (fault place : ℕ) → Read Source → Type 0
IsShownGiven set spot t text fault place (Ok s) = IsShownRead set spot t text s
IsShownGiven set spot t text fault place (Err at) = (inner : ℕ) × IsShownUnread set spot t text inner × (at ≡ place + max fault inner)

-- JSON, unless it has such a fault
abbrev pub IsGivenBy : (fault : Option ℕ) → Schemas → (spot : Option Spot) → (floats : Bool) → SchemaType → (text : List ℕ) → (place : ℕ) → Read Source → Type 0
IsGivenBy None set spot floats t text place r = IsWholeGiven set floats t text place r
IsGivenBy (Some fault) set spot floats t text place r = IsShownGiven set spot t text fault place r
