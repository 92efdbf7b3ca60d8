-- What the read of a text leaves of the structs and lists that it reads into.
use Rattle.std.specs.Prelude.{ℕ, ◌≡◌, Bool, List, Option, Ok}
use Rattle.capnp_wire.specs.Tree.{StructTree, Tree}
use Rattle.capnp_schema.specs.FieldLists.{typed_of}
use Rattle.capnp_schema.specs.Schema.{Schemas}
use Rattle.capnp_schema.specs.StructHandles.{number_of, set_of}
use Rattle.capnp_schema.specs.Types.{SchemaType}
use Rattle.capnp_schema.specs.declared.schema.fields.Field.{Field}
use Rattle.capnp_schema.specs.declared.schema.structs.StructSchema.{StructSchema}
use Rattle.capnp_records.specs.Reading.{reads}
use Rattle.capnp_records.specs.Record.{Record, Value}
use Rattle.capnp_records.specs.Writes.Overlay.{Turns}
use Rattle.capnp_slots.specs.Fields.{field_set}
use Rattle.capnp_slots.specs.Standing.{IsUnder}
use Rattle.capnp_json_text.specs.Values.{json_at, members_of}
use Rattle.capnp_json_fields.specs.declared.fields.DataForm.TheVariants.{Array}
use Rattle.capnp_from_json.specs.Errors.{IsErrorOf, Read}
use Rattle.capnp_from_json.specs.LeafReads.{under}
use Rattle.capnp_from_json.specs.Leaves.{AreFloats, OfElement}
use Rattle.capnp_from_json.specs.Records.{Rules, field_target, members_of_json, value_of_json}
use Rattle.capnp_from_json.specs.declared.error.Error.{Error}
use Rattle.capnp_from_json.specs.declared.reading.Reading.{Reading}
use Rattle.capnp_json_messages.specs.Put.{PutsAt}
use Rattle.capnp_json_messages.specs.Reads.{PutsInto}

-- ---- what a text is read with ----

-- the rules are those of a set, and say of unknown names what the read does; floats are read as `IsFloatOf` says
pub record AreRules (set : Schemas) (strict : Bool) (rules : Rules) : Type 0 where
  pub of_set : rules.set ≡ set
  pub is_strict : rules.strict ≡ strict
  pub floats : AreFloats rules.floats

-- what is read by all such rules, and why nothing is
abbrev pub IsRead : {A : Type 0} → Schemas → (strict : Bool) → (Rules → Read A) → A → Type 0
IsRead set strict read a = (rules : Rules) → AreRules set strict rules → read rules ≡ Ok a

abbrev pub IsRefused : {A : Type 0} → Schemas → (strict : Bool) → (Rules → Read A) → Error → Type 0
IsRefused set strict read e = (rules : Rules) → AreRules set strict rules → IsErrorOf (read rules) e

-- ---- what is read ----

-- the value with which bytes begin, for a field
abbrev pub field_json : Reading → (levels : ℕ) → Field → List ℕ → Rules → Read Value
field_json reading levels f bytes rules = value_of_json rules (json_at reading.whole bytes) levels (field_target (typed_of f))

-- the members of an object from one on, into a record of which some fields are given
abbrev pub members_json : Reading → (levels : ℕ) → StructSchema → Option (List ℕ) → List (Option ℕ) → Record → Rules → Read Record
members_json reading levels schema at given r rules = members_of_json rules (members_of (json_at reading.whole) reading.whole at) levels (number_of schema) given r

-- the value with which bytes begin, for an element
abbrev pub element_json : Reading → (levels : ℕ) → SchemaType → (is_float : Bool) → List ℕ → Rules → Read Value
element_json reading levels e is_float bytes rules = value_of_json rules (json_at reading.whole bytes) levels (under e OfElement is_float Array)

-- ---- what is left ----

-- a field has the value that is read, and else nothing is other than before
pub record FieldRead (f : Field) (strict : Bool) (read : Rules → Read Value) (s s' : StructTree) : Type 0 where
  pub value : Value
  pub is : IsRead (field_set f) strict read value
  pub puts : PutsInto f s s' value

-- a struct reads as the record that is read, and nothing was written but what its schema names
pub record StructRead (schema : StructSchema) (strict : Bool) (read : Rules → Read Record) (s s' : StructTree) : Type 0 where
  pub turns : Turns (set_of schema) (number_of schema) s s' (reads (set_of schema) s' (number_of schema))
  pub room : IsUnder schema s'
  pub is : IsRead (set_of schema) strict read (reads (set_of schema) s' (number_of schema))

-- an element of a list has the value that is read, and the others what they had
pub record ElementRead (set : Schemas) (e : SchemaType) (j : ℕ) (strict : Bool) (read : Rules → Read Value) (x x' : Tree) : Type 0 where
  pub value : Value
  pub is : IsRead set strict read value
  pub puts : PutsAt set e j x x' value
