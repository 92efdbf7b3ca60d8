-- What the read of lists and of members leaves.
use Rattle.std.specs.Prelude.{ℕ, ◌≡◌, ◌≤◌, Bool, List, length, Option, Some}
use Rattle.capnp_wire.specs.Tree.{StructTree, Tree}
use Rattle.capnp_schema.specs.Schema.{Schemas}
use Rattle.capnp_schema.specs.StructHandles.{number_of, set_of}
use Rattle.capnp_schema.specs.Types.{SchemaType}
use Rattle.capnp_schema.specs.declared.schema.structs.StructSchema.{StructSchema}
use Rattle.capnp_records.specs.Reading.{reads}
use Rattle.capnp_records.specs.Record.{Values}
use Rattle.capnp_records.specs.Writes.Overlay.{Turns}
use Rattle.capnp_slots.specs.Standing.{IsUnder}
use Rattle.capnp_json_text.specs.Values.{elements_of, json_at, most_items}
use Rattle.capnp_json_fields.specs.declared.fields.DataForm.TheVariants.{Array}
use Rattle.capnp_from_json.specs.Errors.{Read}
use Rattle.capnp_from_json.specs.LeafReads.{under}
use Rattle.capnp_from_json.specs.Leaves.{OfElement}
use Rattle.capnp_from_json.specs.Records.{Rules, elements_of_json}
use Rattle.capnp_from_json.specs.declared.reading.Reading.{Reading}
use Rattle.capnp_json_messages.specs.Put.{IsListOf}
use Rattle.capnp_json_messages.specs.Walks.{AreRules, IsRead, members_json}

-- the elements of an array from one on
abbrev pub elements_json : Reading → (levels : ℕ) → SchemaType → (is_float : Bool) → Option (List ℕ) → Rules → Read Values
elements_json reading levels e is_float at rules = elements_of_json rules (elements_of (json_at reading.whole) at) levels (under e OfElement is_float Array)

-- a list has the values that are read
pub record ListRead (set : Schemas) (e : SchemaType) (strict : Bool) (read : Rules → Read Values) (x : Tree) : Type 0 where
  pub values : Values
  pub list : IsListOf set e x values
  pub is : IsRead set strict read values

-- a member of an object: what it leaves of the struct, what is given then, and that what is read goes on behind it
pub record MemberRead (schema : StructSchema) (reading : Reading) (levels : ℕ) (bytes : List ℕ) (next : Option (List ℕ)) (given given' : List (Option ℕ)) (s s' : StructTree) : Type 0 where
  pub turns : Turns (set_of schema) (number_of schema) s s' (reads (set_of schema) s' (number_of schema))
  pub room : IsUnder schema s'
  pub fewer : most_items next ≤ length bytes
  pub goes_on : (rules : Rules) → AreRules (set_of schema) reading.strict rules
      → members_json reading levels schema (Some bytes) given (reads (set_of schema) s (number_of schema)) rules ≡ members_json reading levels schema next given' (reads (set_of schema) s' (number_of schema)) rules
