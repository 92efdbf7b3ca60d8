-- The laws of JSON for whole records.
use Rattle.std.specs.Prelude.{ℕ, ◌≡◌, List, Bool, true, Ok}
use Rattle.capnp_schema.specs.Schema.{Schemas}
use Rattle.capnp_schema.specs.Types.{SchemaType, StructType}
use Rattle.capnp_records.specs.Record as value
use Rattle.capnp_records.specs.Record.{Record, Value}
use Rattle.capnp_json_fields.specs.Marks.{form_under, has_float_base}
use Rattle.capnp_json_fields.specs.declared.fields.DataForm.{DataForm}
use Rattle.capnp_json_text.specs.Values.{Json}
use Rattle.capnp_json.specs.Json.{json_of}
use Rattle.capnp_json.specs.Pieces.{IsJson}
use Rattle.capnp_from_json.specs.Leaves.{AreFloats, Part, Target}
use Rattle.capnp_from_json.specs.Records.{Rules, record_of_json, value_of_json}
use Rattle.capnp_json_laws.specs.AsRead.{HasDistinctNames, RecordHasMembers, as_read, record_as_read}
use Rattle.capnp_json_laws.specs.Fitting.{Fits, HasRoom, IsShaped, RecordHasRoom}
use Rattle.capnp_json_laws.specs.Trees.{IsTree}

-- floats are read as their words say, and names are distinct
pub record AreFair (rules : Rules) : Type 0 where
  pub floats : AreFloats rules.floats
  pub names : HasDistinctNames rules.set

-- numbers that are floats are of a type of floats, and data alone has a form of its own
pub record IsMarked (is_float : Bool) (form : DataForm) (t : SchemaType) : Type 0 where
  pub floats : is_float ≡ true → has_float_base t ≡ true
  pub bytes : form_under t form ≡ form

-- what a value of a type is read for
abbrev pub target_of : SchemaType → Part → (is_float : Bool) → DataForm → Target
target_of t p is_float form = record { type = t; part = p; is_float = is_float; form = form }

-- The tree of a value is read as the value, with as many levels.
abbrev pub TreesAreRead : Type 0
TreesAreRead =
    (rules : Rules) (levels : ℕ) (is_float : Bool) (form : DataForm) (p : Part) (t : SchemaType) (v : Value) (j : Json) → AreFair rules → IsMarked is_float form t
    → Fits rules.set p t v → HasRoom rules.set t v → IsTree rules.set levels is_float form t v j → value_of_json rules j levels (target_of t p is_float form) ≡ Ok (as_read rules.set is_float t v)

-- The JSON of a record of a struct is read as the record, but for what `record_as_read` says.
abbrev pub RecordsAreReadBack : Type 0
RecordsAreReadBack =
    (rules : Rules) (b g : ℕ) (indented : Bool) (r : Record) (text : List ℕ) → AreFair rules → IsShaped rules.set b r → RecordHasRoom rules.set b r
    → IsJson (json_of rules.set indented (StructType b g) (value.Struct r)) text → record_of_json rules b text ≡ Ok (record_as_read rules.set b r)

-- Where each discriminant is a member's, what is read has the same JSON, or is refused as before.
abbrev pub JsonIsAsBefore : Type 0
JsonIsAsBefore =
    (set : Schemas) (b g : ℕ) (indented : Bool) (r : Record) → RecordHasMembers r
    → json_of set indented (StructType b g) (value.Struct (record_as_read set b r)) ≡ json_of set indented (StructType b g) (value.Struct r)

-- So a record that was read of a JSON has that JSON again.
abbrev pub JsonComesBack : Type 0
JsonComesBack =
    (rules : Rules) (b g : ℕ) (indented : Bool) (r again : Record) (text : List ℕ) → AreFair rules → IsShaped rules.set b r → RecordHasRoom rules.set b r → RecordHasMembers r
    → IsJson (json_of rules.set indented (StructType b g) (value.Struct r)) text → record_of_json rules b text ≡ Ok again
    → json_of rules.set indented (StructType b g) (value.Struct again) ≡ json_of rules.set indented (StructType b g) (value.Struct r)
