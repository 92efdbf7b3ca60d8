-- The JSON of a value is a text of its tree.
use Rattle.std.specs.Prelude.{ℕ, List, Bool, false}
use Rattle.capnp_schema.specs.Schema.{Schemas}
use Rattle.capnp_schema.specs.Types.{SchemaType}
use Rattle.capnp_records.specs.Record.{Value}
use Rattle.capnp_from_json.specs.Leaves.{Part}
use Rattle.capnp_json_fields.specs.declared.fields.DataForm.TheVariants.{Array}
use Rattle.capnp_json_text.specs.Values.{Json}
use Rattle.capnp_json.specs.Json.{json_levels, json_of}
use Rattle.capnp_json.specs.Pieces.{IsJson}
use Rattle.capnp_json_laws.specs.Fitting.{Fits}
use Rattle.capnp_json_laws.specs.Stands.{HasValue, IsValue}
use Rattle.capnp_json_laws.specs.Trees.{IsTree}

-- the tree of a value that stands alone, at all levels of a JSON
abbrev pub IsTreeOf : Schemas → SchemaType → Value → Json → Type 0
IsTreeOf set t v j = IsTree set json_levels false Array t v j

-- Of a value of its type each JSON, on one line or on lines, is one JSON value, whatever follows it that may; and that value is its
-- tree.
abbrev pub JsonIsOneValue : Type 0
JsonIsOneValue =
    (set : Schemas) (indented : Bool) (p : Part) (t : SchemaType) (v : Value) (bytes : List ℕ)
    → Fits set p t v → IsJson (json_of set indented t v) bytes → IsValue bytes (IsTreeOf set t v)

-- So it is a text alone, and the value of this text is the tree.
abbrev pub JsonHasItsTree : Type 0
JsonHasItsTree =
    (set : Schemas) (indented : Bool) (p : Part) (t : SchemaType) (v : Value) (bytes : List ℕ)
    → Fits set p t v → IsJson (json_of set indented t v) bytes → HasValue bytes (IsTreeOf set t v)
