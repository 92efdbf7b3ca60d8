-- Which fields of an object are given, and the field of a name.
use Rattle.std.specs.Prelude.{ℕ, List, [], ◌∷◌, Option, Some, None}
use Rattle.capnp_schema.specs.FieldLists.{index_of, typed_of}
use Rattle.capnp_schema.specs.declared.schema.fields.Field.{Field}
use Rattle.capnp_records.specs.Record.{Record, Value}
use Rattle.capnp_from_json.specs.Errors.{Read}
use Rattle.capnp_from_json.specs.Leaves.{Target}
use Rattle.capnp_from_json.specs.Records.{MembersRead, field_target, member_put}

-- marks in a row, the last of them first, before others
abbrev pub latest_first : List (Option ℕ) → List (Option ℕ) → List (Option ℕ)
latest_first [] before = before
latest_first (m ∷ ms) before = latest_first ms (m ∷ before)

-- what is given, as the definition has it
abbrev pub marks_of : List (Option ℕ) → List (Option ℕ)
marks_of ms = latest_first ms []

-- a member of a name: the value of its field and those behind it, or those behind it alone
abbrev pub named_read : (value : (levels : ℕ) → Target → Read Value) → MembersRead → (levels brand : ℕ) → List (Option ℕ) → Record → Option Field → Read Record
named_read value rest levels b given r None = rest levels b given r
named_read value rest levels b given r (Some f) = member_put (typed_of f) (index_of f) r (rest levels b given) (value levels (field_target (typed_of f)))
