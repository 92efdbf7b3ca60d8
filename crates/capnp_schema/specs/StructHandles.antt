-- Handles of struct schemas, as clauses speak of them.
use Rattle.std.specs.Prelude.{ℕ, ◌<◌, ◌≡◌, List, length}
use Rattle.std.specs.Option.{option_map, unwrap_or}
use Rattle.capnp_schema.specs.Schema.{Schemas, Node, Brand, Field, TypedField, brand_at, node_of, fields_of, field_at}
use Rattle.capnp_schema.specs.Entries.{brand_entry, lists_seen}
use Rattle.capnp_schema.specs.Query.{records_of}
use Rattle.capnp_schema.specs.Accepted.{IsAccepted}
use Rattle.capnp_schema.specs.declared.schema.structs.StructSchema.{StructSchema}

-- the set that a schema is of
abbrev pub set_of : StructSchema → Schemas
set_of s = lists_seen s.schemas.now

-- its brand, by number
abbrev pub number_of : StructSchema → ℕ
number_of s = s.number

-- the number of a brand's node, 0 past the end
abbrev pub generic_at : Schemas → ℕ → ℕ
generic_at set b = unwrap_or (option_map (λ (x : Brand). x.node) (brand_entry set b)) 0

-- the number of its node
abbrev pub generic_of : StructSchema → ℕ
generic_of s = generic_at (set_of s) (number_of s)

-- the node of its brand; one with nothing in it past the end of the brands
abbrev pub struct_node : StructSchema → Node
struct_node s = node_of (set_of s) (number_of s)

-- its fields, and field i of these
abbrev pub struct_fields : StructSchema → List TypedField
struct_fields s = fields_of (set_of s) (number_of s)

abbrev pub struct_field : StructSchema → ℕ → TypedField
struct_field s i = field_at (set_of s) (number_of s) i

-- the records of its fields
abbrev pub struct_records : StructSchema → List Field
struct_records s = records_of (set_of s) (number_of s)

-- a brand of an accepted set, with its node, whose fields are its
pub record IsStruct (s : StructSchema) : Type 0 where
  pub accepted : IsAccepted (set_of s)
  pub number : number_of s < length (set_of s).brands
  pub generic : generic_of s ≡ (brand_at (set_of s) (number_of s)).node
  pub records : struct_records s ≡ (struct_node s).fields
