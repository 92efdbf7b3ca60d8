-- Entries of the lists by their numbers, where they are there: steps of the code.
use Rattle.std.specs.Prelude.{ℕ, slice_get, Option, Some, None}
use Rattle.capnp_schema.specs.Types.{seen_type}
use Rattle.capnp_schema.specs.Schema.{Schemas, Node, Brand, Enum, TypedField as Typed, seen_field}
use Rattle.capnp_schema.specs.declared.lists.TypedField.{TypedField}
use Rattle.capnp_schema.specs.Entries.{brand_entry}

abbrev pub node_entry : Schemas → ℕ → Option Node
node_entry set n = slice_get set.nodes n

abbrev pub enum_entry : Schemas → ℕ → Option Enum
enum_entry set e = slice_get set.enums e

-- the node of a brand that is there
abbrev pub node_of_entry : Schemas → Option Brand → Option Node
node_of_entry set None = None
node_of_entry set (Some b) = slice_get set.nodes b.node

abbrev pub brand_node : Schemas → ℕ → Option Node
brand_node set b = node_of_entry set (brand_entry set b)

abbrev pub seen_typed : TypedField → Typed
seen_typed f = record { field = seen_field f.field.now; type = seen_type f.field_type.now }
