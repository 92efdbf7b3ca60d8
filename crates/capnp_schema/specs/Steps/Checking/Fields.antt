-- The rules of single fields, of one, of those of a brand and of all.
use Rattle.std.specs.Prelude.{ℕ, ◌<◌, length}
use Rattle.capnp_schema.specs.Schema.{Schemas, Node, TypedField, node_of, fields_of, field_at}
use Rattle.capnp_schema.specs.Accepted.{DefaultIsOfType, FieldsName, HasNamedType, NamesOwnGroup, SlotLiesInside, Rule4, Rule5, Rule7}

-- rules 1, 4, 5 and 7 of one field of a node
pub record FieldStands (set : Schemas) (n : Node) (f : TypedField) : Type 0 where
  pub names : HasNamedType set f
  pub inside : SlotLiesInside n f
  pub default : DefaultIsOfType f
  pub group : NamesOwnGroup set f

-- of a field of a brand, and of each
abbrev pub FieldStandsAt : Schemas → (b i : ℕ) → Type 0
FieldStandsAt set b i = FieldStands set (node_of set b) (field_at set b i)

abbrev pub FieldsStandIn : Schemas → ℕ → Type 0
FieldsStandIn set b = (i : ℕ) → i < length (fields_of set b) → FieldStandsAt set b i

-- of each field of a set
pub record FieldsStand (set : Schemas) : Type 0 where
  pub types : FieldsName set
  pub rule4 : Rule4 set
  pub rule5 : Rule5 set
  pub rule7 : Rule7 set
