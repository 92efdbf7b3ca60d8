-- What the integer types of the records bound, entry by entry.
use Rattle.std.specs.Prelude.{◌^◌, ◌<◌, All}
use Rattle.capnp_schema.specs.Schema.{Schemas, Node, Field, default_of}
use Rattle.capnp_schema.specs.Accepted.{EachOfEnum}
use Rattle.capnp_schema.specs.Ranges.{KindFits, NodeFits, ValueFits, ValuesFit}

-- the numbers of a field, and its default
pub record FieldFits (f : Field) : Type 0 where
  pub discriminant : f.discriminant_value < 2 ^ 16
  pub kind : KindFits f.kind
  pub default : ValueFits (default_of f)
  pub annotations : ValuesFit f.annotations

-- a node with its fields
pub record EntryFits (n : Node) : Type 0 where
  pub node : NodeFits n
  pub fields : All FieldFits n.fields
  pub annotations : ValuesFit n.annotations

-- all nodes and enums
pub record EntriesFit (set : Schemas) : Type 0 where
  pub nodes : All EntryFits set.nodes
  pub enums : All (EachOfEnum ValuesFit) set.enums
