-- What the written form keeps: records whose numbers fit their fields, whose names are UTF-8, and whose values it has a kind: steps of the code.
use Rattle.std.specs.Prelude.{All}
use Rattle.capnp_schema.specs.Schema.{Schemas}
use Rattle.capnp_set_writer.specs.Kept.{BrandKept, EnumKept, NodeKept}

pub record SetKept (s : Schemas) : Type 0 where
  pub nodes : All NodeKept s.nodes
  pub brands : All BrandKept s.brands
  pub enums : All EnumKept s.enums
