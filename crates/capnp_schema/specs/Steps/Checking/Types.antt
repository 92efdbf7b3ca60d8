-- Types of annotations that name no entry.
use Rattle.std.specs.Prelude.{ℕ, List, map, Vec}
use Rattle.std.specs.declared.alloc.Global.{Global}
use Rattle.capnp_base.specs.declared.introspect.«Type».{«Type» as TypeHandle}
use Rattle.capnp_schema.specs.Types.{SchemaType, seen_type}
use Rattle.capnp_schema.specs.Schema.{Schemas, AnnotationTypes}
use Rattle.capnp_schema.specs.Accepted.{AllName, Rule1, Rule4, Rule5, Rule7}
use Rattle.capnp_schema.specs.Broken.{EntryBreaks}

abbrev pub seen_list : Vec TypeHandle Global → List SchemaType
seen_list types = map seen_type types.items

abbrev pub seen_children : List (Vec TypeHandle Global) → List (List SchemaType)
seen_children children = map seen_list children

-- the place of annotations whose types do not all name entries
pub data IsUnnamed (set : Schemas) (types : AnnotationTypes) : ℕ → Type 0 where
  own : (AllName set types.own → ⊥) → IsUnnamed set types 65535
  child : (i : ℕ) → EntryBreaks types.children (AllName set) i → IsUnnamed set types i

-- the rules of types and of single fields
pub record TypesStand (set : Schemas) : Type 0 where
  pub rule1 : Rule1 set
  pub rule4 : Rule4 set
  pub rule5 : Rule5 set
  pub rule7 : Rule7 set
