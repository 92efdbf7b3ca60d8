-- Lists of values that are added.
use Rattle.std.specs.Prelude.{ℕ, ◌≡◌, None, List, [], ◌∷◌}
use Rattle.capnp_wire.specs.Tree.{StructTree, Tree}
use Rattle.capnp_wire.specs.Words.{first_fault_of_all}
use Rattle.capnp_schema.specs.Plan.{brand_size}
use Rattle.capnp_schema.specs.Schema.{Schemas}
use Rattle.capnp_schema.specs.Types.{SchemaType, StructType}
use Rattle.capnp_records.specs.Call.{Source, StructSource}
use Rattle.capnp_records.specs.Given.{Copies, CopiesGroup, Fails, Given, Gives, given_element}
use Rattle.capnp_records.specs.Record as value
use Rattle.capnp_records.specs.Record.{Levels, MoreValues, NoValues, Value, Values}
use Rattle.capnp_records.specs.Writes.ElementEnds.{HasElementThere}
use Rattle.capnp_records.specs.Writes.Contents.{SourceFits, new_list}
use Rattle.capnp_slots.specs.ElementSets.{IsElementSet}
use Rattle.capnp_splices.specs.Alone.{struct_alone}

-- ---- a list of one ----

-- a struct of the element's schema stands in a list alone, whole
pub record IsStructAlone (set : Schemas) (b : ℕ) (l : Levels) (s : StructTree) (from : ℕ) (t : Tree) : Type 0 where
  pub schema : from ≡ b
  pub sound : first_fault_of_all s.pointers ≡ None
  pub list : t ≡ struct_alone (brand_size set b) s

-- the one element of a new list was set
pub record IsSetAlone (set : Schemas) (e : SchemaType) (s : Source) (t : Tree) : Type 0 where
  pub fits : SourceFits s
  pub room : HasElementThere e (new_list set e 1) 0
  pub set_there : IsElementSet set e s 0 (new_list set e 1) t

abbrev pub IsOneStruct : Schemas → ℕ → Source → Tree → Type 0
IsOneStruct set b (StructSource l s from) t = IsStructAlone set b l s from t
IsOneStruct set b s t = ⊥

-- a list of one element, which took a value
abbrev pub IsOne : Schemas → SchemaType → Source → Tree → Type 0
IsOne set (StructType b g) s t = IsOneStruct set b s t
IsOne set e s t = IsSetAlone set e s t

-- ---- what values they are ----

-- what a set of an element that is taken puts there
abbrev pub given_value : Given → Value
given_value (Gives v) = v
given_value (Copies x past v) = v
given_value (CopiesGroup l s b) = value.Elsewhere
given_value (Fails kind) = value.Elsewhere

abbrev pub added_values : Schemas → SchemaType → List Source → Values
added_values set e [] = NoValues
added_values set e (s ∷ sources) = MoreValues (given_value (given_element set e s)) (added_values set e sources)
