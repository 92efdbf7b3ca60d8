-- What a builder's get of a struct or list slot leaves there, and where it takes no memory.
use Rattle.std.specs.Prelude.{ℕ, ◌≡◌, true, false, None}
use Rattle.capnp_wire.specs.Tree.{Tree, Null, StructTree, empty_struct}
use Rattle.capnp_wire.specs.Reading.{is_null_tree}
use Rattle.capnp_wire.specs.Defaults.{list_refusal, takes_default}
use Rattle.capnp_wire.specs.Edits.{HoldsStruct, extended_struct, struct_in}
use Rattle.capnp_wire.specs.StructLists.{HoldsStructs, struct_list}
use Rattle.capnp_schema.specs.Defaults.{value_default_tree}
use Rattle.capnp_schema.specs.Types.{SchemaType, StructType, ListType, element_size}
use Rattle.capnp_schema.specs.Schema.{Schemas, StructValue, ListValue, Value as SchemaValue}
use Rattle.capnp_schema.specs.Accepted.{words_root}
use Rattle.capnp_schema.specs.Plan.{brand_size}

-- the struct of a default, of size zero where there is none
abbrev pub default_struct : SchemaValue → StructTree
default_struct (StructValue words) = struct_in (words_root words)
default_struct d = empty_struct

-- the struct at a slot, or its default's, with at least its schema's sections
abbrev pub filled_slot_struct : Schemas → ℕ → SchemaValue → Tree → StructTree
filled_slot_struct set b d x = extended_struct (brand_size set b) (elim (is_null_tree x) [ true ↦ default_struct d | false ↦ struct_in x ])

-- a list of structs whose elements have at least their schema's sections; every other list as it is
abbrev pub entered_list : Schemas → SchemaType → Tree → Tree
entered_list set (StructType b g) x = struct_list (brand_size set b) x
entered_list set t x = x

-- a null becomes the default where that is a list
abbrev pub list_or_default : SchemaValue → Tree → Tree
list_or_default (ListValue words) Null = words_root words
list_or_default d x = x

abbrev pub filled_list : Schemas → SchemaType → SchemaValue → Tree → Tree
filled_list set element d x = entered_list set element (list_or_default d x)

-- nothing has to be filled or extended there
abbrev pub IsAtRest : Schemas → SchemaValue → SchemaType → Tree → Type 0
IsAtRest set d (StructType b g) x = HoldsStruct (brand_size set b) x
IsAtRest set d (ListType (StructType b g)) x = (takes_default (value_default_tree d) x ≡ false) × HoldsStructs (brand_size set b) x
IsAtRest set d (ListType e) x = (takes_default (value_default_tree d) x ≡ false) × (list_refusal (element_size e) x ≡ None)
IsAtRest set d t x = ⊥
