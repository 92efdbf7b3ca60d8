-- The element of a list of one as it is given to a set.
use Rattle.std.specs.Prelude.{suc, ◌-◌, ◌≡◌, ⊤, Bool, true, false, None}
use Rattle.capnp_wire.specs.Depth.{AreBelow}
use Rattle.capnp_wire.specs.Elements.{or_empty, reads_list}
use Rattle.capnp_wire.specs.Reading.{element_levels, element_pointer, element_struct}
use Rattle.capnp_wire.specs.Tree.{Tree}
use Rattle.capnp_schema.specs.Schema.{Schemas}
use Rattle.capnp_schema.specs.Types.{ListType, SchemaType, StructType, element_size}
use Rattle.capnp_records.specs.Call.{ListSource, Source, StructSource, VoidSource}
use Rattle.capnp_records.specs.Given.{Copies, CopiesGroup, Fails, Given, Gives, copied_struct, copy_refusal, given_element, given_group, given_slot}
use Rattle.capnp_records.specs.Reading.{reads}
use Rattle.capnp_records.specs.Record as value
use Rattle.capnp_records.specs.Record.{Endless, Left, Value}

-- ---- what is given ----

-- structs and lists
abbrev pub is_whole : SchemaType → Bool
is_whole (StructType b g) = true
is_whole (ListType e) = true
is_whole t = false

-- the list that an element is, of which a null is one of nothing, by a reader of the list that has 63 levels left
abbrev pub inner_list : SchemaType → Tree → Tree
inner_list e x = or_empty (element_size e) (element_pointer x 0 63)

-- a struct or a list, by the same
abbrev pub element_source : SchemaType → Tree → Source
element_source (StructType b g) x = StructSource (Left 62) (element_struct x 0) b
element_source (ListType e) x = ListSource (Left (element_levels x 63 - 1)) (inner_list e x) e
element_source t x = VoidSource

-- an element that is a list is one of its own elements
abbrev pub IsInnerReadable : SchemaType → Tree → Type 0
IsInnerReadable (ListType e) x = reads_list (element_size e) (inner_list e x) ≡ true
IsInnerReadable t x = ⊤

-- a list of elements of a type
abbrev pub IsReadable : SchemaType → Tree → Type 0
IsReadable t x = (reads_list (element_size t) x ≡ true) × IsInnerReadable t x

-- a list of values
abbrev pub is_elements : Value → Bool
is_elements (value.Elements vs) = true
is_elements v = false

-- a value is of a type as far as a list is one
abbrev pub IsListIfAsked : SchemaType → Value → Type 0
IsListIfAsked (ListType e) v = is_elements v ≡ true
IsListIfAsked t v = ⊤

-- ---- what a set takes ----

-- Nothing refuses the copy, and it has the value: of a struct or list behind a pointer, and of a group, which is copied under
-- the levels of its reader, that cut nothing off.
abbrev pub IsCopyOf : Schemas → Given → Value → Type 0
IsCopyOf set (Copies x past v) w = (copy_refusal x ≡ None) × (past ≡ false) × (v ≡ w)
IsCopyOf set (CopiesGroup (Left n) s b) w = (copy_refusal (copied_struct s) ≡ None) × AreBelow (suc n) s.pointers × (value.Struct (reads set s b) ≡ w)
IsCopyOf set (CopiesGroup Endless s b) w = ⊥
IsCopyOf set (Gives v) w = ⊥
IsCopyOf set (Fails kind) w = ⊥

-- a group takes a struct of its schema
abbrev pub IsGroupCopyOf : Schemas → SchemaType → Source → Value → Type 0
IsGroupCopyOf set (StructType b g) s v = IsCopyOf set (given_group (StructType b g) s) v
IsGroupCopyOf set t s v = ⊤

-- a slot, an element and a group of the type take a copy of the value
pub record IsTakenAs (set : Schemas) (t : SchemaType) (s : Source) (v : Value) : Type 0 where
  pub slot : IsCopyOf set (given_slot set t s) v
  pub element : IsCopyOf set (given_element set t s) v
  pub group : IsGroupCopyOf set t s v
