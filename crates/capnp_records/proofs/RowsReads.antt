-- Worked rows of records: what fields have, which member is active, what is there, and what levels and defaults do.
use Rattle.std.specs.Prelude.{◌≡◌, refl, [], ◌∷◌, false, true, Some, None, replicate}
use Rattle.capnp_wire.specs.Place.{tree_at}
use Rattle.capnp_wire.specs.Tree as tree
use Rattle.capnp_wire.specs.Tree.{StructTree, NoTrees, MoreTrees, NoStructs, MoreStructs}
use Rattle.capnp_wire.specs.declared.fault.Fault.TheVariants as fault
use Rattle.capnp_device.specs.declared.error.ErrorKind.TheVariants.{CapabilityPointer, TooDeep, WrongElementSize, WrongPointerKind}
use Rattle.capnp_schema.specs.Types.{AnyPointerType, ListType, StructType, TextType}
use Rattle.capnp_schema.specs.Schema.{AnyPointerValue, StructValue, TextValue, VoidValue, field_at}
use Rattle.capnp_schema.specs.Builtin.{builtin, zero_word}
use Rattle.capnp_records.proofs.RowWords.{z8}
use Rattle.capnp_records.specs.Default.{default_record, read_field, read_of}
use Rattle.capnp_records.specs.Part.{has_of, which_of}
use Rattle.capnp_records.specs.Reading.{part_of, struct_record, value_of, values_of}
use Rattle.capnp_records.specs.Record as value
use Rattle.capnp_records.specs.Record.{Left, MoreValues, NoValues, Record}

-- ---- `Mixed` with a = 5 and y = 9, whose text b is null ----

abbrev mixed : StructTree
mixed = record { bytes = 5 ∷ 0 ∷ 1 ∷ 0 ∷ 9 ∷ 0 ∷ 0 ∷ 0 ∷ []; pointers = MoreTrees tree.Null NoTrees }

abbrev mixed_record : Record
mixed_record = struct_record builtin (Left 63) mixed 1

which_is_y : which_of mixed_record ≡ Some 2
which_is_y = refl

x_is_not_there : has_of mixed_record (field_at builtin 1 1).field 1 ≡ false
x_is_not_there = refl

y_is_there : has_of mixed_record (field_at builtin 1 2).field 2 ≡ true
y_is_there = refl

b_is_not_there : has_of mixed_record (field_at builtin 1 3).field 3 ≡ false
b_is_not_there = refl

-- the slot of a member that isn't active is read as its bits stand
x_reads_as_void : part_of builtin (Left 63) mixed.bytes (values_of builtin mixed.pointers) (field_at builtin 1 1) ≡ value.Void
x_reads_as_void = refl

b_reads_as_no_bytes : read_field builtin (field_at builtin 1 3) (value.Missing (Left 63)) ≡ value.Text []
b_reads_as_no_bytes = refl

-- a discriminant that is no member's
unknown_member : which_of (struct_record builtin (Left 63) (record { bytes = 5 ∷ 0 ∷ 7 ∷ 0 ∷ 9 ∷ 0 ∷ 0 ∷ 0 ∷ []; pointers = MoreTrees tree.Null NoTrees }) 1) ≡ None
unknown_member = refl

-- what can't be read is there
capability_is_there : has_of (struct_record builtin (Left 63) (record { bytes = []; pointers = MoreTrees tree.Null (MoreTrees (tree.FaultLeaf fault.CapabilityPointer) NoTrees) }) 7) (field_at builtin 7 1).field 1 ≡ true
capability_is_there = refl

-- ---- levels ----

-- with none left a struct, a list and a null are too deep, and a pointer of another kind is before it is another kind
struct_too_deep : value_of builtin (tree.Struct z8 NoTrees) (Left 0) (StructType 0 0) ≡ value.Fault TooDeep
struct_too_deep = refl

list_too_deep : value_of builtin (tree.Bits []) (Left 0) (ListType (StructType 0 0)) ≡ value.Fault TooDeep
list_too_deep = refl

list_of_bits : value_of builtin (tree.Bits []) (Left 1) (ListType (StructType 0 0)) ≡ value.Fault WrongElementSize
list_of_bits = refl

list_for_a_struct : value_of builtin (tree.Bits []) (Left 1) (StructType 0 0) ≡ value.Fault WrongPointerKind
list_for_a_struct = refl

null_too_deep : read_of builtin VoidValue (StructType 0 0) (value.Missing (Left 0)) ≡ value.Fault TooDeep
null_too_deep = refl

-- but a capability is a capability, and texts, data and untyped pointers take no level
capability_first : value_of builtin (tree.FaultLeaf fault.CapabilityPointer) (Left 0) (StructType 0 0) ≡ value.Fault CapabilityPointer
capability_first = refl

text_takes_none : value_of builtin (tree.Numbers 1 (107 ∷ 0 ∷ [])) (Left 0) TextType ≡ value.Text (107 ∷ [])
text_takes_none = refl

untyped_takes_none : value_of builtin (tree.FaultLeaf fault.CapabilityPointer) (Left 0) AnyPointerType ≡ value.Untyped (tree.FaultLeaf fault.CapabilityPointer)
untyped_takes_none = refl

-- a group takes none: what is missing in `Shapes.circle`'s sibling has the levels of the struct
group_takes_none : part_of builtin (Left 5) (0 ∷ 0 ∷ 1 ∷ []) [] (field_at builtin 3 2) ≡ value.Group (struct_record builtin (Left 5) (record { bytes = 0 ∷ 0 ∷ 1 ∷ []; pointers = NoTrees }) 5)
group_takes_none = refl

-- a pointer out of a list of structs is read through its struct, which takes a level more
abbrev pointers_in_structs : tree.Tree
pointers_in_structs = tree.Composite 0 1 (MoreStructs [] (MoreTrees (tree.Numbers 1 (107 ∷ 0 ∷ [])) NoTrees) (MoreStructs [] (MoreTrees tree.Null NoTrees) NoStructs))

pointer_element : value_of builtin pointers_in_structs (Left 2) (ListType TextType) ≡ value.Elements (MoreValues (value.Text (107 ∷ [])) (MoreValues (value.Missing (Left 0)) NoValues))
pointer_element = refl

pointer_element_too_deep : value_of builtin pointers_in_structs (Left 1) (ListType TextType) ≡ value.Elements (MoreValues (value.Fault TooDeep) (MoreValues (value.Missing (Left 0)) NoValues))
pointer_element_too_deep = refl

-- an element of a list of pointers is a struct of that pointer
struct_of_a_pointer : value_of builtin (tree.Pointers (MoreTrees (tree.Numbers 1 (107 ∷ 0 ∷ [])) NoTrees)) (Left 3) (ListType (StructType 1 1))
    ≡ value.Elements (MoreValues (value.Struct (struct_record builtin (Left 1) (record { bytes = []; pointers = MoreTrees (tree.Numbers 1 (107 ∷ 0 ∷ [])) NoTrees }) 1)) NoValues)
struct_of_a_pointer = refl

-- ---- defaults ----

-- a default is read on its own levels, once a level was left for the null
default_on_its_own_levels : read_field builtin (field_at builtin 6 1) (value.Missing (Left 1)) ≡ value.Struct (struct_record builtin (Left 63) (record { bytes = 1 ∷ replicate 7 0; pointers = MoreTrees tree.Null NoTrees }) 6)
unfolding tree_at
default_on_its_own_levels = refl

default_asks_the_null's_level : read_field builtin (field_at builtin 6 1) (value.Missing (Left 0)) ≡ value.Fault TooDeep
default_asks_the_null's_level = refl

-- a default that is null, or untyped, is none
null_default : read_of builtin (StructValue zero_word) (StructType 6 6) (value.Missing (Left 5)) ≡ value.Struct (default_record builtin (Left 4) 6)
unfolding tree_at
null_default = refl

untyped_default : read_of builtin (AnyPointerValue zero_word) (StructType 0 0) (value.Missing (Left 5)) ≡ value.Struct (default_record builtin (Left 4) 0)
untyped_default = refl

text_default : read_of builtin (TextValue (107 ∷ [])) TextType (value.Missing (Left 0)) ≡ value.Text (107 ∷ [])
text_default = refl

nothing_untyped : read_of builtin (AnyPointerValue zero_word) AnyPointerType (value.Missing (Left 0)) ≡ value.Untyped tree.Null
nothing_untyped = refl
