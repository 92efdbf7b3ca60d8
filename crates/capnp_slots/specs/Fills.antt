-- What a builder's get of a slot leaves at its pointer, and why it is refused.
use Rattle.std.specs.Prelude.{◌≡◌, Bool, true, false, Option, None}
use Rattle.capnp_device.specs.declared.error.ErrorKind.{ErrorKind}
use Rattle.capnp_wire.specs.Tree.{StructTree, Tree, nth_tree}
use Rattle.capnp_wire.specs.Place.{struct_tree}
use Rattle.capnp_wire.specs.Reading.{as_data, as_text}
use Rattle.capnp_wire.specs.Defaults.{error_of, list_refusal}
use Rattle.capnp_wire.specs.Edits.{struct_refusal}
use Rattle.capnp_wire.specs.StructLists.{HoldsStructs, struct_list_refusal}
use Rattle.capnp_schema.specs.FieldLists.{typed_of}
use Rattle.capnp_schema.specs.Schema.{Schemas, VoidValue, TextValue, DataValue, Value, default_of}
use Rattle.capnp_schema.specs.Types.{SchemaType, TextType, DataType, StructType, ListType, AnyPointerType, element_size}
use Rattle.capnp_schema.specs.declared.schema.fields.Field.{Field}
use Rattle.capnp_records.specs.Given.{data_tree}
use Rattle.capnp_base.specs.Text.{text_tree}
use Rattle.capnp_records.specs.Writes.Fill.{IsAtRest, filled_list, filled_slot_struct, list_or_default}
use Rattle.capnp_schema.specs.Plan.{brand_size}
use Rattle.capnp_records.specs.Writes.TreeCopy.{or_else}
use Rattle.capnp_slots.specs.Fields.{field_set, pointer_index}

-- a struct is its default's where it is null, with at least its schema's sections; a list its default where it is null, and
-- structs have at least their schema's sections; a text and data are a default of their own kind where they are null
abbrev pub filled_tree : Schemas → Value → SchemaType → Tree → Tree
filled_tree set d (StructType b g) x = struct_tree (filled_slot_struct set b d x)
filled_tree set d (ListType e) x = filled_list set e d x
filled_tree set (TextValue bytes) TextType x = or_else x (text_tree bytes)
filled_tree set (DataValue bytes) DataType x = or_else x (data_tree bytes)
filled_tree set d t x = x

-- what stands there is not read as the type, or as structs would be past the format
abbrev pub fill_due : Schemas → Value → SchemaType → Tree → Option ErrorKind
fill_due set d (StructType b g) x = struct_refusal x
fill_due set d (ListType (StructType b g)) x = struct_list_refusal (brand_size set b) (list_or_default d x)
fill_due set d (ListType e) x = list_refusal (element_size e) x
fill_due set d TextType x = error_of (as_text x)
fill_due set d DataType x = error_of (as_data x)
fill_due set d t x = None

-- ---- by a field ----

-- what stands at the pointer of a field's slot
abbrev pub pointer_in : Field → StructTree → Tree
pointer_in f s = nth_tree s.pointers (pointer_index f)

abbrev pub filled_in : Field → StructTree → Tree
filled_in f s = filled_tree (field_set f) (default_of (typed_of f).field) (typed_of f).type (pointer_in f s)

abbrev pub due_in : Field → StructTree → Option ErrorKind
due_in f s = fill_due (field_set f) (default_of (typed_of f).field) (typed_of f).type (pointer_in f s)

abbrev pub RestsIn : Field → StructTree → Type 0
RestsIn f s = IsAtRest (field_set f) (default_of (typed_of f).field) (typed_of f).type (pointer_in f s)

-- ---- elements of a list ----

-- whether an element of a type stands behind a pointer of its own
abbrev pub is_behind : SchemaType → Bool
is_behind TextType = true
is_behind DataType = true
is_behind (ListType e) = true
is_behind AnyPointerType = true
is_behind t = false

-- what a builder's get of an element leaves at its pointer, and why it is refused: as of a slot without a default
abbrev pub element_filled : Schemas → SchemaType → Tree → Tree
element_filled set t x = filled_tree set VoidValue t x

abbrev pub element_due : Schemas → SchemaType → Tree → Option ErrorKind
element_due set t x = fill_due set VoidValue t x

-- nothing has to be extended there
abbrev pub ElementRests : Schemas → SchemaType → Tree → Type 0
ElementRests set (ListType (StructType b g)) x = HoldsStructs (brand_size set b) x
ElementRests set t x = element_due set t x ≡ None
