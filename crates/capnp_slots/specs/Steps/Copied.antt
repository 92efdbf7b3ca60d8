-- The copy of a slot out of a struct of the same schema: what is copied, and why it is not: steps of the code.
use Rattle.std.specs.Prelude.{ℕ, [], ◌≡◌, false, Option, Some}
use Rattle.capnp_device.specs.declared.error.ErrorKind.{ErrorKind}
use Rattle.capnp_device.specs.declared.error.ErrorKind.TheVariants.{CannotSetAnyPointerFieldToAPrimitiveValue}
use Rattle.capnp_wire.specs.Defaults.{error_of}
use Rattle.capnp_wire.specs.Reading.{as_data, as_list, as_struct, as_text, empty_list}
use Rattle.capnp_wire.specs.Place.{struct_tree}
use Rattle.capnp_wire.specs.Tree.{Tree, Null, empty_struct}
use Rattle.capnp_schema.specs.FieldLists.{typed_of}
use Rattle.capnp_schema.specs.Schema.{default_of}
use Rattle.capnp_schema.specs.Types.{SchemaType, TextType, DataType, StructType, ListType, element_size}
use Rattle.capnp_schema.specs.declared.schema.fields.Field.{Field}
use Rattle.capnp_records.specs.Given.{Given, Copies, data_tree}
use Rattle.capnp_base.specs.Text.{text_tree}
use Rattle.capnp_records.specs.GroupCopy.{pointer_copy}
use Rattle.capnp_records.specs.Record.{Left, Value}
use Rattle.capnp_records.specs.Writes.Slots.{Content, At}
use Rattle.capnp_records.specs.Writes.TreeCopy.{slot_default_tree, read_tree}
use Rattle.capnp_slots.specs.Fields.{field_set}

-- the same of a pointer: what it leads to, and a null as its default
abbrev pub pointer_given : Field → ℕ → Tree → Given
pointer_given f n x = pointer_copy (field_set f) (Left n) x (default_of (typed_of f).field) (typed_of f).type

abbrev pub pointer_content : Field → Tree → Content
pointer_content f x = At (read_tree (default_of (typed_of f).field) (typed_of f).type x)

-- what is copied in the place of a default that is none
abbrev pub empty_tree : SchemaType → Tree
empty_tree TextType = text_tree []
empty_tree DataType = data_tree []
empty_tree (StructType b g) = struct_tree empty_struct
empty_tree (ListType e) = empty_list (element_size e)
empty_tree t = Null

-- the default of a field as a tree
abbrev pub default_in : Field → Tree
default_in f = slot_default_tree (default_of (typed_of f).field) (typed_of f).type

-- a pointer is given as a copy of what it leads to
abbrev pub IsGivenCopy : Field → ℕ → Tree → Type 0
IsGivenCopy f n x = (v : Value) × (pointer_given f n x ≡ Copies x false v)

-- why a pointer is not read as a value of a type, where its reader has so many levels left
abbrev pub read_due : SchemaType → Tree → ℕ → Option ErrorKind
read_due TextType x n = error_of (as_text x)
read_due DataType x n = error_of (as_data x)
read_due (StructType b g) x n = error_of (as_struct x n)
read_due (ListType e) x n = error_of (as_list (element_size e) x n)
read_due t x n = Some CannotSetAnyPointerFieldToAPrimitiveValue
