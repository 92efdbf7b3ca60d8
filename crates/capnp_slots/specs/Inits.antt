-- What init and initn write into a slot, and why they are refused.
use Rattle.std.specs.Prelude.{ℕ, ◌-◌, ◌≡◌, Bool, true, false, nat_lt}
use Rattle.capnp_device.specs.declared.error.ErrorKind.{ErrorKind}
use Rattle.capnp_device.specs.declared.error.ErrorKind.TheVariants.{OutOfMemory, SizePastFormat, InitIsOnlyValidForStructAndAnyPointerFields, InitnIsOnlyValidForListTextOrDataFields}
use Rattle.capnp_wire.specs.Locate.{words_past_format}
use Rattle.capnp_schema.specs.FieldLists.{typed_of}
use Rattle.capnp_schema.specs.Schema.{Schemas}
use Rattle.capnp_schema.specs.Types.{SchemaType, TextType, DataType, StructType, ListType, AnyPointerType}
use Rattle.capnp_schema.specs.declared.schema.fields.Field.{Field}
use Rattle.capnp_records.specs.Operation.{elements_past}
use Rattle.capnp_records.specs.Writes.Contents.{init_tree, initn_tree}
use Rattle.capnp_records.specs.Writes.ElementEnds.{InitnContent}
use Rattle.capnp_records.specs.Writes.Slots.{Content, At}
use Rattle.capnp_records.specs.Writes.TreeEnds.{InitContent}
use Rattle.capnp_slots.specs.Fields.{field_set}

-- what init writes into a field's slot, and initn
abbrev pub init_content : Field → Content
init_content f = At (init_tree (field_set f) (typed_of f).type)

abbrev pub initn_content : Field → ℕ → Content
initn_content f n = At (initn_tree (field_set f) (typed_of f).type n)

-- the slot has an init, and one with this size
abbrev pub HasInit : Field → Type 0
HasInit f = InitContent (field_set f) (typed_of f).type (init_content f)

abbrev pub HasInitn : Field → ℕ → Type 0
HasInitn f n = InitnContent (field_set f) n (typed_of f).type (initn_content f n)

-- why a slot of a type is not initialized: memory for a struct was refused, or the slot is of another kind
abbrev pub IsInitRefusal : SchemaType → ErrorKind → Type 0
IsInitRefusal (StructType number generic) kind = kind ≡ OutOfMemory
IsInitRefusal AnyPointerType kind = ⊥
IsInitRefusal t kind = kind ≡ InitIsOnlyValidForStructAndAnyPointerFields

-- something new is refused wherever the format has no room for it, and else for the want of memory
abbrev pub IsRoomless : Bool → ErrorKind → Type 0
IsRoomless true kind = kind ≡ SizePastFormat
IsRoomless false kind = kind ≡ OutOfMemory

-- the same with a size
abbrev pub IsInitnRefusal : Schemas → ℕ → SchemaType → ErrorKind → Type 0
IsInitnRefusal set n TextType kind = IsRoomless (nat_lt (words_past_format - 2) n) kind
IsInitnRefusal set n DataType kind = IsRoomless (nat_lt (words_past_format - 1) n) kind
IsInitnRefusal set n (ListType e) kind = IsRoomless (elements_past set e n) kind
IsInitnRefusal set n t kind = kind ≡ InitnIsOnlyValidForListTextOrDataFields
