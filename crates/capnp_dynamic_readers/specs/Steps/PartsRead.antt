-- What a printer reads under a field, and how the text goes on there.
use Rattle.std.specs.Prelude.{ℕ, zero, suc, ◌≡◌, cond, Err}
use Rattle.capnp_device.specs.declared.error.ErrorKind.{ErrorKind}
use Rattle.capnp_schema.specs.FieldLists.{index_of}
use Rattle.capnp_schema.specs.Schema.{TypedField}
use Rattle.capnp_schema.specs.StructHandles.{struct_field}
use Rattle.capnp_schema.specs.Types.{SchemaType}
use Rattle.capnp_schema.specs.declared.schema.fields.Field.{Field}
use Rattle.capnp_records.specs.Text.{Layout, entering_fault, is_entered}
use Rattle.capnp_dynamic_readers.specs.Handles.{element_of, schema_of}
use Rattle.capnp_dynamic_readers.specs.Reads.{element_seen}
use Rattle.capnp_dynamic_readers.specs.Steps.Shown.{element_shown, field_shown, value_shown}
use Rattle.capnp_dynamic_readers.specs.declared.dynamic_list.Reader.{Reader as ListHandle}
use Rattle.capnp_dynamic_readers.specs.declared.dynamic_struct.Reader.{Reader as StructHandle}
use Rattle.capnp_dynamic_readers.specs.declared.dynamic_value.Reader.{Reader as DynamicValue}

-- the field of a struct that a handle of a field is
abbrev pub field_in : StructHandle → Field → TypedField
field_in r f = struct_field (schema_of r) (index_of f)

-- how a read's refusal is told where so many levels are left
abbrev pub fault_at : ℕ → SchemaType → ErrorKind → ErrorKind
fault_at zero t kind = cond (is_entered t) (entering_fault kind) kind
fault_at (suc left) t kind = kind

-- a part of a struct that is no group: its text is the field's
abbrev pub IsPart : StructHandle → Field → DynamicValue → Type 0
IsPart r f v = (left : ℕ) (at : Layout) → field_shown left at r (field_in r f) ≡ value_shown left at v

abbrev pub IsPartRefused : StructHandle → Field → ErrorKind → Type 0
IsPartRefused r f kind = (left : ℕ) (at : Layout) → field_shown left at r (field_in r f) ≡ Err (fault_at left (field_in r f).type kind)

-- an element of a list, and why there is none
abbrev pub IsElementRead : ListHandle → ℕ → DynamicValue → Type 0
IsElementRead l i v = (left : ℕ) (at : Layout) → element_shown left at l (element_seen l i) ≡ value_shown left at v

abbrev pub IsElementRefused : ListHandle → ℕ → ErrorKind → Type 0
IsElementRefused l i kind = (left : ℕ) (at : Layout) → element_shown left at l (element_seen l i) ≡ Err (fault_at left (element_of l) kind)
