-- What the walk of a print reads, and how the text goes on there in each style.
use Rattle.std.specs.Prelude.{ℕ, ◌≡◌, Err}
use Rattle.capnp_device.specs.declared.error.ErrorKind.{ErrorKind}
use Rattle.capnp_schema.specs.Schema.{TypedField}
use Rattle.capnp_schema.specs.declared.schema.fields.Field.{Field}
use Rattle.capnp_records.specs.Text.{Layout}
use Rattle.capnp_dynamic_readers.specs.Handles.{element_of}
use Rattle.capnp_dynamic_readers.specs.Steps.PartsRead.{fault_at, field_in}
use Rattle.capnp_dynamic_readers.specs.Steps.Styled.{IsTexts}
use Rattle.capnp_dynamic_readers.specs.Styles.{Texts}
use Rattle.capnp_dynamic_readers.specs.declared.dynamic_list.Reader.{Reader as ListHandle}
use Rattle.capnp_dynamic_readers.specs.declared.dynamic_struct.Reader.{Reader as StructHandle}
use Rattle.capnp_dynamic_readers.specs.declared.dynamic_value.Reader.{Reader as DynamicValue}

-- a part of a struct that is no group: its text is the field's
abbrev pub IsSlotRead : StructHandle → Field → DynamicValue → Type 0
IsSlotRead h f v = (x : Texts) (under : TypedField → Texts) → IsTexts x under → (left : ℕ) (at : Layout) → x.field left at h (field_in h f) ≡ (under (field_in h f)).value left at v

abbrev pub IsSlotRefused : StructHandle → Field → ErrorKind → Type 0
IsSlotRefused h f kind = (x : Texts) (under : TypedField → Texts) → IsTexts x under → (left : ℕ) (at : Layout) → x.field left at h (field_in h f) ≡ Err (fault_at left (field_in h f).type kind)

-- an element of a list, and why there is none
abbrev pub IsReadAt : ListHandle → ℕ → DynamicValue → Type 0
IsReadAt l i v = (x : Texts) (under : TypedField → Texts) → IsTexts x under → (left : ℕ) (at : Layout) → x.element left at l i ≡ x.value left at v

abbrev pub IsRefusedAt : ListHandle → ℕ → ErrorKind → Type 0
IsRefusedAt l i kind = (x : Texts) (under : TypedField → Texts) → IsTexts x under → (left : ℕ) (at : Layout) → x.element left at l i ≡ Err (fault_at left (element_of l) kind)
