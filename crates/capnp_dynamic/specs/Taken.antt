-- Parts that are taken as a struct or as a list alone: where a builder hands out something else, it is a mismatch.
use Rattle.std.specs.Prelude.{ℕ, ◌≡◌, ◌⊎◌, Bool, true, false, not, ◌&&◌, ◌||◌}
use Rattle.capnp_device.specs.declared.error.Error.{Error}
use Rattle.capnp_device.specs.declared.error.ErrorKind.TheVariants.{TypeMismatch}
use Rattle.capnp_wire.specs.Tree.{StructTree}
use Rattle.capnp_schema.specs.FieldLists.{typed_of}
use Rattle.capnp_schema.specs.Schema.{TypedField}
use Rattle.capnp_schema.specs.Types.{SchemaType, StructType, ListType}
use Rattle.capnp_schema.specs.declared.schema.fields.Field.{Field}
use Rattle.capnp_records.specs.Step.{is_group_field}
use Rattle.capnp_dynamic.specs.Built.{built_element}
use Rattle.capnp_dynamic.specs.Handed.{IsElementPartRefusal, IsElementWithin, IsPartRefusal, IsPartWithin}
use Rattle.capnp_dynamic.specs.declared.dynamic_list.build.Builder.{Builder as ListHandle}

-- whether a type is a struct's, and a list's
abbrev pub is_struct_type : SchemaType → Bool
is_struct_type (StructType b g) = true
is_struct_type t = false

abbrev pub is_list_type : SchemaType → Bool
is_list_type (ListType e) = true
is_list_type t = false

-- whether a builder's get of a field hands out a struct, as it does of every group, and a list
abbrev pub hands_struct : TypedField → Bool
hands_struct f = is_group_field f.field.kind || is_struct_type f.type

abbrev pub hands_list : TypedField → Bool
hands_list f = not (is_group_field f.field.kind) && is_list_type f.type

-- why a field is not handed out as one of a kind: as the get of it is refused, or it is of another kind, where the get would
-- not be refused for what stands there
abbrev pub IsKindRefusal : (is_kind : Bool) → Field → StructTree → Error → Type 0
IsKindRefusal q f s e = IsPartRefusal f s e ⊎ ((e.kind ≡ TypeMismatch) × (q ≡ false) × IsPartWithin f s)

abbrev pub IsStructPartRefusal : Field → StructTree → Error → Type 0
IsStructPartRefusal f s e = IsKindRefusal (hands_struct (typed_of f)) f s e

abbrev pub IsListPartRefusal : Field → StructTree → Error → Type 0
IsListPartRefusal f s e = IsKindRefusal (hands_list (typed_of f)) f s e

-- why an element is not
abbrev pub IsElementKindRefusal : (is_kind : Bool) → ListHandle → ℕ → Error → Type 0
IsElementKindRefusal q l j e = IsElementPartRefusal l j e ⊎ ((e.kind ≡ TypeMismatch) × (q ≡ false) × IsElementWithin l j)

abbrev pub IsStructElementRefusal : ListHandle → ℕ → Error → Type 0
IsStructElementRefusal l j e = IsElementKindRefusal (is_struct_type (built_element l)) l j e

abbrev pub IsListElementRefusal : ListHandle → ℕ → Error → Type 0
IsListElementRefusal l j e = IsElementKindRefusal (is_list_type (built_element l)) l j e
