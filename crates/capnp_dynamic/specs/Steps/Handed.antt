-- What builders hand out of a pointer, an element or a field, and when it can be: steps of the code.
use Rattle.std.specs.Prelude.{◌≡◌, ⊤, true, false, IsOk}
use Rattle.capnp_wire.specs.Edits.{is_struct, struct_in}
use Rattle.capnp_wire.specs.Reading.{as_data, as_text}
use Rattle.capnp_wire.specs.Tree.{StructTree, Tree}
use Rattle.capnp_schema.specs.FieldLists.{typed_of}
use Rattle.capnp_schema.specs.Schema.{Schemas}
use Rattle.capnp_schema.specs.Types.{SchemaType, TextType, DataType, StructType, ListType}
use Rattle.capnp_schema.specs.declared.schema.fields.Field.{Field}
use Rattle.capnp_records.specs.Writes.Slots.{Fits}
use Rattle.capnp_slots.specs.Fields.{field_set}
use Rattle.capnp_slots.specs.Fills.{filled_in}
use Rattle.capnp_dynamic.specs.Built.{HoldsElements}
use Rattle.capnp_dynamic.specs.declared.dynamic_value.build.Builder.{Builder as BuiltValue}
use Rattle.capnp_dynamic.specs.Handed.{HandsOut}

-- ---- pointers ----

-- what stands at a pointer is of its type: text or data that can be read, a struct of its schema's sections, a list of
-- elements of their type, or null
abbrev pub CanBeHanded : Schemas → SchemaType → Tree → Type 0
CanBeHanded set TextType x = IsOk (as_text x)
CanBeHanded set DataType x = IsOk (as_data x)
CanBeHanded set (StructType b g) x = (is_struct x ≡ true) × Fits set b (struct_in x)
CanBeHanded set (ListType e) x = HoldsElements set e x
CanBeHanded set t x = ⊤

-- the value at the pointer of a slot that was filled
abbrev pub HandsFilled : Field → StructTree → BuiltValue → Type 0
HandsFilled f s v = HandsOut false (field_set f) (typed_of f).type (filled_in f s) v
