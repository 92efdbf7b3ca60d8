-- What is read under a field or at an index, in each style.
use Rattle.std.proofs.Common.{ℕ, ◌≡◌, Ok, Err, None, Result, IfErr, IfOk, ap, sym, ◌∙◌}
use Rattle.capnp_device.specs.declared.error.Error.{Error}
use Rattle.capnp_schema.specs.FieldLists.{IsFieldOf, index_of, typed_of}
use Rattle.capnp_schema.specs.Schema.{TypedField, kind_target}
use Rattle.capnp_schema.specs.StructHandles.{IsStruct, set_of, struct_field}
use Rattle.capnp_schema.specs.declared.schema.fields.Field.{Field}
use Rattle.capnp_schema.specs.declared.schema.structs.StructSchema.{StructSchema}
use Rattle.capnp_records.specs.Text.{Layout}
use Rattle.capnp_dynamic_readers.specs.Handles.{element_of, list_set, schema_of}
use Rattle.capnp_dynamic_readers.specs.Reads.{element_seen, field_seen}
use Rattle.capnp_dynamic_readers.specs.Seen.{answered_value}
use Rattle.capnp_dynamic_readers.specs.Steps.PartsRead.{field_in}
use Rattle.capnp_dynamic_readers.specs.Steps.StyledParts.{IsReadAt, IsRefusedAt, IsSlotRead, IsSlotRefused}
use Rattle.capnp_dynamic_readers.specs.Styles.{Texts}
use Rattle.capnp_dynamic_readers.specs.Typed.{IsOf, IsValueUnder}
use Rattle.capnp_dynamic_readers.specs.declared.dynamic_list.Reader.{Reader as ListHandle}
use Rattle.capnp_dynamic_readers.specs.declared.dynamic_struct.Reader.{Reader as StructHandle}
use Rattle.capnp_dynamic_readers.specs.declared.dynamic_value.Reader.{Reader as DynamicValue}

module _ (h : StructHandle) (f : Field) (field : IsFieldOf (schema_of h) (index_of f) f) where
  pub slot_read : IsStruct (schema_of h) → None ≡ kind_target (field_in h f).field.kind (field_in h f).type → (answer : Result DynamicValue Error) → answered_value answer ≡ field_seen h (index_of f) →
      IfOk answer (IsOf (set_of (schema_of h)) (field_in h f).type) → IfOk answer (IsSlotRead h f)
  slot_read stands none (Ok v) is typed = λ x under law left at. law.field_read h f field stands v is typed none left at
  slot_read stands none (Err e) is typed = tt {0}

  pub slot_unread : (answer : Result DynamicValue Error) → answered_value answer ≡ field_seen h (index_of f) → IfErr answer (λ e. IsSlotRefused h f e.kind)
  slot_unread (Ok v) is = tt {0}
  slot_unread (Err e) is = λ x under law left at. law.field_refused h f field e.kind is left at

  -- the style under a field is that of the struct's own field
  pub same_under : {S : Type 0} (texts : S → Texts) (under : S → TypedField → S) (style inner : S) → inner ≡ under style (typed_of f) → (left : ℕ) (at : Layout) (v : DynamicValue) →
      (texts (under style (field_in h f))).value left at v ≡ (texts inner).value left at v
  same_under texts under style inner e left at v =
      sym (ap (λ z. (texts z).value left at v) (e ∙ ap (λ (s : StructSchema). under style (struct_field s (index_of f))) field.schema))

module _ (l : ListHandle) (i : ℕ) where
  pub element_read : (answer : Result DynamicValue Error) → answered_value answer ≡ element_seen l i → IfOk answer (IsValueUnder (list_set l) (element_of l)) → IfOk answer (IsReadAt l i)
  element_read (Ok v) is typed = λ x under law left at. law.element_read l i v is typed left at
  element_read (Err e) is typed = tt {0}

  pub element_unread : (answer : Result DynamicValue Error) → answered_value answer ≡ element_seen l i → IfErr answer (λ e. IsRefusedAt l i e.kind)
  element_unread (Ok v) is = tt {0}
  element_unread (Err e) is = λ x under law left at. law.element_refused l i e.kind is left at
