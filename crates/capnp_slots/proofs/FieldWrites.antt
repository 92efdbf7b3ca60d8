-- What is set, initialized and cleared by a field's kind.
use Rattle.std.proofs.Common.{ℕ, ◌≡◌, refl, Bool, true, false, not, None, Some, Result, Ok, Err, OnOk, OnErr, IfErr, subst, sym}
use Rattle.std.proofs.lemmas.Bool.{true≢false}
use Rattle.capnp_device.specs.declared.error.Error.{Error}
use Rattle.capnp_device.specs.declared.error.ErrorKind.TheVariants.{InitnIsOnlyValidForListTextOrDataFields}
use Rattle.capnp_wire.specs.Tree.{StructTree}
use Rattle.capnp_schema.specs.Accepted.{IsGroupOf}
use Rattle.capnp_schema.specs.FieldLists.{typed_of}
use Rattle.capnp_schema.specs.Schema.{FieldKind, Group, Schemas, Slot}
use Rattle.capnp_schema.specs.StructHandles.{number_of}
use Rattle.capnp_schema.specs.Types.{SchemaType, StructType, struct_brand}
use Rattle.capnp_schema.specs.declared.schema.fields.Field.{Field}
use Rattle.capnp_schema.specs.declared.schema.structs.StructSchema.{StructSchema}
use Rattle.capnp_records.specs.Call.{Source}
use Rattle.capnp_records.specs.Step.{is_group_field}
use Rattle.capnp_slots.specs.Copied.{refusal_of}
use Rattle.capnp_slots.specs.Fields.{field_set, slot_with}
use Rattle.capnp_slots.specs.FieldWrites.{IsFieldInit, IsFieldSet, KindIsInit, KindIsSet, SlotIsInit, SlotIsSet, cleared_field_kind, field_cleared}
use Rattle.capnp_slots.specs.Groups.{IsGroupAt, group_without}
use Rattle.capnp_slots.specs.GroupSets.{IsGroupSet, given_to_group}
use Rattle.capnp_slots.specs.Inits.{HasInit, IsInitRefusal, IsInitnRefusal, init_content}
use Rattle.capnp_slots.specs.Primitives.{given_to}
use Rattle.capnp_slots.specs.Sources.{IsSet, IsSetRefusal}

-- ---- what is cleared ----

pub cleared_slot : (f : Field) (x : StructTree) → true ≡ not (is_group_field (typed_of f).field.kind) → cleared_field_kind false f x ≡ field_cleared f x
cleared_slot f x e = go (is_group_field (typed_of f).field.kind) e
  where
    go : (q : Bool) → true ≡ not q → cleared_field_kind false f x ≡ cleared_field_kind q f x
    go true e = absurd (true≢false e)
    go false e = refl

pub cleared_group : (f : Field) (x : StructTree) → false ≡ not (is_group_field (typed_of f).field.kind) → cleared_field_kind true f x ≡ field_cleared f x
cleared_group f x e = go (is_group_field (typed_of f).field.kind) e
  where
    go : (q : Bool) → false ≡ not q → cleared_field_kind true f x ≡ cleared_field_kind q f x
    go true e = refl
    go false e = absurd (true≢false (sym e))

-- ---- what is set ----

slot_kind : (q : Bool) → true ≡ not q → q ≡ false
slot_kind true e = absurd (true≢false e)
slot_kind false e = refl

group_kind : (q : Bool) → false ≡ not q → q ≡ true
group_kind true e = refl
group_kind false e = absurd (true≢false (sym e))

module _ {A : Type 0} (f : Field) (x : Source) (old new : StructTree) where
  slot_set : (r : Result A Error) → OnOk r (IsSet f x old new) → OnErr r (new ≡ old) → IfErr r (λ e. IsSetRefusal (given_to f x) e.kind) → SlotIsSet f x old (refusal_of r) new
  slot_set (Ok a) ok same cause = ok
  slot_set (Err e) ok same cause = (cause, same)

  pub slot_was_set : (r : Result A Error) → true ≡ not (is_group_field (typed_of f).field.kind) → OnOk r (IsSet f x old new) → OnErr r (new ≡ old) → IfErr r (λ e. IsSetRefusal (given_to f x) e.kind) →
      IsFieldSet f x old (refusal_of r) new
  slot_was_set r e ok same cause =
      subst (λ (q : Bool). KindIsSet q f x old (refusal_of r) new) (sym (slot_kind (is_group_field (typed_of f).field.kind) e)) (slot_set r ok same cause)

  pub group_was_set : (r : Result A Error) → false ≡ not (is_group_field (typed_of f).field.kind) → IsGroupSet f (given_to_group f x) old (refusal_of r) new → IsFieldSet f x old (refusal_of r) new
  group_was_set r e h = subst (λ (q : Bool). KindIsSet q f x old (refusal_of r) new) (sym (group_kind (is_group_field (typed_of f).field.kind) e)) h

-- ---- what is initialized ----

module _ {A : Type 0} (f : Field) (old new : StructTree) where
  slot_init : (r : Result A Error) → OnOk r (HasInit f) → OnOk r (new ≡ slot_with f (init_content f) old) → OnErr r (new ≡ old) → IfErr r (λ e. IsInitRefusal (typed_of f).type e.kind) → SlotIsInit f old (refusal_of r) new
  slot_init (Ok a) has written same cause = (has, written)
  slot_init (Err e) has written same cause = (cause, same)

  pub slot_was_init : (r : Result A Error) → true ≡ not (is_group_field (typed_of f).field.kind) → OnOk r (HasInit f) → OnOk r (new ≡ slot_with f (init_content f) old) → OnErr r (new ≡ old) →
      IfErr r (λ e. IsInitRefusal (typed_of f).type e.kind) → IsFieldInit f old (refusal_of r) new
  slot_was_init r e has written same cause =
      subst (λ (q : Bool). KindIsInit q f old (refusal_of r) new) (sym (slot_kind (is_group_field (typed_of f).field.kind) e)) (slot_init r has written same cause)

pub group_was_init : (f : Field) (old new : StructTree) → false ≡ not (is_group_field (typed_of f).field.kind) → new ≡ group_without f old → IsFieldInit f old None new
group_was_init f old new e h = subst (λ (q : Bool). KindIsInit q f old None new) (sym (group_kind (is_group_field (typed_of f).field.kind) e)) h

-- ---- what is initialized with a size ----

-- a group is a struct, which takes no size
brand_sized : (set : Schemas) (n number : ℕ) (t : SchemaType) → struct_brand t ≡ Some number → IsInitnRefusal set n t InitnIsOnlyValidForListTextOrDataFields
brand_sized set n number (StructType b g) e = refl
brand_sized set n number t e = absurd cc

pub group_has_no_size : (f : Field) (g : StructSchema) (n : ℕ) → IsGroupAt f g → IsInitnRefusal (field_set f) n (typed_of f).type InitnIsOnlyValidForListTextOrDataFields
group_has_no_size f g n at = go (typed_of f).field.kind at.names
  where
    go : (k : FieldKind) → IsGroupOf k (typed_of f).type (number_of g) → IsInitnRefusal (field_set f) n (typed_of f).type InitnIsOnlyValidForListTextOrDataFields
    go (Slot offset d) h = absurd h
    go (Group node) h = brand_sized (field_set f) n (number_of g) (typed_of f).type h
