-- What is done to a field is what the words of writes on trees say of its whole, however the field was named.
use Rattle.std.proofs.Common.{ℕ, ◌≡◌, ◌≢◌, ◌⊎◌, refl, Bool, true, false, cond, Option, Some, None, Ok, ap, inl, inr, sym, subst, ◌∙◌}
use Rattle.std.proofs.lemmas.Bool.{true≢false}
use Rattle.capnp_device.specs.declared.error.ErrorKind.{ErrorKind}
use Rattle.capnp_device.specs.declared.error.ErrorKind.TheVariants.{ExpectedAListOrBlob, InitnIsOnlyValidForListTextOrDataFields, ListAnyPointerNotSupported, OutOfMemory}
use Rattle.capnp_wire.specs.Tree.{StructTree}
use Rattle.capnp_schema.specs.FieldLists.{index_of, typed_of}
use Rattle.capnp_schema.specs.Schema.{Schemas, TypedField, field_at}
use Rattle.capnp_schema.specs.StructHandles.{number_of, set_of}
use Rattle.capnp_schema.specs.declared.schema.structs.StructSchema.{StructSchema}
use Rattle.capnp_schema.specs.Types.{SchemaType, StructType, TextType, DataType, ListType, AnyPointerType}
use Rattle.capnp_schema.specs.declared.schema.fields.Field.{Field}
use Rattle.capnp_records.specs.Call.{PathStep, Op, Reply, Clear, Done, Init, Refused}
use Rattle.capnp_records.specs.Default.{default_record}
use Rattle.capnp_records.specs.Operation.{Does, Initns, Inits, IsDone, Makes}
use Rattle.capnp_records.specs.Reading.{reads}
use Rattle.capnp_records.specs.Record as value
use Rattle.capnp_records.specs.Record.{Endless, Record, Value}
use Rattle.capnp_records.specs.Step.{Found, IsRefused, StepTarget, in_record, is_group_field, step_target}
use Rattle.capnp_records.specs.Writes.Overlay.{cleared_content}
use Rattle.capnp_records.specs.Writes.Slots.{Content}
use Rattle.capnp_records.specs.Writes.Stand.{OnGroup, OnStruct, seen_stand, step_field, step_index}
use Rattle.capnp_records.specs.Writes.TreeEnds.{ClearsGroup, OpContent, TreeDoes, TreeDoesAt, cleared_at, group_cleared, slot_written, written_stand}
use Rattle.capnp_slots.specs.Fields.{IsSlot, field_brand, field_set, slot_with}
use Rattle.capnp_slots.specs.FieldWrites.{IsFieldInit, KindIsInit, cleared_field_kind, field_cleared}
use Rattle.capnp_slots.specs.Groups.{IsGroup, group_without}
use Rattle.capnp_slots.specs.Inits.{IsInitRefusal, IsInitnRefusal, IsRoomless, init_content}
use Rattle.capnp_call.proofs.Replies.{refused_undone}
use Rattle.capnp_call.specs.Ends.{AsGroup, AsStruct, Whole, stand_of, whole_of}
use Rattle.capnp_call.specs.Steps.Ends.{FieldDoes, NamedDoes}
use Rattle.capnp_call.specs.Seen.{step_seen}
use Rattle.capnp_call.specs.Steps.Seen.{reply_by}
use Rattle.capnp_call.specs.Ways.{IsNamedBy, found_target, target_in}
use Rattle.capnp_call.specs.declared.calls.Step.{Step}

module _ (f : Field) (s s' : StructTree) where
  named : (step : PathStep) → step_index (field_set f) (field_brand f) step ≡ index_of f → step_field (field_set f) (field_brand f) step ≡ typed_of f
  named step e = ap (field_at (field_set f) (field_brand f)) e

  -- nothing was written
  pub stays : (op : Op) (reply : Reply) → reply ≢ Done → s' ≡ s → ((whole : Record → Value) (old : Value) → Does (field_set f) op (target_in whole f s) old reply old) → FieldDoes f op s reply s'
  stays op reply undone same h w g step e = inl (h (whole_of w) (seen_stand (field_set f) (StructType (field_brand f) g) (stand_of w s)), ap (stand_of w) same, undone)

  -- a slot was written
  pub slot_does : (op : Op) (c : Content) → IsSlot f → ((whole : Record → Value) → OpContent (field_set f) op (target_in whole f s) c) → s' ≡ slot_with f c s → FieldDoes f op s Done s'
  slot_does op c slot content is w g step e = inr (inr (inl (c, slot, refl, content (whole_of w), refl, go w)))
    where
      go : (w : Whole) → stand_of w s' ≡ written_stand (field_set f) (StructType (field_brand f) g) (stand_of w s) step c
      go AsStruct = ap OnStruct (is ∙ ap (λ (y : TypedField). slot_written (field_set f) (field_brand f) y c s) (sym (named step e)))
      go AsGroup = ap OnGroup (is ∙ ap (λ (y : TypedField). slot_written (field_set f) (field_brand f) y c s) (sym (named step e)))

  -- a group was cleared
  group_does : (op : Op) → IsGroup f → ClearsGroup op → s' ≡ group_without f s → FieldDoes f op s Done s'
  group_does op group clears is w g step e = inr (inr (inr (inl (group, clears, refl, go w))))
    where
      go : (w : Whole) → stand_of w s' ≡ cleared_at (field_set f) (StructType (field_brand f) g) (stand_of w s) step
      go AsStruct = ap OnStruct (is ∙ ap (λ (y : TypedField). group_cleared (field_set f) (field_brand f) y s) (sym (named step e)))
      go AsGroup = ap OnGroup (is ∙ ap (λ (y : TypedField). group_cleared (field_set f) (field_brand f) y s) (sym (named step e)))

  -- a field was cleared: what stands in a slot is its type's zero
  pub clear_does : s' ≡ field_cleared f s → FieldDoes f Clear s Done s'
  clear_does = go (is_group_field (typed_of f).field.kind) refl
    where
      go : (q : Bool) → is_group_field (typed_of f).field.kind ≡ q → s' ≡ cleared_field_kind q f s → FieldDoes f Clear s Done s'
      go true group is = group_does Clear group tt is
      go false slot is = slot_does Clear (cleared_content (typed_of f).type) slot (λ whole. (refl, refl)) is

-- ---- refusals ----

pub roomless : (x : StepTarget) (past : Bool) (v old : Value) (kind : ErrorKind) → IsRoomless past kind → Makes x past v old (Refused kind) old
roomless x true v old kind h = inr (ap Refused h, refl)
roomless x false v old kind h = inl (ap Refused h, refl)

pub initn_refused : (set : Schemas) (x : StepTarget) (n : ℕ) (t : SchemaType) (old : Value) (kind : ErrorKind) → x.is_element ≡ false → IsInitnRefusal set n t kind → Initns set x n t old (Refused kind) old
initn_refused set x n TextType old kind slot h = roomless x _ _ old kind h
initn_refused set x n DataType old kind slot h = roomless x _ _ old kind h
initn_refused set x n (ListType e) old kind slot h = roomless x _ _ old kind h
initn_refused set x n AnyPointerType old kind slot h = (ap Refused (h ∙ sym (ap (λ q. cond q ListAnyPointerNotSupported InitnIsOnlyValidForListTextOrDataFields) slot)), refl)
initn_refused set x n t old kind slot h = (ap Refused (h ∙ sym (ap (λ q. cond q ExpectedAListOrBlob InitnIsOnlyValidForListTextOrDataFields) slot)), refl)

init_refused : (set : Schemas) (x : StepTarget) (t : SchemaType) (old : Value) (kind : ErrorKind) → x.is_group ≡ false → IsInitRefusal t kind → Inits set x t old (Refused kind) old
init_refused set x (StructType b g) old kind slot h = go x.is_group slot
  where
    go : (q : Bool) → q ≡ false →
        (elim q as (λ _. Type 0) [
          | true ↦ IsDone (x.put (value.Group (default_record set Endless b))) (Refused kind) old
          | false ↦ IsDone (x.put (value.Struct (default_record set Endless b))) (Refused kind) old ⊎ IsRefused OutOfMemory (Refused kind) old old
        ])
    go true e = absurd (true≢false e)
    go false e = inr (ap Refused h, refl)
init_refused set x AnyPointerType old kind slot h = absurd h
init_refused set x t old kind slot h = (ap Refused h, refl)

-- ---- an init ----

pub init_done : (f : Field) (s s' : StructTree) (o : Option ErrorKind) (r : Reply) → r ≡ reply_by o → IsFieldInit f s o s' → FieldDoes f Init s r s'
init_done f s s' o r = go (is_group_field (typed_of f).field.kind) refl o
  where
    go : (q : Bool) → is_group_field (typed_of f).field.kind ≡ q → (o : Option ErrorKind) → r ≡ reply_by o → KindIsInit q f s o s' → FieldDoes f Init s r s'
    go true group None reply h = subst (λ (y : Reply). FieldDoes f Init s y s') (sym reply) (group_does f s s' Init group tt h)
    go true group (Some kind) reply h = absurd h
    go false slot None reply h = subst (λ (y : Reply). FieldDoes f Init s y s') (sym reply) (slot_does f s s' Init (init_content f) slot (λ whole. (refl, h.0)) h.1)
    go false slot (Some kind) reply h =
        subst (λ (y : Reply). FieldDoes f Init s y s') (sym reply)
        (stays f s s' Init (Refused kind) (refused_undone kind) h.1 (λ whole old. init_refused (field_set f) (target_in whole f s) (typed_of f).type old kind slot h.0))

-- ---- a step ----

-- a step that names a field
pub names_field : (f : Field) (step : PathStep) (op : Op) (s : StructTree) (reply : Reply) (s' : StructTree) → step_index (field_set f) (field_brand f) step ≡ index_of f →
    ((whole : Record → Value) → Ok (target_in whole f s) ≡ in_record (field_set f) whole (reads (field_set f) s (field_brand f)) (field_brand f) step) →
    FieldDoes f op s reply s' → NamedDoes (field_set f) (field_brand f) step op s reply s'
names_field f step op s reply s' index e h w g = go w (e (whole_of w)) (h w g step index)
  where
    go : (w : Whole) → Ok (target_in (whole_of w) f s) ≡ in_record (field_set f) (whole_of w) (reads (field_set f) s (field_brand f)) (field_brand f) step →
        TreeDoes (field_set f) op (target_in (whole_of w) f s) (StructType (field_brand f) g) (stand_of w s) step reply (stand_of w s') →
        TreeDoesAt (field_set f) op (step_target (field_set f) (StructType (field_brand f) g) (seen_stand (field_set f) (StructType (field_brand f) g) (stand_of w s)) step) (StructType (field_brand f) g) (stand_of w s) step reply (stand_of w s')
    go AsStruct e h = subst (λ (x : Found). TreeDoesAt (field_set f) op x (StructType (field_brand f) g) (stand_of AsStruct s) step reply (stand_of AsStruct s')) e h
    go AsGroup e h = subst (λ (x : Found). TreeDoesAt (field_set f) op x (StructType (field_brand f) g) (stand_of AsGroup s) step reply (stand_of AsGroup s')) e h

-- the field that was found
pub names_found : (schema : StructSchema) (f : Field) (last : Step) (op : Op) (s : StructTree) (reply : Reply) (s' : StructTree) → IsNamedBy schema last f →
    ((whole : Record → Value) (r : Record) → found_target whole r (Ok f) ≡ in_record (set_of schema) whole r (number_of schema) (step_seen last)) →
    FieldDoes f op s reply s' → NamedDoes (set_of schema) (number_of schema) (step_seen last) op s reply s'
names_found schema f last op s reply s' named found does =
    let step = step_seen last in
    subst (λ (z : StructSchema). NamedDoes (set_of z) (number_of z) step op s reply s') named.field.schema
    (names_field f step op s reply s'
    (subst (λ (z : StructSchema). step_index (set_of z) (number_of z) step ≡ index_of f) (sym named.field.schema) named.index)
    (λ whole. subst (λ (z : StructSchema). Ok (target_in whole f s) ≡ in_record (set_of z) whole (reads (field_set f) s (field_brand f)) (number_of z) step) (sym named.field.schema) (found whole (reads (field_set f) s (field_brand f))))
    does)
