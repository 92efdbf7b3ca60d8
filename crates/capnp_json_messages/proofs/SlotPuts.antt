-- What is written into a slot, or into the struct of a group, is put into the record.
use Rattle.std.proofs.Common.{ℕ, ◌≡◌, refl, ap, sym, subst, ◌∙◌}
use Rattle.std.proofs.lemmas.Bool.{true≢false}
use Rattle.capnp_wire.specs.Tree.{StructTree}
use Rattle.capnp_schema.specs.FieldLists.{index_of, typed_of}
use Rattle.capnp_schema.specs.Schema.{FieldKind, Group, Schemas, Slot, TypedField, Value as SchemaValue, default_of, kind_default}
use Rattle.capnp_schema.specs.declared.schema.fields.Field.{Field}
use Rattle.capnp_records.proofs.SlotWrite.{turns_with_slot}
use Rattle.capnp_records.specs.Laws.{IsFieldAt}
use Rattle.capnp_records.specs.Part.{with_part}
use Rattle.capnp_records.specs.Reading.{reads}
use Rattle.capnp_records.specs.Record.{Value}
use Rattle.capnp_records.specs.Step.{is_group_field}
use Rattle.capnp_records.specs.Writes.Overlay.{Turns, content_value, with_slot}
use Rattle.capnp_records.specs.Writes.Slots.{Content, Suits}
use Rattle.capnp_records.specs.Writes.TreeEnds.{offset_of}
use Rattle.capnp_slots.specs.Fields.{IsRoomFor, IsSlot, field_brand, field_set, slot_with}
use Rattle.capnp_json_messages.specs.Reads.{PutsInto}

-- a content of a slot, by what it reads as
pub record IsContentOf (f : Field) (c : Content) (v : Value) : Type 0 where
  pub suits : Suits (typed_of f).type c
  pub reads_as : content_value (field_set f) (default_of (typed_of f).field) (typed_of f).type c ≡ v

module _ (f : Field) (s : StructTree) (at : IsFieldAt (field_set f) (field_brand f) (index_of f)) (room : IsRoomFor f s) where
  abbrev set : Schemas
  set = field_set f

  abbrev b : ℕ
  b = field_brand f

  abbrev field : TypedField
  field = typed_of f

  abbrev after : Value → StructTree → Type 0
  after v s' = Turns set b s s' (with_part (reads set s b) field.field (index_of f) v)

  pub slot_puts : (s' : StructTree) (c : Content) (v : Value) → IsSlot f → IsContentOf f c v → s' ≡ slot_with f c s → PutsInto f s s' v
  slot_puts s' c v slot content written = go field.field.kind refl
    where
      go : (k : FieldKind) → field.field.kind ≡ k → PutsInto f s s' v
      go (Group n) k = absurd (true≢false (sym (ap is_group_field k) ∙ slot))
      go (Slot offset d) k =
          let t : after (content_value set d field.type c) (with_slot set b field offset c s) =
          turns_with_slot set at.accepted at.ranges b (index_of f) at.brand at.index offset d k s room c content.suits in
          let put : after v (with_slot set b field offset c s) =
          subst (λ w. after w (with_slot set b field offset c s)) (ap (λ (x : SchemaValue). content_value set x field.type c) (sym (ap kind_default k)) ∙ content.reads_as) t in
          subst (after v) (ap (λ n. with_slot set b field n c s) (sym (ap offset_of k)) ∙ sym written) put
