-- What the plan of a field's handle gives.
use Rattle.std.proofs.Common.{ℕ, List, ◌*◌, ◌^◌, ◌<◌, ◌≡◌, refl, true, false, bit_xor, ap, sym, subst, ◌∙◌}
use Rattle.std.proofs.lemmas.Bool.{true≢false}
use Rattle.capnp_wire.specs.Tree.{StructTree}
use Rattle.capnp_schema.specs.FieldLists.{index_of, field_schema, typed_of}
use Rattle.capnp_schema.specs.Plan.{IsPlan, LiesInNode, PlansStand, plan_place, plan_of}
use Rattle.capnp_schema.specs.Ranges.{HasRanges, HasWidths}
use Rattle.capnp_schema.specs.Schema.{FieldKind, Group, Schemas, Slot, field_at, is_member, kind_default, node_of}
use Rattle.capnp_schema.specs.SlotValue.{bits_at, default_bits}
use Rattle.capnp_schema.specs.StructHandles.{IsStruct}
use Rattle.capnp_schema.specs.Types.{SchemaType, is_pointer, width}
use Rattle.capnp_schema.specs.declared.plan.Place.TheVariants as place
use Rattle.capnp_schema.specs.declared.plan.SlotPlan.{SlotPlan}
use Rattle.capnp_schema.specs.declared.schema.fields.Field.{Field}
use Rattle.capnp_records.specs.Facts.FieldWrite.{ready_switched}
use Rattle.capnp_records.specs.Laws.{IsFieldAt, SlotWriteStaysInside}
use Rattle.capnp_records.specs.Step.{is_group_field}
use Rattle.capnp_records.specs.Writes.Overlay.{cleared_content, with_slot, field_spots}
use Rattle.capnp_records.specs.Writes.Slots.{Content, Bits, Fits, Suits, with_content}
use Rattle.capnp_records.specs.Writes.TreeEnds.{offset_of}
use Rattle.capnp_slots.specs.Fields.{IsFieldPlan, IsSlot, Keeps, field_brand, field_set, switched_to}
use Rattle.capnp_slots.specs.Steps.Fields.{IsFormed, IsSlotPlan}
use Rattle.capnp_slots.specs.Planned.{member_switched}
use Rattle.capnp_slots.specs.Steps.Planned.{HoldsNumber, place_bits, place_cleared, place_mask, place_written}
use Rattle.capnp_slots.proofs.SlotPlans.{member_switched_by, place_clears, place_holds, place_stores, slot_loads, slot_formed, slot_place_written, switch_formed}

-- ---- the kind of a slot ----

kind_written : (k : FieldKind) (t : SchemaType) → is_group_field k ≡ false → HasWidths t → (c : Content) (s : StructTree) → Suits t c → place_written (plan_place k t) c s ≡ with_content s (offset_of k) t c
kind_written (Slot o d) t e h c s fits = slot_place_written o d t h c s fits
kind_written (Group n) t e h c s fits = absurd (true≢false e)

kind_clears : (k : FieldKind) (t : SchemaType) → is_group_field k ≡ false → (s : StructTree) → place_written (plan_place k t) (place_cleared (plan_place k t)) s ≡ place_written (plan_place k t) (cleared_content t) s
kind_clears (Slot o d) t e s = place_clears o d t s
kind_clears (Group n) t e s = absurd (true≢false e)

kind_holds : (k : FieldKind) (t : SchemaType) → is_group_field k ≡ false → (n : ℕ) → n < 2 ^ width t → HoldsNumber (plan_place k t) n
kind_holds (Slot o d) t e n h = place_holds o d t n h
kind_holds (Group g) t e n h = absurd (true≢false e)

kind_stores : (k : FieldKind) (t : SchemaType) → is_group_field k ≡ false → (n : ℕ) (s : StructTree) →
    place_written (plan_place k t) (Bits (bit_xor n (place_mask (plan_place k t)))) s ≡ place_written (plan_place k t) (Bits (bit_xor n (default_bits (kind_default k)))) s
kind_stores (Slot o d) t e n s = place_stores o d t n s
kind_stores (Group g) t e n s = absurd (true≢false e)

kind_loads : (k : FieldKind) (t : SchemaType) → is_group_field k ≡ false → is_pointer t ≡ false → (bytes : List ℕ) → place_bits (plan_place k t) bytes ≡ bits_at bytes (offset_of k * width t) (width t)
kind_loads (Slot o d) t e p bytes = slot_loads (is_pointer t) (width t) o d p bytes
kind_loads (Group n) t e p bytes = absurd (true≢false e)

kind_pointer : (k : FieldKind) (t : SchemaType) → is_group_field k ≡ false → is_pointer t ≡ true → plan_place k t ≡ place.Pointer (offset_of k)
kind_pointer (Slot o d) t e p = rw p refl
kind_pointer (Group n) t e p = absurd (true≢false e)

kind_keeps : (set : Schemas) (b i : ℕ) → IsFieldAt set b i → LiesInNode (node_of set b) (field_at set b i) → SlotWriteStaysInside →
    (k : FieldKind) → (field_at set b i).field.kind ≡ k → is_group_field k ≡ false → (c : Content) (s : StructTree) → Fits set b s → Suits (field_at set b i).type c → IsFormed c →
    Keeps (field_spots set b (field_at set b i)) s (with_slot set b (field_at set b i) (offset_of k) c s)
kind_keeps set b i at lies stays (Slot o d) kind e c s room fits formed = record {
  writes = stays set b i at o d kind s room c fits;
  formed = slot_formed (node_of set b) (field_at set b i) o d s kind room lies c fits formed;
}
kind_keeps set b i at lies stays (Group n) kind e c s room fits formed = absurd (true≢false e)

-- ---- the plan ----

module _ (f : Field) (is : IsStruct (field_schema f)) (ranges : HasRanges (field_set f)) (stand : PlansStand) where
  lies : LiesInNode (node_of (field_set f) (field_brand f)) (typed_of f)
  lies = (stand (field_set f) is.accepted ranges (field_brand f) (index_of f) is.number f.inside).0

  plan : IsPlan (field_set f) (field_brand f) (typed_of f) (plan_of (field_set f) (field_brand f) (typed_of f))
  plan = (stand (field_set f) is.accepted ranges (field_brand f) (index_of f) is.number f.inside).1

  switches : (s : StructTree) → member_switched (plan_of (field_set f) (field_brand f) (typed_of f)).member s ≡ switched_to f s
  switches s = member_switched_by (is_member (typed_of f).field) (node_of (field_set f) (field_brand f)) (typed_of f).field s

  is_field_plan : IsFieldPlan f (plan_of (field_set f) (field_brand f) (typed_of f))
  is_field_plan = record {
    fits = plan.fits;
    switches = switches;
    keeps = λ s room. record {
      writes = (ready_switched (field_set f) is.accepted ranges (field_brand f) (index_of f) is.number f.inside s room).writes;
      formed = switch_formed (node_of (field_set f) (field_brand f)) s room (typed_of f) lies;
    };
  }

  at : IsFieldAt (field_set f) (field_brand f) (index_of f)
  at = record { accepted = is.accepted; ranges = ranges; brand = is.number; index = f.inside }

  is_slot_plan : SlotWriteStaysInside → IsSlot f → IsSlotPlan f (plan_of (field_set f) (field_brand f) (typed_of f))
  is_slot_plan stays slot =
      let k : FieldKind = (typed_of f).field.kind in
      let t : SchemaType = (typed_of f).type in
      let p : SlotPlan = plan_of (field_set f) (field_brand f) (typed_of f) in
      record {
        slot = plan.slot;
        fits = plan.fits;
        writes = λ c s fits. kind_written k t slot (ranges.types (field_brand f) (index_of f) is.number f.inside) c (member_switched p.member s) fits
            ∙ ap (λ (x : StructTree). with_content x (offset_of k) t c) (switches s);
        clears = λ s. kind_clears k t slot (member_switched p.member s);
        holds = λ v stored. kind_holds k t slot _ stored.small;
        stores = λ n s. kind_stores k t slot n (member_switched p.member s);
        loads = λ bytes p. kind_loads k t slot p bytes;
        pointer = λ e. kind_pointer k t slot e;
        small = ranges.masks (field_brand f) (index_of f) is.number f.inside;
        keeps = λ c s room fits formed. kind_keeps (field_set f) (field_brand f) (index_of f) at lies stays k refl slot c s room fits formed;
      }

pub field_plan_is : (f : Field) (p : SlotPlan) → IsStruct (field_schema f) → HasRanges (field_set f) → PlansStand → p ≡ plan_of (field_set f) (field_brand f) (typed_of f) → IsFieldPlan f p
field_plan_is f p is ranges stand e = subst (IsFieldPlan f) (sym e) (is_field_plan f is ranges stand)

pub slot_plan_is : (f : Field) (p : SlotPlan) → IsStruct (field_schema f) → HasRanges (field_set f) → PlansStand → p ≡ plan_of (field_set f) (field_brand f) (typed_of f) →
    SlotWriteStaysInside → IsSlot f → IsSlotPlan f p
slot_plan_is f p is ranges stand e stays slot = subst (IsSlotPlan f) (sym e) (is_slot_plan f is ranges stand stays slot)
