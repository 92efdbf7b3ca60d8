-- What is written into a pointer's slot, and read there.
use Rattle.std.proofs.Common.{ℕ, ◌<◌, ◌≡◌, refl, Option, Some, None, Result, Ok, Err, OnOk, ap, arith, sym, subst, ◌∙◌}
use Rattle.capnp_wire.specs.Tree.{StructTree, Tree, nth_tree, tree_count}
use Rattle.capnp_wire.specs.Edits.{with_pointer_tree}
use Rattle.capnp_wire.specs.WellFormed.{IsWellFormed}
use Rattle.capnp_wire.specs.Facts.Rows.{tree_count_with_tree}
use Rattle.capnp_schema.specs.Plan.{PlaceFits}
use Rattle.capnp_schema.specs.declared.plan.Place.{Place}
use Rattle.capnp_schema.specs.declared.plan.Place.TheVariants as place
use Rattle.capnp_schema.specs.declared.plan.SlotPlan.{SlotPlan}
use Rattle.capnp_schema.specs.declared.schema.fields.Field.{Field}
use Rattle.capnp_records.specs.Facts.Pointers.{nth_tree_put_same}
use Rattle.capnp_records.specs.Writes.Slots.{At}
use Rattle.capnp_slots.specs.Fields.{IsPointerField, IsPointerSlot, IsRoomFor, Keeps, names_of, pointer_index, slot_with}
use Rattle.capnp_slots.specs.Steps.Fields.{IsSlotPlan}
use Rattle.capnp_slots.specs.Planned.{member_switched}
use Rattle.capnp_slots.specs.Steps.Planned.{place_written}

-- ---- a pointer's slot ----

-- the union may be switched before or after
commutes : (m : Option (ℕ × ℕ)) (s : StructTree) (i : ℕ) (t : Tree) → member_switched m (with_pointer_tree s i t) ≡ with_pointer_tree (member_switched m s) i t
commutes None s i t = refl
commutes (Some m) s i t = refl

module _ (f : Field) (plan : SlotPlan) (is : IsSlotPlan f plan) (pointer : IsPointerField f) where
  pub never : ((x : ℕ) → plan.place ≡ place.Pointer x → ⊥) → ⊥
  never none = none (pointer_index f) (is.pointer pointer)

  same_index : (i j : ℕ) → place.Pointer i ≡ place.Pointer j → i ≡ j
  same_index i j e = cc

  pub is_pointer_slot : (i : ℕ) → plan.place ≡ place.Pointer i → IsPointerSlot f i plan.member
  is_pointer_slot i e = record {
    is = same_index i (pointer_index f) (sym e ∙ is.pointer pointer);
    inside = λ s room. subst (λ (p : Place). PlaceFits p s) e (is.fits s room).place;
    member_inside = λ s room. (is.fits s room).member;
    writes = λ t s. commutes plan.member s i t ∙ (sym (ap (λ (p : Place). place_written p (At t) (member_switched plan.member s)) e) ∙ is.writes (At t) s pointer);
    keeps = λ t s room formed. is.keeps (At t) s room pointer formed;
  }

-- ---- a slot that was set, and then the union switched ----

module _ (f : Field) (i : ℕ) (member : Option (ℕ × ℕ)) (is : IsPointerSlot f i member) where
  pub slot_set : (s m s' : StructTree) (t : Tree) → m ≡ with_pointer_tree s i t → s' ≡ member_switched member m → s' ≡ slot_with f (At t) s
  slot_set s m s' t put switch = switch ∙ (ap (member_switched member) put ∙ is.writes t s)

  pub slot_kept : (s m s' : StructTree) (t : Tree) → m ≡ with_pointer_tree s i t → s' ≡ member_switched member m → IsRoomFor f s → IsWellFormed t → Keeps (names_of f) s s'
  slot_kept s m s' t put switch room formed = subst (Keeps (names_of f) s) (sym (slot_set s m s' t put switch)) (is.keeps t s room formed)

-- ---- a pointer that was filled ----

pub pointer_read : (i : ℕ) (s x : StructTree) (t : Tree) → x ≡ with_pointer_tree s i t → i < tree_count s.pointers → nth_tree x.pointers i ≡ t
pointer_read i s x t h inside = ap (λ (y : StructTree). nth_tree y.pointers i) h ∙ nth_tree_put_same s.pointers i t inside

pub slot_read : {A E : Type 0} (f : Field) (i : ℕ) (r : Result A E) (s x : StructTree) (t : Tree) → i ≡ pointer_index f → i < tree_count s.pointers → OnOk r (x ≡ with_pointer_tree s i t) → OnOk r (nth_tree x.pointers (pointer_index f) ≡ t)
slot_read f i (Ok a) s x t at inside h = ap (nth_tree x.pointers) (sym at) ∙ pointer_read i s x t h inside
slot_read f i (Err e) s x t at inside h = h

pub pointer_there : (i : ℕ) (s x : StructTree) (t : Tree) → x ≡ with_pointer_tree s i t → i < tree_count s.pointers → i < tree_count x.pointers
pointer_there i s x t h inside = omega (arith, inside, ap (λ (y : StructTree). tree_count y.pointers) h, tree_count_with_tree s.pointers i t)
