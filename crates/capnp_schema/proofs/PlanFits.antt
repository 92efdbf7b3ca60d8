-- The plan of a field has the bits of a slot, and lies inside each struct that has the sections of the field's brand.
use Rattle.std.proofs.Common.{IfSome, IsTrue, ◌≡◌, ℕ, zero, suc, ◌+◌, ◌*◌, ◌%◌, ◌^◌, ◌<◌, ◌≤◌, ◌⊎◌, inl, inr, ⊎_elim, refl, sym, subst, arith, Bool, true, false, length}
use Rattle.std.proofs.Math.Nat.{mul-mod_left, mul-mod_right}
use Rattle.std.proofs.lemmas.Bool.Decides.{nat_tests}
use Rattle.capnp_wire.specs.Edits.{HasAtLeast}
use Rattle.capnp_wire.specs.Tree.{StructTree}
use Rattle.capnp_wire.specs.WellFormed.{is_width}
use Rattle.capnp_schema.specs.Types.{SchemaType, VoidType, BoolType, IntType, UIntType, EnumType, TextType, DataType, StructType, ListType, AnyPointerType, is_pointer, width}
use Rattle.capnp_schema.specs.Schema.{Node, Field, FieldKind, Slot, Group, TypedField, Value, is_member, kind_default}
use Rattle.capnp_schema.specs.SlotValue.{default_bits}
use Rattle.capnp_schema.specs.Accepted.{LiesInside}
use Rattle.capnp_schema.specs.Ranges.{HasWidths}
use Rattle.capnp_schema.specs.Plan.{IsSlotPlace, LiesInNode, PlaceFits, PlanFits, data_place, is_slot_width, member_plan, node_size, plan_place, plan_in, slot_place}

-- ---- widths ----

-- no bits, or as many as slots have
abbrev IsWidth : ℕ → Type 0
IsWidth bits = (bits ≡ 0) ⊎ IsTrue (is_slot_width bits)

bytes_are : (k : ℕ) → is_width k ≡ true → (k ≡ 1) ⊎ ((k ≡ 2) ⊎ ((k ≡ 4) ⊎ (k ≡ 8)))
bytes_are k h = grind (arith, nat_tests)

bytes_width : (k : ℕ) → is_width k ≡ true → IsTrue (is_slot_width (8 * k))
bytes_width k h =
    ⊎_elim (at 1 refl) (⊎_elim (at 2 refl) (⊎_elim (at 4 refl) (at 8 refl))) (bytes_are k h)
  where
    at : (m : ℕ) → IsTrue (is_slot_width (8 * m)) → k ≡ m → IsTrue (is_slot_width (8 * k))
    at m t e = subst (λ x. IsTrue (is_slot_width (8 * x))) (sym e) t

type_width : (t : SchemaType) → HasWidths t → IsWidth (width t)
type_width VoidType h = inl refl
type_width BoolType h = inr refl
type_width (IntType bytes) h = inr (bytes_width bytes h)
type_width (UIntType bytes) h = inr (bytes_width bytes h)
type_width (EnumType number) h = inr refl
type_width TextType h = inl refl
type_width DataType h = inl refl
type_width (StructType number generic) h = inl refl
type_width (ListType element) h = inl refl
type_width AnyPointerType h = inl refl

some_width : (k : ℕ) → IsWidth (suc k) → IsTrue (is_slot_width (suc k))
some_width k (inl e) = absurd (omega arith)
some_width k (inr h) = h

-- ---- a slot's bits ----

data_slot : (bits offset : ℕ) (default : Value) → IsWidth bits → default_bits default < 2 ^ bits → IsSlotPlace (data_place bits offset default)
data_slot zero offset default w m = tt
data_slot (suc k) offset default w m = record { is_width = some_width k w; is_aligned = mul-mod_left offset (suc k); mask_fits = m }

any_slot : (p : Bool) (bits offset : ℕ) (default : Value) → IsWidth bits → default_bits default < 2 ^ bits → IsSlotPlace (slot_place p bits offset default)
any_slot true bits offset default w m = tt
any_slot false bits offset default w m = data_slot bits offset default w m

pub is_slot_place : (k : FieldKind) (t : SchemaType) → HasWidths t → default_bits (kind_default k) < 2 ^ width t → IsSlotPlace (plan_place k t)
is_slot_place (Slot offset default) t h m = any_slot (is_pointer t) (width t) offset default (type_width t h) m
is_slot_place (Group node) t h m = tt

pub is_discriminant : (q : Bool) (n : Node) (f : Field) → f.discriminant_value < 2 ^ 16 → IfSome (member_plan q n f) (λ m. (m.0 % 16 ≡ 0) × (m.1 < 2 ^ 16))
is_discriminant true n f small = (mul-mod_right 16 n.discriminant_offset, small)
is_discriminant false n f small = tt

-- ---- inside a struct ----

module _ (n : Node) (s : StructTree) (size : HasAtLeast (node_size n) s) where
  data_fits : (bits offset : ℕ) (default : Value) → (offset + 1) * bits ≤ 64 * n.data_word_count → PlaceFits (data_place bits offset default) s
  data_fits zero offset default inside = tt
  data_fits (suc k) offset default inside = omega (arith, inside, size.0)

  slot_fits : (p : Bool) (bits offset : ℕ) (default : Value) → (offset + 1) * bits ≤ 64 * n.data_word_count → (p ≡ true → offset < n.pointer_count) → PlaceFits (slot_place p bits offset default) s
  slot_fits true bits offset default inside below = omega (arith, below refl, size.1)
  slot_fits false bits offset default inside below = data_fits bits offset default inside

  place_fits : (k : FieldKind) (t : SchemaType) → LiesInside n k t → PlaceFits (plan_place k t) s
  place_fits (Slot offset default) t lies = slot_fits (is_pointer t) (width t) offset default lies.0 lies.1
  place_fits (Group node) t lies = tt

  member_fits : (q : Bool) (f : Field) → (q ≡ true → 16 * (n.discriminant_offset + 1) ≤ 64 * n.data_word_count) → IfSome (member_plan q n f) (λ m. m.0 + 16 ≤ 8 * length s.bytes)
  member_fits true f inside = omega (arith, inside refl, size.0)
  member_fits false f inside = tt

  pub plan_fits : (f : TypedField) → LiesInNode n f → PlanFits (plan_in n f) s
  plan_fits f lies = record {
    place = place_fits f.field.kind f.type lies.slot;
    member = member_fits (is_member f.field) f.field (λ e. lies.discriminant e);
  }
