-- Defaults by their kinds.
use Rattle.std.proofs.Common.{◌≡◌, ◌↔◌, refl, ap}
use Rattle.capnp_schema.specs.Accepted.{words_root}
use Rattle.capnp_schema.specs.Schema.{Value, VoidValue, BoolValue, IntValue, UIntValue, EnumValue, TextValue, DataValue, StructValue, ListValue, AnyPointerValue}
use Rattle.capnp_records.specs.Compatible.{SameDefault}
use Rattle.capnp_differences.specs.Steps.Comparing.{tree_kind, value_words}

pub by_value : (c d : Value) → tree_kind c ≡ 0 → (SameDefault c d ↔ (c ≡ d))
by_value (StructValue x) d h = cc
by_value (ListValue x) d h = cc
by_value (AnyPointerValue x) d h = cc
by_value c d h = (λ x. x, λ x. x)

-- kinds differ
pub by_kind : (c d : Value) → (tree_kind c ≡ tree_kind d → ⊥) → SameDefault c d → ⊥
by_kind (StructValue x) (StructValue y) h s = h refl
by_kind (ListValue x) (ListValue y) h s = h refl
by_kind (AnyPointerValue x) (AnyPointerValue y) h s = h refl
by_kind c d h s = h (ap tree_kind s)

pub by_tree : (c d : Value) → (tree_kind c ≡ 0 → ⊥) → tree_kind c ≡ tree_kind d → (SameDefault c d ↔ (words_root (value_words c) ≡ words_root (value_words d)))
by_tree VoidValue d h e = absurd (h refl)
by_tree (BoolValue x) d h e = absurd (h refl)
by_tree (IntValue b x) d h e = absurd (h refl)
by_tree (UIntValue b x) d h e = absurd (h refl)
by_tree (EnumValue x) d h e = absurd (h refl)
by_tree (TextValue x) d h e = absurd (h refl)
by_tree (DataValue x) d h e = absurd (h refl)
by_tree (StructValue x) (StructValue y) h e = (λ z. z, λ z. z)
by_tree (ListValue x) (ListValue y) h e = (λ z. z, λ z. z)
by_tree (AnyPointerValue x) (AnyPointerValue y) h e = (λ z. z, λ z. z)
by_tree (StructValue x) d h e = cc
by_tree (ListValue x) d h e = cc
by_tree (AnyPointerValue x) d h e = cc
