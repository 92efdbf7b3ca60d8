-- A moved field names the bits and pointers that it named.
use Rattle.std.proofs.Common.{ℕ, zero, suc, ◌+◌, ◌<◌, ◌≡◌, refl, Bool, ◌||◌, ◌&&◌, ◌==◌, ◌*◌, List, [], ◌∷◌, length, map, slice_get, arith, ap, ap₂, sym, ◌∙◌, Option, Some, None}
use Rattle.std.specs.Option.{unwrap_or}
use Rattle.capnp_schema.specs.Types.{SchemaType, VoidType, BoolType, IntType, UIntType, EnumType, TextType, DataType, StructType, ListType, AnyPointerType, struct_brand}
use Rattle.capnp_schema.specs.Schema.{Schemas, Node, FieldKind, Slot, Group, TypedField, no_field, node_of, fields_of, field_at}
use Rattle.capnp_schema.specs.Footprint.{Spot, DataBit, PointerAt, brand_names, discriminant_names, footprint, group_names, is_in, kind_names, slot_names, some_field}
use Rattle.capnp_schema.specs.Accepted.{IsAccepted, IsGroupOf}
use Rattle.capnp_schema.specs.Facts.Groups.{IsShallow, group_in_set, is_shallow}
use Rattle.capnp_joined_sets.specs.declared.moves.Moves.{Moves}
use Rattle.capnp_joined_sets.specs.Joined.{moved_kind, moved_node, moved_type}
use Rattle.capnp_joined_sets.proofs.Embedded.{IsIn, fields_in, moved_typed, node_in}
use Rattle.capnp_joined_sets.proofs.MovedTypes.{same_pointer, same_width}

some_same : (v w : TypedField → Spot → Bool) (fs : List TypedField) (p : Spot) →
    ((j : ℕ) → j < length fs → v (unwrap_or (slice_get fs j) no_field) p ≡ w (unwrap_or (slice_get fs j) no_field) p) → some_field v fs p ≡ some_field w fs p
some_same v w [] p h = refl
some_same v w (f ∷ fs) p h = ap₂ (λ a b. a || b) (h 0 (omega arith)) (some_same v w fs p (λ j a. h (suc j) (omega arith)))

some_moved : (by : Moves) (v w : TypedField → Spot → Bool) (fs : List TypedField) (p : Spot) →
    ((j : ℕ) → j < length fs → v (moved_typed by (unwrap_or (slice_get fs j) no_field)) p ≡ w (unwrap_or (slice_get fs j) no_field) p) → some_field v (map (moved_typed by) fs) p ≡ some_field w fs p
some_moved by v w [] p h = refl
some_moved by v w (f ∷ fs) p h = ap₂ (λ a b. a || b) (h 0 (omega arith)) (some_moved by v w fs p (λ j a. h (suc j) (omega arith)))

-- ---- more groups change nothing ----

one_more : (n : ℕ) (set : Schemas) (b : ℕ) (p : Spot) → IsShallow n set b → brand_names n set b p ≡ brand_names (suc n) set b p
one_more zero set b p h = absurd h
one_more (suc n) set b p h = go (one_more n set)
  where
    go : ((g : ℕ) (p : Spot) → IsShallow n set g → brand_names n set g p ≡ brand_names (suc n) set g p) → brand_names (suc n) set b p ≡ brand_names (suc (suc n)) set b p
    go ih = ap (λ a. a || discriminant_names (node_of set b) p) (some_same _ _ (fields_of set b) p (λ j a. more (field_at set b j).field.kind (field_at set b j).type (h j a)))
      where
        more : (k : FieldKind) (t : SchemaType) → ((g : ℕ) → IsGroupOf k t g → IsShallow n set g) → kind_names (brand_names n set) k t p ≡ kind_names (brand_names (suc n) set) k t p
        more (Slot o d) t s = refl
        more (Group m) t s = at (struct_brand t) s
          where
            at : (o : Option ℕ) → ((g : ℕ) → o ≡ Some g → IsShallow n set g) → group_names (brand_names n set) o p ≡ group_names (brand_names (suc n) set) o p
            at None s = refl
            at (Some g) s = ih g p (s g refl)

shallow_more : (n : ℕ) (set : Schemas) (b : ℕ) → IsShallow n set b → IsShallow (suc n) set b
shallow_more zero set b h = absurd h
shallow_more (suc n) set b h = λ i below g names. shallow_more n set g (h i below g names)

so_many_more : (more n : ℕ) (set : Schemas) (b : ℕ) (p : Spot) → IsShallow n set b → brand_names n set b p ≡ brand_names (more + n) set b p
so_many_more zero n set b p h = let e : n ≡ 0 + n = omega arith in ap (λ k. brand_names k set b p) e
so_many_more (suc more) n set b p h =
    let e : more + suc n ≡ suc more + n = omega arith in
    one_more n set b p h ∙ so_many_more more (suc n) set b p (shallow_more n set b h) ∙ ap (λ k. brand_names k set b p) e

-- ---- moved fields ----

slot_same : (by : Moves) (offset : ℕ) (t : SchemaType) (p : Spot) → slot_names offset (moved_type by t) p ≡ slot_names offset t p
slot_same by offset t (DataBit i) = ap (λ w. is_in (offset * w) w i) (same_width by t)
slot_same by offset t (PointerAt i) = ap (λ q. q && (i == offset)) (same_pointer by t)

-- what a group names, moved, is what it named
group_same : (by : Moves) (new old : ℕ → Spot → Bool) (t : SchemaType) (p : Spot) → ((g : ℕ) → struct_brand t ≡ Some g → new (g + by.brands) p ≡ old g p) →
    group_names new (struct_brand (moved_type by t)) p ≡ group_names old (struct_brand t) p
group_same by new old VoidType p h = refl
group_same by new old BoolType p h = refl
group_same by new old (IntType bytes) p h = refl
group_same by new old (UIntType bytes) p h = refl
group_same by new old (EnumType number) p h = refl
group_same by new old TextType p h = refl
group_same by new old DataType p h = refl
group_same by new old (StructType number generic) p h = h number refl
group_same by new old (ListType element) p h = refl
group_same by new old AnyPointerType p h = refl

kind_same : (by : Moves) (new old : ℕ → Spot → Bool) (k : FieldKind) (t : SchemaType) (p : Spot) → ((g : ℕ) → IsGroupOf k t g → new (g + by.brands) p ≡ old g p) →
    kind_names new (moved_kind by k) (moved_type by t) p ≡ kind_names old k t p
kind_same by new old (Slot offset default) t p h = slot_same by offset t p
kind_same by new old (Group node) t p h = group_same by new old t p h

discriminant_same : (by : Moves) (n : Node) (p : Spot) → discriminant_names (moved_node by n) p ≡ discriminant_names n p
discriminant_same by n (DataBit i) = refl
discriminant_same by n (PointerAt i) = refl

module _ (by : Moves) (s t : Schemas) (accepted : IsAccepted s) (within : IsIn by s t) where
  pub discriminant_in : (b : ℕ) → b < length s.brands → (p : Spot) → discriminant_names (node_of t (b + by.brands)) p ≡ discriminant_names (node_of s b) p
  discriminant_in b below p = ap (λ (n : Node). discriminant_names n p) (node_in by s t accepted within b below) ∙ discriminant_same by (node_of s b) p

  -- through as many groups
  names_in : (n b : ℕ) → b < length s.brands → (p : Spot) → brand_names n t (b + by.brands) p ≡ brand_names n s b p
  names_in zero b below p = refl
  names_in (suc n) b below p = go (names_in n)
    where
      go : ((g : ℕ) → g < length s.brands → (p : Spot) → brand_names n t (g + by.brands) p ≡ brand_names n s g p) → brand_names (suc n) t (b + by.brands) p ≡ brand_names (suc n) s b p
      go ih = ap₂ (λ x y. x || y)
          (ap (λ (l : List TypedField). some_field (λ f. kind_names (brand_names n t) f.field.kind f.type) l p) (fields_in by s t accepted within b below)
          ∙ some_moved by _ _ (fields_of s b) p (λ j there. kind_same by (brand_names n t) (brand_names n s) (field_at s b j).field.kind (field_at s b j).type p (λ g names. ih g (group_in_set s accepted b j g below there names) p)))
          (discriminant_in b below p)

  pub footprint_in : (b i : ℕ) → b < length s.brands → i < length (fields_of s b) → (more : ℕ) → length t.brands ≡ more + length s.brands → (p : Spot) →
      footprint t (moved_typed by (field_at s b i)) p ≡ footprint s (field_at s b i) p
  footprint_in b i below there more counted p =
      kind_same by (brand_names (length t.brands) t) (brand_names (length s.brands) s) (field_at s b i).field.kind (field_at s b i).type p
      (λ g names.
      names_in (length t.brands) g (group_in_set s accepted b i g below there names) p
      ∙ ap (λ k. brand_names k s g p) counted
      ∙ sym (so_many_more more (length s.brands) s g p (is_shallow s accepted b below i there g names)))
