-- In an accepted set a number falls at each step into a group, so as many groups as there are brands are enough.
use Rattle.std.proofs.Common.{ℕ, zero, suc, ◌+◌, ◌<◌, ◌≤◌, ◌≡◌, ◌≢◌, refl, List, [], ◌∷◌, Bool, true, false, ◌||◌, IsTrue, IsFalse, length, slice_get, max, Option, Some, None, arith, ap, ap₂, sym, subst, ◌∙◌}
use Rattle.std.specs.Option.{unwrap_or}
use Rattle.std.proofs.lemmas.Option.{same_Some}
use Rattle.capnp_schema.specs.Types.{SchemaType, StructType, struct_brand, struct_number}
use Rattle.capnp_schema.specs.Schema.{Schemas, FieldKind, Slot, Group, TypedField, no_field, node_of, fields_of, field_at, is_member}
use Rattle.capnp_schema.specs.Footprint.{Spot, some_field, group_names, kind_names, brand_names, discriminant_names, footprint}
use Rattle.capnp_schema.specs.Accepted.{IsAccepted, IsGroupBrand, IsGroupOf, IsParent, HasOneParent, EndsAtStruct, GroupFits, NamesEntries}
use Rattle.capnp_schema.specs.Laws.{struct_spots, height_above, kind_height, highest, height_within, group_height, LeadsDown}

true≢false : true ≡ false → ⊥
true≢false e = cc

-- fewer than n groups stand inside one another below a brand
abbrev pub IsShallow : ℕ → Schemas → ℕ → Type 0
IsShallow zero set b = ⊥
IsShallow (suc n) set b = (i : ℕ) → i < length (fields_of set b) → (g : ℕ) → IsGroupOf (field_at set b i).field.kind (field_at set b i).type g → IsShallow n set g

-- ---- the way up from a group ----

-- each group has one parent
abbrev HaveOneParent : Schemas → Type 0
HaveOneParent set = (g b i c j : ℕ) → IsTrue (node_of set g).is_group → IsParent set g b i → IsParent set g c j → b ≡ c

same_steps : (set : Schemas) → HaveOneParent set → (m n b : ℕ) → EndsAtStruct m set b → EndsAtStruct n set b → m ≡ n
same_steps set one zero zero b h k = refl
same_steps set one zero (suc n) b h k = absurd (true≢false (sym k.0 ∙ h))
same_steps set one (suc m) zero b h k = absurd (true≢false (sym h.0 ∙ k))
same_steps set one (suc m) (suc n) b (hg, (p, i, hp, hd)) (kg, (q, j, kp, kd)) =
    ap suc (same_steps set one m n p hd (subst (λ x. EndsAtStruct n set x) (sym (one b p i q j hg hp kp)) kd))

-- a group field's brand is a group of the set
pub group_of_field : (set : Schemas) → IsAccepted set → (b i g : ℕ) → b < length set.brands → i < length (fields_of set b) →
    IsGroupOf (field_at set b i).field.kind (field_at set b i).type g → IsGroupBrand set g
group_of_field set accepted b i g b_in i_in h = go (field_at set b i).field.kind (field_at set b i).type (accepted.rule7 b i b_in i_in) h
  where
    go : (k : FieldKind) (t : SchemaType) → GroupFits set k t → IsGroupOf k t g → IsGroupBrand set g
    go (Slot o d) t f h = absurd h
    go (Group m) (StructType number generic) f h = subst (λ x. IsGroupBrand set x) (same_Some number g h) f.1
    go (Group m) t f h = absurd f

pub group_in_set : (set : Schemas) → IsAccepted set → (b i g : ℕ) → b < length set.brands → i < length (fields_of set b) →
    IsGroupOf (field_at set b i).field.kind (field_at set b i).type g → g < length set.brands
group_in_set set accepted b i g b_in i_in h = go (field_at set b i).field.kind (field_at set b i).type (accepted.rule7 b i b_in i_in) (accepted.rule1.fields b i b_in i_in) h
  where
    go : (k : FieldKind) (t : SchemaType) → GroupFits set k t → NamesEntries set t → IsGroupOf k t g → g < length set.brands
    go (Slot o d) t f n h = absurd h
    go (Group m) (StructType number generic) f n h = subst (λ x. x < length set.brands) (same_Some number g h) n.0
    go (Group m) t f n h = absurd f

have_one_parent : (set : Schemas) → IsAccepted set → HaveOneParent set
have_one_parent set accepted g b i c j group p q =
    let one : HasOneParent set g = (accepted.rule8 g (group_in_set set accepted b i g p.brand p.field p.names) group).0 in
    (one.only b i p).0 ∙ sym (one.only c j q).0

-- ---- the way down ----

-- each step down is one more step of the way up, of which there are at most as many as brands
shallow_after : (set : Schemas) → IsAccepted set → (n steps b : ℕ) → b < length set.brands → EndsAtStruct steps set b → length set.brands < steps + n → IsShallow n set b
shallow_after set accepted zero steps b b_in ends far = go (node_of set b).is_group refl
  where
    go : (q : Bool) → (node_of set b).is_group ≡ q → ⊥
    go false e = omega (arith, same_steps set (have_one_parent set accepted) steps 0 b ends e)
    go true e =
        let (m, few, also) = (accepted.rule8 b b_in e).1 in
        omega (arith, few, same_steps set (have_one_parent set accepted) steps m b ends also)
shallow_after set accepted (suc n) steps b b_in ends far = λ i i_in g h.
    let group : IsGroupBrand set g = group_of_field set accepted b i g b_in i_in h in
    shallow_after set accepted n (suc steps) g (group_in_set set accepted b i g b_in i_in h)
    (group, (b, i, record { brand = b_in; field = i_in; names = h }, ends)) (omega arith)

-- in an accepted set fewer groups stand inside one another than there are brands, and one
pub is_shallow : (set : Schemas) → IsAccepted set → (b : ℕ) → b < length set.brands → IsShallow (suc (length set.brands)) set b
is_shallow set accepted b b_in = go (node_of set b).is_group refl
  where
    go : (q : Bool) → (node_of set b).is_group ≡ q → IsShallow (suc (length set.brands)) set b
    go false e = shallow_after set accepted (suc (length set.brands)) 0 b b_in e (omega arith)
    go true e =
        let (m, few, ends) = (accepted.rule8 b b_in e).1 in
        shallow_after set accepted (suc (length set.brands)) m b b_in ends (omega arith)

-- ---- footprints ----

some_field_same : (v w : TypedField → Spot → Bool) (fs : List TypedField) (p : Spot) →
    ((j : ℕ) → j < length fs → v (unwrap_or (slice_get fs j) no_field) p ≡ w (unwrap_or (slice_get fs j) no_field) p) → some_field v fs p ≡ some_field w fs p
some_field_same v w [] p h = refl
some_field_same v w (f ∷ fs) p h = ap₂ (λ a b. a || b) (h 0 (omega arith)) (some_field_same v w fs p (λ j a. h (suc j) (omega arith)))

-- one more group changes nothing
brand_names_more : (n : ℕ) (set : Schemas) (b : ℕ) (p : Spot) → IsShallow n set b → brand_names n set b p ≡ brand_names (suc n) set b p
brand_names_more zero set b p h = absurd h
brand_names_more (suc n) set b p h = go (brand_names_more n set)
  where
    go : ((g : ℕ) (p : Spot) → IsShallow n set g → brand_names n set g p ≡ brand_names (suc n) set g p) → brand_names (suc n) set b p ≡ brand_names (suc (suc n)) set b p
    go ih = ap (λ a. a || discriminant_names (node_of set b) p) (some_field_same _ _ (fields_of set b) p (λ j a. more (field_at set b j).field.kind (field_at set b j).type (h j a)))
      where
        more : (k : FieldKind) (t : SchemaType) → ((g : ℕ) → IsGroupOf k t g → IsShallow n set g) → kind_names (brand_names n set) k t p ≡ kind_names (brand_names (suc n) set) k t p
        more (Slot o d) t s = refl
        more (Group m) t s = at (struct_brand t) s
          where
            at : (o : Option ℕ) → ((g : ℕ) → o ≡ Some g → IsShallow n set g) → group_names (brand_names n set) o p ≡ group_names (brand_names (suc n) set) o p
            at None s = refl
            at (Some g) s = ih g p (s g refl)

pub group_fields_name_brands : (set : Schemas) → IsAccepted set → (b i node : ℕ) → b < length set.brands → i < length (fields_of set b) → (field_at set b i).field.kind ≡ Group node →
    IsGroupOf (field_at set b i).field.kind (field_at set b i).type (struct_number (field_at set b i).type)
group_fields_name_brands set accepted b i node b_in i_in is = go (field_at set b i).field.kind (field_at set b i).type (accepted.rule7 b i b_in i_in) is
  where
    go : (k : FieldKind) (t : SchemaType) → GroupFits set k t → k ≡ Group node → IsGroupOf k t (struct_number t)
    go (Slot o d) t f e = cc
    go (Group m) (StructType number generic) f e = refl
    go (Group m) t f e = absurd f

pub group_names_its_parts : (set : Schemas) → IsAccepted set → (b i g : ℕ) (p : Spot) → b < length set.brands → i < length (fields_of set b) →
    IsGroupOf (field_at set b i).field.kind (field_at set b i).type g → footprint set (field_at set b i) p ≡ struct_spots set g p
group_names_its_parts set accepted b i g p b_in i_in h = go (field_at set b i).field.kind (field_at set b i).type h (is_shallow set accepted b b_in i i_in g h)
  where
    go : (k : FieldKind) (t : SchemaType) → IsGroupOf k t g → IsShallow (length set.brands) set g → kind_names (brand_names (length set.brands) set) k t p ≡ struct_spots set g p
    go (Slot o d) t h s = absurd h
    go (Group m) t h s = ap (λ o. group_names (brand_names (length set.brands) set) o p) h ∙ brand_names_more (length set.brands) set g p s

-- a non-union field's footprint meets no other, so where two meet both are members
pub only_members_meet : (set : Schemas) → IsAccepted set → (b i j : ℕ) (p : Spot) → b < length set.brands → i < length (fields_of set b) → j < length (fields_of set b) → i ≢ j →
    IsTrue (footprint set (field_at set b i) p) → IsTrue (footprint set (field_at set b j) p) →
    IsTrue (is_member (field_at set b i).field) × IsTrue (is_member (field_at set b j).field)
only_members_meet set accepted b i j p b_in i_in j_in apart here there = (
  member (is_member (field_at set b i).field) (λ non_union. true≢false (sym there ∙ accepted.rule11 b i b_in i_in j p j_in apart non_union here)),
  member (is_member (field_at set b j).field) (λ non_union. true≢false (sym here ∙ accepted.rule11 b j b_in j_in i p i_in (λ e. apart (sym e)) non_union there)),
)
  where
    member : (q : Bool) → (q ≡ false → ⊥) → IsTrue q
    member true h = refl
    member false h = absurd (h refl)

pub none_names_discriminant : (set : Schemas) → IsAccepted set → (b i : ℕ) (p : Spot) → b < length set.brands → i < length (fields_of set b) →
    IsTrue (footprint set (field_at set b i) p) → IsFalse (discriminant_names (node_of set b) p)
none_names_discriminant set accepted b i p b_in i_in here = go (discriminant_names (node_of set b) p) refl
  where
    go : (q : Bool) → discriminant_names (node_of set b) p ≡ q → q ≡ false
    go false e = refl
    go true e = absurd (true≢false (sym here ∙ accepted.rule12 b i b_in i_in p e))

-- ---- heights ----

highest_same : (v w : TypedField → ℕ) (fs : List TypedField) →
    ((j : ℕ) → j < length fs → v (unwrap_or (slice_get fs j) no_field) ≡ w (unwrap_or (slice_get fs j) no_field)) → highest v fs ≡ highest w fs
highest_same v w [] h = refl
highest_same v w (f ∷ fs) h = ap₂ max (h 0 (omega arith)) (highest_same v w fs (λ j a. h (suc j) (omega arith)))

highest_most : (v : TypedField → ℕ) (n : ℕ) (fs : List TypedField) →
    ((j : ℕ) → j < length fs → v (unwrap_or (slice_get fs j) no_field) ≤ n) → highest v fs ≤ n
highest_most v n [] h = omega arith
highest_most v n (f ∷ fs) h = omega (arith, h 0 (omega arith), highest_most v n fs (λ j a. h (suc j) (omega arith)))

highest_least : (v : TypedField → ℕ) (fs : List TypedField) (j : ℕ) → j < length fs → v (unwrap_or (slice_get fs j) no_field) ≤ highest v fs
highest_least v [] j a = absurd (omega arith)
highest_least v (f ∷ fs) zero a = omega arith
highest_least v (f ∷ fs) (suc j) a = omega (arith, highest_least v fs j (omega arith))

height_within_more : (n : ℕ) (set : Schemas) (b : ℕ) → IsShallow n set b → height_within n set b ≡ height_within (suc n) set b
unfolding height_within
height_within_more zero set b h = absurd h
height_within_more (suc n) set b h = go (height_within_more n set)
  where
    go : ((g : ℕ) → IsShallow n set g → height_within n set g ≡ height_within (suc n) set g) → height_within (suc n) set b ≡ height_within (suc (suc n)) set b
    go ih = highest_same _ _ (fields_of set b) (λ j a. more (field_at set b j).field.kind (field_at set b j).type (h j a))
      where
        more : (k : FieldKind) (t : SchemaType) → ((g : ℕ) → IsGroupOf k t g → IsShallow n set g) → kind_height (height_within n set) k t ≡ kind_height (height_within (suc n) set) k t
        more (Slot o d) t s = refl
        more (Group m) t s = at (struct_brand t) s
          where
            at : (o : Option ℕ) → ((g : ℕ) → o ≡ Some g → IsShallow n set g) → height_above (height_within n set) o ≡ height_above (height_within (suc n) set) o
            at None s = refl
            at (Some g) s = ap suc (ih g (s g refl))

height_within_most : (m n : ℕ) (set : Schemas) (b : ℕ) → IsShallow (suc n) set b → height_within m set b ≤ n
unfolding height_within
height_within_most zero n set b h = omega arith
height_within_most (suc m) n set b h = highest_most _ n (fields_of set b) (λ j a. most (λ k g. height_within_most m k set g) n (field_at set b j).field.kind (field_at set b j).type (h j a))
  where
    most : ((k g : ℕ) → IsShallow (suc k) set g → height_within m set g ≤ k) → (n : ℕ) (k : FieldKind) (t : SchemaType) →
        ((g : ℕ) → IsGroupOf k t g → IsShallow n set g) → kind_height (height_within m set) k t ≤ n
    most ih n (Slot o d) t s = omega arith
    most ih n (Group x) t s = at n (struct_brand t) s
      where
        at : (n : ℕ) (o : Option ℕ) → ((g : ℕ) → o ≡ Some g → IsShallow n set g) → height_above (height_within m set) o ≤ n
        at n None s = omega arith
        at zero (Some g) s = absurd (s g refl)
        at (suc n) (Some g) s = omega (arith, ih n g (s g refl))

group_height_falls : (set : Schemas) → IsAccepted set → (b i g : ℕ) → b < length set.brands → i < length (fields_of set b) →
    IsGroupOf (field_at set b i).field.kind (field_at set b i).type g → group_height set g < group_height set b
unfolding group_height height_within
group_height_falls set accepted b i g b_in i_in h =
    omega (
      arith,
      go (field_at set b i).field.kind (field_at set b i).type h,
      height_within_more (length set.brands) set g (is_shallow set accepted b b_in i i_in g h),
      highest_least (λ f. kind_height (height_within (length set.brands) set) f.field.kind f.type) (fields_of set b) i i_in,
    )
  where
    go : (k : FieldKind) (t : SchemaType) → IsGroupOf k t g → kind_height (height_within (length set.brands) set) k t ≡ suc (height_within (length set.brands) set g)
    go (Slot o d) t h = absurd h
    go (Group m) t h = ap (height_above (height_within (length set.brands) set)) h

pub heights_fall : (set : Schemas) → IsAccepted set → (b : ℕ) → b < length set.brands →
    (group_height set b ≤ length set.brands)
    × ((i g : ℕ) → i < length (fields_of set b) → IsGroupOf (field_at set b i).field.kind (field_at set b i).type g → LeadsDown set b g)
unfolding group_height
heights_fall set accepted b b_in = (
  height_within_most (suc (length set.brands)) (length set.brands) set b (is_shallow set accepted b b_in),
  λ i g i_in h. record {
    brand = group_in_set set accepted b i g b_in i_in h;
    group = group_of_field set accepted b i g b_in i_in h;
    lower = group_height_falls set accepted b i g b_in i_in h;
  },
)
