-- A group field is found by its group, and undone by it.
use Rattle.std.proofs.Common.{ℕ, zero, suc, ◌+◌, ◌^◌, ◌<◌, ◌≤◌, ◌≡◌, refl, List, [], ◌∷◌, Bool, true, false, ◌==◌, length, nat_lt, cond, slice_get, Option, Some, None, arith, ap, sym, ◌∙◌, ⊎_elim}
use Rattle.std.proofs.lemmas.Bool.{cases_lt, eq-eqb}
use Rattle.std.proofs.lemmas.Bool.Decides.{nat_tests}
use Rattle.std.proofs.lemmas.Option.{same_Some, slice_get_past, some_pair_parts}
use Rattle.capnp_schema.specs.Accepted.{HasOneParent, IsAccepted, IsGroupBrand, IsGroupOf, IsParent}
use Rattle.capnp_schema.specs.Steps.Checking.Parents.{entry_target, group_target}
use Rattle.capnp_schema.specs.Facts.Fields.{brand_there, entry_some}
use Rattle.capnp_schema.specs.Facts.Groups.{group_in_set, group_of_field}
use Rattle.capnp_schema.specs.GroupFields.{group_field_of, index_naming, index_or, is_brand, names_brand, numbered_pair, place_naming, place_or}
use Rattle.capnp_schema.specs.Schema.{FieldKind, Group, Schemas, Slot, TypedField, field_at, fields_of, kind_target, no_field}
use Rattle.capnp_schema.specs.Types.{SchemaType}

-- ---- a field that names a brand ----

same_number : (b g : ℕ) → (b == g) ≡ true → b ≡ g
same_number b g e = grind (arith, nat_tests, e)

same_test : (g : ℕ) → (g == g) ≡ true
same_test g = eq-eqb g g refl

brand_is : (o : Option ℕ) (g : ℕ) → is_brand o g ≡ true → o ≡ Some g
brand_is None g e = cc
brand_is (Some b) g e = ap (λ (x : ℕ). Some x) (same_number b g e)

brand_seen : (o : Option ℕ) (g : ℕ) → o ≡ Some g → is_brand o g ≡ true
brand_seen o g e = ap (λ (x : Option ℕ). is_brand x g) e ∙ same_test g

-- ---- the first of a list of fields ----

-- a field of a list at this index, counted from the first on, that names a brand
pub record NamesAt (g first : ℕ) (fs : List TypedField) (k : ℕ) : Type 0 where
  pub index : ℕ
  pub at : k ≡ first + index
  pub names : entry_target (slice_get fs index) ≡ Some g

pub index_found : (g first : ℕ) (fs : List TypedField) (k : ℕ) → index_naming g first fs ≡ Some k → NamesAt g first fs k
unfolding index_naming
index_found g first [] k e = cc
index_found g first (f ∷ fs) k e = go (names_brand g f) refl (index_found g (suc first) fs k) e
  where
    go : (q : Bool) → names_brand g f ≡ q → (index_naming g (suc first) fs ≡ Some k → NamesAt g (suc first) fs k) → index_or q first (index_naming g (suc first) fs) ≡ Some k → NamesAt g first (f ∷ fs) k
    go true named later e = let same : first ≡ k = same_Some first k e in record { index = 0; at = omega arith; names = brand_is (kind_target f.field.kind f.type) g named }
    go false named later e = let n : NamesAt g (suc first) fs k = later e in let at = n.at in record { index = suc n.index; at = omega arith; names = n.names }

pub index_missing : (g first : ℕ) (fs : List TypedField) (j : ℕ) → index_naming g first fs ≡ None → entry_target (slice_get fs j) ≡ Some g → ⊥
unfolding index_naming
index_missing g first [] j none names = cc
index_missing g first (f ∷ fs) zero none names = go (names_brand g f) (brand_seen (kind_target f.field.kind f.type) g names) none
  where
    go : (q : Bool) → q ≡ true → index_or q first (index_naming g (suc first) fs) ≡ None → ⊥
    go true t e = cc
    go false t e = cc
index_missing g first (f ∷ fs) (suc j) none names = go (names_brand g f) (λ later. index_missing g (suc first) fs j later names) none
  where
    go : (q : Bool) → (index_naming g (suc first) fs ≡ None → ⊥) → index_or q first (index_naming g (suc first) fs) ≡ None → ⊥
    go true later e = cc
    go false later e = later e

-- ---- among the brands ----

pub place_found : (set : Schemas) (g n b i : ℕ) → place_naming set g n ≡ Some (b, i) → (b < n) × (group_target set b i ≡ Some g)
unfolding place_naming
place_found set g zero b i e = cc
place_found set g (suc n) b i e = go (index_naming g 0 (fields_of set n)) (index_found g 0 (fields_of set n)) (place_found set g n b i) e
  where
    go : (o : Option ℕ) → ((k : ℕ) → o ≡ Some k → NamesAt g 0 (fields_of set n) k) → (place_naming set g n ≡ Some (b, i) → (b < n) × (group_target set b i ≡ Some g)) → place_or n o (place_naming set g n) ≡ Some (b, i) → (b < suc n) × (group_target set b i ≡ Some g)
    go None here earlier e = (omega (arith, (earlier e).0), (earlier e).1)
    go (Some k) here earlier e =
        let same = some_pair_parts n b k i e in
        let at : NamesAt g 0 (fields_of set n) k = here k refl in
        let first = same.0 in
        let index : at.index ≡ i = let a = at.at in let s = same.1 in omega arith in
        (omega arith, ap (λ (x : ℕ). group_target set x i) (sym first) ∙ (ap (group_target set n) (sym index) ∙ at.names))

pub place_missing : (set : Schemas) (g n b i : ℕ) → place_naming set g n ≡ None → b < n → group_target set b i ≡ Some g → ⊥
unfolding place_naming
place_missing set g zero b i none lt t = absurd (omega arith)
place_missing set g (suc n) b i none lt t = go (index_naming g 0 (fields_of set n)) (λ e. index_missing g 0 (fields_of set n) i e) (λ e less. place_missing set g n b i e less t) none
  where
    go : (o : Option ℕ) → (o ≡ None → entry_target (slice_get (fields_of set n) i) ≡ Some g → ⊥) → (place_naming set g n ≡ None → b < n → ⊥) → place_or n o (place_naming set g n) ≡ None → ⊥
    go None here earlier e = ⊎_elim (λ less. earlier e less) (λ le. let same : b ≡ n = omega arith in here refl (ap (λ (x : ℕ). group_target set x i) (sym same) ∙ t)) (cases_lt b n)
    go (Some k) here earlier e = cc

-- ---- by numbers of handles ----

numbered_is : (o : Option (ℕ × ℕ)) (b i : ℕ) → numbered_pair o ≡ Some (b, i) → o ≡ Some (b, i)
numbered_is None b i e = cc
numbered_is (Some (c, j)) b i e = go (nat_lt c (2 ^ 32)) e
  where
    go : (q : Bool) → ◌≡◌ {A = Option (ℕ × ℕ)} (cond {A = Option (ℕ × ℕ)} q (Some (c, j)) None) (Some (b, i)) → ◌≡◌ {A = Option (ℕ × ℕ)} (Some (c, j)) (Some (b, i))
    go true e = e
    go false e = cc

small_test : (b : ℕ) → b < 2 ^ 32 → nat_lt b (2 ^ 32) ≡ true
small_test b small = grind (arith, nat_tests, small)

numbered_small : (o : Option (ℕ × ℕ)) (b i : ℕ) → o ≡ Some (b, i) → b < 2 ^ 32 → numbered_pair o ≡ Some (b, i)
numbered_small o b i e small = ap numbered_pair e ∙ ap (λ (q : Bool). cond {A = Option (ℕ × ℕ)} q (Some (b, i)) None) (small_test b small)

-- what is found is the group field of the brand
pub group_field_found : (set : Schemas) (g b i : ℕ) → group_field_of set g ≡ Some (b, i) → (b < length set.brands) × (group_target set b i ≡ Some g)
unfolding group_field_of
group_field_found set g b i e = place_found set g (length set.brands) b i (numbered_is (place_naming set g (length set.brands)) b i e)

-- ---- targets and parents ----

target_inside : (set : Schemas) (b i g : ℕ) → group_target set b i ≡ Some g → i < length (fields_of set b)
target_inside set b i g e = ⊎_elim (λ less. less) (λ past. absurd (let none : group_target set b i ≡ None = ap entry_target (slice_get_past (fields_of set b) i past) in cc)) (cases_lt i (length (fields_of set b)))

pub group_of : (k : FieldKind) (t : SchemaType) (g : ℕ) → kind_target k t ≡ Some g → IsGroupOf k t g
group_of (Slot offset default) t g e = cc
group_of (Group node) t g e = e

target_of : (k : FieldKind) (t : SchemaType) (g : ℕ) → IsGroupOf k t g → kind_target k t ≡ Some g
target_of (Slot offset default) t g e = absurd e
target_of (Group node) t g e = e

pub target_parent : (set : Schemas) (g b i : ℕ) → group_target set b i ≡ Some g → IsParent set g b i
target_parent set g b i e =
    let inside : i < length (fields_of set b) = target_inside set b i g e in
    record {
      brand = brand_there set b i inside;
      field = inside;
      names = group_of (field_at set b i).field.kind (field_at set b i).type g (sym (ap entry_target (entry_some (fields_of set b) i no_field inside)) ∙ e);
    }

pub parent_target : (set : Schemas) (g b i : ℕ) → IsParent set g b i → group_target set b i ≡ Some g
parent_target set g b i p = ap entry_target (entry_some (fields_of set b) i no_field p.field) ∙ target_of (field_at set b i).field.kind (field_at set b i).type g p.names

-- a group has one parent
one_parent : (set : Schemas) → IsAccepted set → (g b i c j : ℕ) → IsParent set g b i → IsParent set g c j → (c ≡ b) × (j ≡ i)
one_parent set accepted g b i c j p q =
    let group : IsGroupBrand set g = group_of_field set accepted b i g p.brand p.field p.names in
    let one : HasOneParent set g = (accepted.rule8 g (group_in_set set accepted b i g p.brand p.field p.names) group).0 in
    ((one.only c j q).0 ∙ sym (one.only b i p).0, (one.only c j q).1 ∙ sym (one.only b i p).1)

-- in an accepted set the group field of a group is found by the group
pub group_field_is : (set : Schemas) → IsAccepted set → (g b i : ℕ) → IsParent set g b i → b < 2 ^ 32 → group_field_of set g ≡ Some (b, i)
unfolding group_field_of
group_field_is set accepted g b i p small = numbered_small (place_naming set g (length set.brands)) b i (go (place_naming set g (length set.brands)) refl) small
  where
    go : (o : Option (ℕ × ℕ)) → place_naming set g (length set.brands) ≡ o → o ≡ Some (b, i)
    go None e = absurd (place_missing set g (length set.brands) b i e p.brand (parent_target set g b i p))
    go (Some (c, j)) e =
        let same = one_parent set accepted g b i c j p (target_parent set g c j (place_found set g (length set.brands) c j e).1) in
        ap (λ (x : ℕ × ℕ). Some x) (ap (λ (x : ℕ). (x, j)) same.0 ∙ ap (λ (x : ℕ). (b, x)) same.1)

-- a brand without one is no group
pub no_group_field : (set : Schemas) → IsAccepted set → (g : ℕ) → g < length set.brands → length set.brands ≤ 2 ^ 32 → group_field_of set g ≡ None → IsGroupBrand set g → ⊥
no_group_field set accepted g inside few none group =
    let one : HasOneParent set g = (accepted.rule8 g inside group).0 in
    let there : group_field_of set g ≡ Some (one.parent, one.index) = group_field_is set accepted g one.parent one.index one.is_parent (let b = one.is_parent.brand in omega arith) in
    cc
