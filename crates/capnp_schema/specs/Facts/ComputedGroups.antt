-- Groups that stand in structs, each by the field that a table gives for it, as a test that computes.
use Rattle.std.proofs.Common.{ℕ, zero, suc, ◌≡◌, ◌<◌, ◌≤◌, ◌&&◌, ◌==◌, nat_lt, Bool, true, false, not, length, arith, refl, Option, Some, None}
use Rattle.std.proofs.lemmas.Bool.{ltb-true}
use Rattle.std.proofs.lemmas.Bool.Decides.{Decides-eqb}
use Rattle.std.proofs.lemmas.Option.{same_Some}
use Rattle.capnp_schema.specs.Types.{SchemaType}
use Rattle.capnp_schema.specs.Schema.{Schemas, FieldKind, Slot, Group, TypedField, node_of, fields_of, field_at, kind_target}
use Rattle.capnp_schema.specs.Accepted.{EndsAtStruct, HasOneParent, IsGroupBrand, IsGroupOf, IsParent, Rule8}
use Rattle.capnp_schema.specs.Facts.Computed.{both, all_below, passes_below, all_fields, each_field}

abbrev pub is_target : Option ℕ → ℕ → Bool
is_target None g = false
is_target (Some x) g = x == g

-- whether a field is the group field of brand g
abbrev pub names_group : ℕ → TypedField → Bool
names_group g f = is_target (kind_target f.field.kind f.type) g

names_it : (g : ℕ) (f : TypedField) → names_group g f ≡ true → IsGroupOf f.field.kind f.type g
names_it g f = go f.field.kind f.type
  where
    target : (o : Option ℕ) → is_target o g ≡ true → o ≡ Some g
    target None e = cc
    target (Some x) e = let same = (Decides-eqb x g).0 e in cc

    go : (k : FieldKind) (t : SchemaType) → is_target (kind_target k t) g ≡ true → IsGroupOf k t g
    go (Slot offset default) t e = cc
    go (Group node) t e = target (kind_target (Group node) t) e

is_named_by : (g : ℕ) (f : TypedField) → IsGroupOf f.field.kind f.type g → names_group g f ≡ true
is_named_by g f = go f.field.kind f.type
  where
    target : (o : Option ℕ) → o ≡ Some g → is_target o g ≡ true
    target None e = cc
    target (Some x) e = (Decides-eqb x g).1 (same_Some x g e)

    go : (k : FieldKind) (t : SchemaType) → IsGroupOf k t g → is_target (kind_target k t) g ≡ true
    go (Slot offset default) t e = absurd e
    go (Group node) t e = target (kind_target (Group node) t) e

abbrev pub has_sizes_of : Schemas → ℕ → ℕ → Bool
has_sizes_of set g p = ((node_of set g).data_word_count == (node_of set p).data_word_count) && ((node_of set g).pointer_count == (node_of set p).pointer_count)

-- field i of struct p, and no other, names the group
abbrev pub names_once : Schemas → ℕ → ℕ → ℕ → Bool
names_once set g p i = (nat_lt p (length set.brands) && nat_lt i (length (fields_of set p))) && (names_group g (field_at set p i) && all_fields set (λ b j f. not (names_group g f && not ((b == p) && (j == i)))))

-- field i of struct p names the group
abbrev pub is_named_at : Schemas → ℕ → ℕ × ℕ → Bool
is_named_at set g (p, i) = (nat_lt p (length set.brands) && nat_lt i (length (fields_of set p))) && names_group g (field_at set p i)

-- at most so many steps up the table lead to a struct that is no group
abbrev pub ends_at_struct : ℕ → Schemas → (ℕ → ℕ × ℕ) → ℕ → Bool
ends_at_struct zero set parent b = not (node_of set b).is_group
ends_at_struct (suc steps) set parent b =
    elim (node_of set b).is_group [ true ↦ is_named_at set b (parent b) && ends_at_struct steps set parent (parent b).0 | false ↦ true ]

abbrev pub stands_once : Schemas → ℕ → ℕ × ℕ → Bool
stands_once set g (p, i) = names_once set g p i && has_sizes_of set g p

-- each group stands in the struct or group, by the field, that a table gives for it, and the table leads up to a struct
abbrev pub meets_rule8 : Schemas → (ℕ → ℕ × ℕ) → Bool
meets_rule8 set parent =
    all_below (length set.brands) (λ g. not ((node_of set g).is_group && not (stands_once set g (parent g))))
    && all_below (length set.brands) (ends_at_struct (length set.brands) set parent)

module _ (set : Schemas) (g p i : ℕ) (group : IsGroupBrand set g) (some : 0 < length set.brands) where
  one_parent : names_once set g p i ≡ true → has_sizes_of set g p ≡ true → HasOneParent set g
  one_parent e sizes =
      let parts = both (nat_lt p (length set.brands) && nat_lt i (length (fields_of set p))) _ e in
      let inside = both (nat_lt p (length set.brands)) (nat_lt i (length (fields_of set p))) parts.0 in
      let names = both (names_group g (field_at set p i)) _ parts.1 in
      let same = both ((node_of set g).data_word_count == (node_of set p).data_word_count) ((node_of set g).pointer_count == (node_of set p).pointer_count) sizes in
      record {
        parent = p;
        index = i;
        is_parent = record { brand = ltb-true p (length set.brands) inside.0; field = ltb-true i (length (fields_of set p)) inside.1; names = names_it g (field_at set p i) names.0 };
        only = λ b j parent. each_field set (λ b j f. not (names_group g f && not ((b == p) && (j == i)))) (λ b j f. IsGroupOf f.field.kind f.type g → (b ≡ p) × (j ≡ i)) at_once names.1 b j parent.brand parent.field parent.names;
        sizes = ((Decides-eqb (node_of set g).data_word_count (node_of set p).data_word_count).0 same.0, (Decides-eqb (node_of set g).pointer_count (node_of set p).pointer_count).0 same.1);
      }
    where
      here : (b j : ℕ) (q : Bool) → not (q && not ((b == p) && (j == i))) ≡ true → q ≡ true → ((b == p) && (j == i)) ≡ true
      here b j true e h = at ((b == p) && (j == i)) e
        where
          at : (r : Bool) → not (not r) ≡ true → r ≡ true
          at true e = refl
          at false e = cc
      here b j false e h = cc

      at_once : (b j : ℕ) (f : TypedField) → not (names_group g f && not ((b == p) && (j == i))) ≡ true → IsGroupOf f.field.kind f.type g → (b ≡ p) × (j ≡ i)
      at_once b j f e named =
          let same = both (b == p) (j == i) (here b j (names_group g f) e (is_named_by g f named)) in
          ((Decides-eqb b p).0 same.0, (Decides-eqb j i).0 same.1)

module _ (set : Schemas) (parent : ℕ → ℕ × ℕ) where
  plain : (q : Bool) → not q ≡ true → q ≡ false
  plain true e = cc
  plain false e = refl

  named_at : (g : ℕ) (up : ℕ × ℕ) → is_named_at set g up ≡ true → IsParent set g up.0 up.1
  named_at g (p, i) e =
      let parts = both (nat_lt p (length set.brands) && nat_lt i (length (fields_of set p))) (names_group g (field_at set p i)) e in
      let inside = both (nat_lt p (length set.brands)) (nat_lt i (length (fields_of set p))) parts.0 in
      record { brand = ltb-true p (length set.brands) inside.0; field = ltb-true i (length (fields_of set p)) inside.1; names = names_it g (field_at set p i) parts.1 }

  chain : (steps b : ℕ) → ends_at_struct steps set parent b ≡ true → (n : ℕ) × (n ≤ steps) × EndsAtStruct n set b
  chain zero b e = (0, omega arith, plain (node_of set b).is_group e)
  chain (suc steps) b e = at (chain steps (parent b).0) (node_of set b).is_group refl e
    where
      at : (ends_at_struct steps set parent (parent b).0 ≡ true → (n : ℕ) × (n ≤ steps) × EndsAtStruct n set (parent b).0) → (q : Bool) → (node_of set b).is_group ≡ q →
          elim q as (λ _. Bool) [ true ↦ is_named_at set b (parent b) && ends_at_struct steps set parent (parent b).0 | false ↦ true ] ≡ true → (n : ℕ) × (n ≤ suc steps) × EndsAtStruct n set b
      at up false h e = (0, omega arith, h)
      at up true h e =
          let parts = both (is_named_at set b (parent b)) (ends_at_struct steps set parent (parent b).0) e in
          let rest = up parts.1 in
          let fits : suc rest.0 ≤ suc steps = omega (arith, rest.1) in
          (suc rest.0, fits, (h, ((parent b).0, (parent b).1, named_at b (parent b) parts.0, rest.2)))

pub rule8 : (set : Schemas) (parent : ℕ → ℕ × ℕ) → meets_rule8 set parent ≡ true → Rule8 set
rule8 set parent e g g_in group =
    let parts = both (all_below (length set.brands) (λ g. not ((node_of set g).is_group && not (stands_once set g (parent g))))) (all_below (length set.brands) (ends_at_struct (length set.brands) set parent)) e in (
      at (parent g) (passes_below (length set.brands) (λ g. not ((node_of set g).is_group && not (stands_once set g (parent g)))) parts.0 g g_in),
      chain set parent (length set.brands) g (passes_below (length set.brands) (ends_at_struct (length set.brands) set parent) parts.1 g g_in),
    )
  where
    holds : (q r : Bool) → not (q && not r) ≡ true → q ≡ true → r ≡ true
    holds true true e h = refl
    holds true false e h = cc
    holds false r e h = cc

    at : (up : ℕ × ℕ) → not ((node_of set g).is_group && not (stands_once set g up)) ≡ true → HasOneParent set g
    at (p, i) pass =
        let once = both (names_once set g p i) (has_sizes_of set g p) (holds (node_of set g).is_group (stands_once set g (p, i)) pass group) in
        one_parent set g p i group (omega arith) once.0 once.1
