-- Where nothing is said of a change, there is none, and the other way round.
use Rattle.std.proofs.Common.{ℕ, ◌<◌, ◌≤◌, ◌≡◌, ⊎_elim, inl, inr, refl, Bool, true, false, not, ◌==◌, nat_le, Some, arith, sym, ◌∙◌, subst}
use Rattle.std.proofs.lemmas.Bool.{cases_lt, eq-eqb, eqb-true, eqb-false, le-leb, leb-true, ne_eqb, not-false}
use Rattle.capnp_schema.specs.Schema.{Field, FieldKind, Slot, Group, Node}
use Rattle.capnp_records.specs.Compatible.{SameKind}
use Rattle.capnp_differences.specs.Differences.{SameDefaults, UnionDiffers, kind_change, member_change, members_lost, membership_change, union_moved, unless}
use Rattle.capnp_differences.specs.declared.differences.Cause.{Cause}
use Rattle.capnp_differences.specs.declared.differences.Cause.TheVariants as cause

-- ---- what is still the same ----

pub same_none : (b : Bool) (x c : Cause) → b ≡ true → unless b x ≡ Some c → ⊥
same_none true x c h e = cc
same_none false x c h e = cc

pub same_from : (b : Bool) (x : Cause) → ((c : Cause) → unless b x ≡ Some c → ⊥) → b ≡ true
same_from true x quiet = refl
same_from false x quiet = absurd (quiet x refl)

-- ---- slots and groups ----

pub kinds_same : (j k : FieldKind) → SameKind j k → (c : Cause) → kind_change j k ≡ Some c → ⊥
kinds_same (Slot o x) (Slot o' y) s c e = same_none (o == o') cause.PlaceChanged c (eq-eqb o o' s.0) e
kinds_same (Group m) (Group n) s c e = cc
kinds_same j k s c e = absurd s

pub kinds_defaults : (j k : FieldKind) → SameKind j k → SameDefaults j k
kinds_defaults (Slot o x) (Slot o' y) s = s.1
kinds_defaults (Group m) (Group n) s = tt
kinds_defaults j k s = absurd s

pub kinds_from : (j k : FieldKind) → ((c : Cause) → kind_change j k ≡ Some c → ⊥) → SameDefaults j k → SameKind j k
kinds_from (Slot o x) (Slot o' y) quiet s = (eqb-true o o' (same_from (o == o') cause.PlaceChanged quiet), s)
kinds_from (Group m) (Group n) quiet s = tt
kinds_from j k quiet s = absurd (quiet cause.KindChanged refl)

-- ---- members ----

both_same : (b s : Bool) (c : Cause) → s ≡ true → membership_change b b s ≡ Some c → ⊥
both_same true s c h e = same_none s cause.DiscriminantChanged c h e
both_same false s c h e = cc

by_values : (x y : ℕ) (c : Cause) → x ≡ y → membership_change (not (x == 65535)) (not (y == 65535)) (x == y) ≡ Some c → ⊥
by_values x y c h e =
    both_same (not (x == 65535)) (x == x) c (eq-eqb x x refl)
    (subst (λ (z : ℕ). membership_change (not (x == 65535)) (not (z == 65535)) (x == z) ≡ Some c) (sym h) e)

pub members_same : (f g : Field) → f.discriminant_value ≡ g.discriminant_value → (c : Cause) → member_change f g ≡ Some c → ⊥
members_same f g h c e = by_values f.discriminant_value g.discriminant_value c h e

is_none : (x : ℕ) → not (x == 65535) ≡ false → x ≡ 65535
is_none x e = eqb-true x 65535 (not-false (x == 65535) e)

values_from : (x y : ℕ) (p q s : Bool) → not (x == 65535) ≡ p → not (y == 65535) ≡ q → (x == y) ≡ s → ((c : Cause) → membership_change p q s ≡ Some c → ⊥) → x ≡ y
values_from x y true true true e f g quiet = eqb-true x y g
values_from x y true true false e f g quiet = absurd (quiet cause.DiscriminantChanged refl)
values_from x y true false s e f g quiet = absurd (quiet cause.LeftUnion refl)
values_from x y false true s e f g quiet = absurd (quiet cause.EnteredUnion refl)
values_from x y false false s e f g quiet = is_none x e ∙ sym (is_none y f)

pub members_from : (f g : Field) → ((c : Cause) → member_change f g ≡ Some c → ⊥) → f.discriminant_value ≡ g.discriminant_value
members_from f g quiet = values_from f.discriminant_value g.discriminant_value _ _ _ refl refl refl quiet

-- ---- unions ----

none_lost : (t b : Bool) (c : Cause) → t ≡ true → members_lost t b ≡ Some c → ⊥
none_lost true b c h e = cc
none_lost false b c h e = cc

lost_from : (t b : Bool) → ((c : Cause) → members_lost t b ≡ Some c → ⊥) → t ≡ true
lost_from true b quiet = refl
lost_from false true quiet = absurd (quiet cause.UnionGone refl)
lost_from false false quiet = absurd (quiet cause.FewerMembers refl)

not_moved : (p q s : Bool) (c : Cause) → (p ≡ false → s ≡ true) → union_moved p q s ≡ Some c → ⊥
not_moved true q s c h e = cc
not_moved false true s c h e = cc
not_moved false false s c h e = same_none s cause.UnionMoved c (h refl) e

moved_from : (p q s : Bool) → p ≡ false → q ≡ false → ((c : Cause) → union_moved p q s ≡ Some c → ⊥) → s ≡ true
moved_from true q s h k quiet = cc
moved_from false true s h k quiet = cc
moved_from false false s h k quiet = same_from s cause.UnionMoved quiet

module _ (n m : Node) where
  enough : (0 < n.discriminant_count → (n.discriminant_offset ≡ m.discriminant_offset) × (n.discriminant_count ≤ m.discriminant_count)) → n.discriminant_count ≤ m.discriminant_count
  enough h = ⊎_elim (λ some. (h some).1) (λ none. omega arith) (cases_lt 0 n.discriminant_count)

  some_union : (n.discriminant_count == 0) ≡ false → 0 < n.discriminant_count
  some_union e = ⊎_elim (λ some. some) (λ none. absurd (eqb-false n.discriminant_count 0 e (omega arith))) (cases_lt 0 n.discriminant_count)

  pub unions_same : (0 < n.discriminant_count → (n.discriminant_offset ≡ m.discriminant_offset) × (n.discriminant_count ≤ m.discriminant_count)) → (c : Cause) → UnionDiffers n m c → ⊥
  unions_same h c (inl e) = none_lost (nat_le n.discriminant_count m.discriminant_count) (m.discriminant_count == 0) c (le-leb n.discriminant_count m.discriminant_count (enough h)) e
  unions_same h c (inr e) =
      not_moved (n.discriminant_count == 0) (m.discriminant_count == 0) (n.discriminant_offset == m.discriminant_offset) c
      (λ was. eq-eqb n.discriminant_offset m.discriminant_offset (h (some_union was)).0) e

  pub unions_from : ((c : Cause) → UnionDiffers n m c → ⊥) → 0 < n.discriminant_count → (n.discriminant_offset ≡ m.discriminant_offset) × (n.discriminant_count ≤ m.discriminant_count)
  unions_from quiet some =
      let more : n.discriminant_count ≤ m.discriminant_count = leb-true n.discriminant_count m.discriminant_count (lost_from (nat_le n.discriminant_count m.discriminant_count) (m.discriminant_count == 0) (λ c e. quiet c (inl e))) in (
        eqb-true n.discriminant_offset m.discriminant_offset
            (moved_from (n.discriminant_count == 0) (m.discriminant_count == 0) (n.discriminant_offset == m.discriminant_offset)
            (ne_eqb n.discriminant_count 0 (λ z. omega arith)) (ne_eqb m.discriminant_count 0 (λ z. omega arith)) (λ c e. quiet c (inr e))),
        more,
      )
