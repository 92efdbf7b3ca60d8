-- How the table of parents is filled, one field after another.
use Rattle.std.proofs.Common.{ℕ, zero, suc, ◌≡◌, ◌≢◌, ◌+◌, ◌<◌, ◌≤◌, ◌⊎◌, inl, inr, ⊎_elim, true, false, List, [], ◌∷◌, ◌++◌, length, arith, refl, sym, ap, ◌∙◌, subst, Option, Some, None, slice_get, get_or}
use Rattle.std.proofs.Math.ListN.{set, set as set_at, length-set}
use Rattle.std.proofs.lemmas.Option.{slice_get_within, slice_get_read, same_Some, some_pair_parts}
use Rattle.std.specs.Option.{is_some}
use Rattle.std.proofs.lemmas.Bool.{cases_lt}
use Rattle.std.proofs.lemmas.List.{length_push}
use Rattle.capnp_schema.specs.Schema.{Schemas, fields_of}
use Rattle.capnp_schema.specs.Accepted.{HasOneParent}
use Rattle.capnp_schema.specs.Steps.Checking.Parents.{group_target, HasNoParents, IsParentTable}
use Rattle.capnp_schema.proofs.GroupTargets.{past_fields, within_brands, is_parent}

abbrev pub Table : Type 0
Table = List (Option (ℕ × ℕ))

-- the pairs of brand and field before (bb, ff)
abbrev pub Seen : ℕ → ℕ → ℕ → ℕ → Type 0
Seen bb ff b i = (b < bb) ⊎ ((b ≡ bb) × (i < ff))

-- the table of the pairs before (bb, ff)
pub record Filled (set : Schemas) (bb ff : ℕ) (table : Table) : Type 0 where
  pub same_length : length table ≡ length set.brands
  pub holds : (g b i : ℕ) → slice_get table g ≡ Some (Some (b, i)) → Seen bb ff b i × (group_target set b i ≡ Some g)
  pub all : (g b i : ℕ) → g < length table → Seen bb ff b i → group_target set b i ≡ Some g → slice_get table g ≡ Some (Some (b, i))

slice_get_set_same : {A : Type 0} (xs : List A) (k : ℕ) (y : A) → k < length xs → slice_get (set xs k y) k ≡ Some y
slice_get_set_same [] k y h = absurd (omega arith)
slice_get_set_same (x ∷ xs) zero y h = refl
slice_get_set_same (x ∷ xs) (suc k) y h = slice_get_set_same xs k y (omega arith)

slice_get_set_other : {A : Type 0} (xs : List A) (k g : ℕ) (y : A) → g ≢ k → slice_get (set xs k y) g ≡ slice_get xs g
slice_get_set_other [] k g y ne = refl
slice_get_set_other (x ∷ xs) zero zero y ne = absurd (ne refl)
slice_get_set_other (x ∷ xs) zero (suc g) y ne = refl
slice_get_set_other (x ∷ xs) (suc k) zero y ne = refl
slice_get_set_other (x ∷ xs) (suc k) (suc g) y ne = slice_get_set_other xs k g y (λ e. ne (ap suc e))

pub seen_more : (bb ff b i : ℕ) → Seen bb ff b i → Seen bb (ff + 1) b i
seen_more bb ff b i (inl h) = inl h
seen_more bb ff b i (inr (e, h)) = inr (e, omega arith)

pub seen_less : (bb ff b i : ℕ) → Seen bb (ff + 1) b i → Seen bb ff b i ⊎ ((b ≡ bb) × (i ≡ ff))
seen_less bb ff b i (inl h) = inl (inl h)
seen_less bb ff b i (inr (e, h)) = ⊎_elim (λ lt. inl (inr (e, lt))) (λ le. inr (e, omega arith)) (cases_lt i ff)

pub unseen : (bb ff : ℕ) → Seen bb ff bb ff → ⊥
unseen bb ff (inl h) = absurd (omega arith)
unseen bb ff (inr (e, h)) = absurd (omega arith)

-- a field that names no group
pub filled_skip : (set : Schemas) (bb ff : ℕ) (table : Table) → Filled set bb ff table → group_target set bb ff ≡ None → Filled set bb (ff + 1) table
filled_skip set bb ff table f none = record {
  same_length = f.same_length;
  holds = λ g b i e. (seen_more bb ff b i (f.holds g b i e).0, (f.holds g b i e).1);
  all = λ g b i h s t. ⊎_elim (λ before. f.all g b i h before t) (λ here. absurd (let e : group_target set b i ≡ group_target set bb ff = ap (λ x. group_target set x i) here.0 ∙ ap (group_target set bb) here.1 in cc)) (seen_less bb ff b i s);
}

-- a group field of a group with no parent so far
pub filled_set : (set : Schemas) (bb ff : ℕ) (table : Table) (g : ℕ) → Filled set bb ff table → group_target set bb ff ≡ Some g → slice_get table g ≡ Some None → Filled set bb (ff + 1) (set_at table g (Some (bb, ff)))
filled_set s bb ff table g f here free = record {
  same_length = length-set table g (Some (bb, ff)) ∙ f.same_length;
  holds = λ k b i e. ⊎_elim
      (λ same. at_same k b i same e)
      (λ other. let old : slice_get table k ≡ Some (Some (b, i)) = sym (slice_get_set_other table g k (Some (bb, ff)) other) ∙ e in (seen_more bb ff b i (f.holds k b i old).0, (f.holds k b i old).1))
      (same_or_not k g);
  all = λ k b i h seen t. ⊎_elim
      (λ before. let old : slice_get table k ≡ Some (Some (b, i)) = f.all k b i (let l : length (set_at table g (Some (bb, ff))) ≡ length table = length-set table g (Some (bb, ff)) in omega arith) before t in
      ⊎_elim (λ same. absurd (let z : slice_get table k ≡ slice_get table g = ap (slice_get table) same in none_pair b i (sym free ∙ sym z ∙ old))) (λ other. slice_get_set_other table g k (Some (bb, ff)) other ∙ old) (same_or_not k g))
      (λ now. let e : group_target s b i ≡ group_target s bb ff = ap (λ x. group_target s x i) now.0 ∙ ap (group_target s bb) now.1 in
      let k_is : k ≡ g = same_Some k g (sym t ∙ e ∙ here) in
      ap (slice_get (set_at table g (Some (bb, ff)))) k_is ∙ slice_get_set_same table g (Some (bb, ff)) (slice_get_within table g None free) ∙ ap (λ (p : ℕ × ℕ). Some (Some p)) (pair_is b i now))
      (seen_less bb ff b i seen);
}
  where
    none_pair : (b i : ℕ) → ◌≡◌ {A = Option (Option (ℕ × ℕ))} (Some None) (Some (Some (b, i))) → ⊥
    none_pair b i e = cc

    pair_is : (b i : ℕ) → (b ≡ bb) × (i ≡ ff) → ◌≡◌ {A = ℕ × ℕ} (bb, ff) (b, i)
    pair_is b i e = let p = e.0 in let q = e.1 in cc

    same_or_not : (x y : ℕ) → (x ≡ y) ⊎ (x ≢ y)
    same_or_not x y = ⊎_elim (λ lt. inr (λ e. absurd (omega arith))) (λ le. ⊎_elim (λ more. inr (λ e. absurd (omega arith))) (λ ge. inl (omega arith)) (cases_lt y x)) (cases_lt x y)

    at_same : (k b i : ℕ) → k ≡ g → slice_get (set_at table g (Some (bb, ff))) k ≡ Some (Some (b, i)) → Seen bb (ff + 1) b i × (group_target s b i ≡ Some k)
    at_same k b i same e =
        let p : ◌≡◌ {A = Option (Option (ℕ × ℕ))} (Some (Some (bb, ff))) (Some (Some (b, i))) = sym (slice_get_set_same table g (Some (bb, ff)) (slice_get_within table g None free)) ∙ ap (slice_get (set_at table g (Some (bb, ff)))) (sym same) ∙ e in
        let q : (bb ≡ b) × (ff ≡ i) = some_pair_parts bb b ff i (same_Some {A = Option (ℕ × ℕ)} (Some (bb, ff)) (Some (b, i)) p) in
        (inr (sym q.0, omega arith), ap (λ x. group_target s x i) (sym q.0) ∙ ap (group_target s bb) (sym q.1) ∙ here ∙ ap (λ (x : ℕ). Some x) (sym same))

-- the last field of a brand is done
pub filled_next : (set : Schemas) (bb n : ℕ) (table : Table) → Filled set bb n table → length (fields_of set bb) ≤ n → Filled set (bb + 1) 0 table
filled_next set bb n table f end = record {
  same_length = f.same_length;
  holds = λ g b i e. (now_seen b i (f.holds g b i e).0, (f.holds g b i e).1);
  all = λ g b i h s t. f.all g b i h (was_seen g b i s t) t;
}
  where
    now_seen : (b i : ℕ) → Seen bb n b i → Seen (bb + 1) 0 b i
    now_seen b i (inl h) = inl (omega arith)
    now_seen b i (inr (e, h)) = inl (omega arith)

    was_seen : (g b i : ℕ) → Seen (bb + 1) 0 b i → group_target set b i ≡ Some g → Seen bb n b i
    was_seen g b i (inl h) t = ⊎_elim (λ lt. inl lt) (λ le. let e : b ≡ bb = omega arith in inr (e, ⊎_elim (λ lt. lt) (λ past. absurd (let none : group_target set bb i ≡ None = past_fields set bb i (omega arith) in let same : group_target set b i ≡ group_target set bb i = ap (λ x. group_target set x i) e in cc)) (cases_lt i n))) (cases_lt b bb)
    was_seen g b i (inr (e, h)) t = absurd (omega arith)

-- all brands are done
pub table_from_filled : (set : Schemas) (bb : ℕ) (table : Table) → Filled set bb 0 table → length set.brands ≤ bb → IsParentTable set table
table_from_filled set bb table f end = record {
  same_length = f.same_length;
  holds = λ g b i e. (f.holds g b i e).1;
  all = λ g b i h t. f.all g b i h (inl (let lt : b < length set.brands = within_brands set b i g t in omega arith)) t;
}

-- a group that a second field names
pub named_twice : (set : Schemas) (bb ff : ℕ) (table : Table) (g b i : ℕ) → Filled set bb ff table → group_target set bb ff ≡ Some g → slice_get table g ≡ Some (Some (b, i)) → HasOneParent set g → ⊥
named_twice set bb ff table g b i f here there one =
    let seen : Seen bb ff b i = (f.holds g b i there).0 in
    let old = one.only b i (is_parent set g b i (f.holds g b i there).1) in
    let new = one.only bb ff (is_parent set g bb ff here) in
    let same_b : b ≡ bb = old.0 ∙ sym new.0 in
    let same_i : i ≡ ff = old.1 ∙ sym new.1 in
    unseen bb ff (subst (λ (x : ℕ). Seen bb ff x ff) same_b (subst (Seen bb ff b) same_i seen))

-- what stands at g, as the code reads it
pub twice_at : (set : Schemas) (bb ff : ℕ) (table : Table) (g : ℕ) (o : Option (ℕ × ℕ)) → Filled set bb ff table → group_target set bb ff ≡ Some g → g < length table → o ≡ get_or table g o → is_some o ≡ true → HasOneParent set g → ⊥
twice_at set bb ff table g None f here lt e some one = cc
twice_at set bb ff table g (Some (b, i)) f here lt e some one = named_twice set bb ff table g b i f here (slice_get_read table (length table) g (Some (b, i)) refl lt e) one

pub free_at : (table : Table) (g : ℕ) (o : Option (ℕ × ℕ)) → g < length table → o ≡ get_or table g o → is_some o ≡ false → slice_get table g ≡ Some None
free_at table g None lt e none = slice_get_read table (length table) g None refl lt e
free_at table g (Some p) lt e none = cc

-- one more entry of the table that names no parent
pub no_parents_more : (table : Table) (count : ℕ) → HasNoParents table count → HasNoParents (table ++ None ∷ []) (count + 1)
no_parents_more table count n = record { counted = length_push table None ∙ ap (λ (k : ℕ). k + 1) n.counted; none = λ g b i e. more table g b i (n.none g b i) e }
  where
    more : (xs : Table) (g b i : ℕ) → (slice_get xs g ≡ Some (Some (b, i)) → ⊥) → slice_get (xs ++ None ∷ []) g ≡ Some (Some (b, i)) → ⊥
    more [] zero b i none e = cc
    more [] (suc g) b i none e = cc
    more (x ∷ xs) zero b i none e = none e
    more (x ∷ xs) (suc g) b i none e = more xs g b i none e
