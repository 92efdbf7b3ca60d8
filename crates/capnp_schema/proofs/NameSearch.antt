use Rattle.std.proofs.Common.{bytes_eq, ℕ, ◌≡◌, ◌≢◌, ◌+◌, ◌-◌, ◌*◌, ◌/◌, ◌^◌, ◌<◌, ◌≤◌, ⊎_elim, Bool, true, false, List, [], ◌∷◌, Some, None, length, get_or, arith, refl, sym, ap, ◌∙◌, subst, Ordering, Less, Equal, Greater, add-one, position}
use Rattle.std.proofs.lemmas.Grind.{common_steps}
use Rattle.std.proofs.lemmas.Option.{slice_get-get_or}
use Rattle.std.proofs.lemmas.Cmp.{nat_list_cmp_total}
use Rattle.std.proofs.lemmas.Map.Text.{is_eq-slice_cmp}
use Rattle.std.proofs.lemmas.List.Sums.{position_or_len_is}
use Rattle.std.proofs.lemmas.Bool.{cases_lt}
use Rattle.std.proofs.Math.Nat.{mul-le-mul_right, pow-succ', pow-le-pow_right}
use Rattle.std.specs.Cmp.Lexicographic.{slice_cmp}
use Rattle.std.specs.List.{position_or_len}
use Rattle.std.specs.Ordering.{nat_cmp, is_eq, ordering_reverse}
use Rattle.capnp_schema.specs.Schema.{Field}
use Rattle.capnp_schema.specs.Names.{name_at, name_in, IsNameTable}

-- the name is none of those that stand before low or from high on
pub record Searching (fields : List Field) (table : List ℕ) (name : List ℕ) (low high count : ℕ) : Type 0 where
  pub ordered : low ≤ high
  pub within : high ≤ length table
  pub before : (k : ℕ) → k < low → slice_cmp nat_cmp (name_at fields (get_or table k 0)) name ≡ Less
  pub after : (k : ℕ) → high ≤ k → k < length table → slice_cmp nat_cmp (name_at fields (get_or table k 0)) name ≡ Greater
  pub halves : (high - low) * 2 ^ count ≤ length table
  pub digits : 0 < length table → 2 ^ count ≤ 2 * length table
  pub none : length table ≡ 0 → count ≡ 0
  pub started : count ≡ 0 → (low ≡ 0) × (high ≡ length table)

pub halved : (a s c n : ℕ) → 2 * a ≤ s → s * 2 ^ c ≤ n → a * 2 ^ (c + 1) ≤ n
halved a s c n half all = let e : 2 ^ (c + 1) ≡ 2 * 2 ^ c = rw add-one (pow-succ' 2 c) in rw e (omega (arith, mul-le-mul_right (2 ^ c) half))

pub grown : (s c n : ℕ) → 0 < s → s * 2 ^ c ≤ n → 2 ^ (c + 1) ≤ 2 * n
grown s c n some all = let e : 2 ^ (c + 1) ≡ 2 * 2 ^ c = rw add-one (pow-succ' 2 c) in rw e (let one : 1 ≤ s = omega arith in omega (arith, mul-le-mul_right (2 ^ c) one))

pub few_halves : (c n : ℕ) → 2 ^ c ≤ 2 * n → n ≤ 65535 → c < 64
few_halves c n all few = ⊎_elim (λ h. h) (λ h. absurd (let big : 2 ^ 64 ≤ 2 ^ c = pow-le-pow_right {n = 2} (omega arith) h in omega arith)) (cases_lt c 64)

-- the order of texts
pub less_then_less : (x y z : List ℕ) → slice_cmp nat_cmp x y ≡ Less → slice_cmp nat_cmp y z ≡ Less → slice_cmp nat_cmp x z ≡ Less
less_then_less x y z h k = nat_list_cmp_total.trans x y z h k

pub greater_is_less : (x y : List ℕ) → slice_cmp nat_cmp x y ≡ Greater → slice_cmp nat_cmp y x ≡ Less
greater_is_less x y h = nat_list_cmp_total.antisymm y x ∙ ap ordering_reverse h

pub less_is_greater : (x y : List ℕ) → slice_cmp nat_cmp x y ≡ Less → slice_cmp nat_cmp y x ≡ Greater
less_is_greater x y h = nat_list_cmp_total.antisymm y x ∙ ap ordering_reverse h

pub same_is_equal : (x : List ℕ) → slice_cmp nat_cmp x x ≡ Equal
same_is_equal x = equal_reversed (slice_cmp nat_cmp x x) (nat_list_cmp_total.antisymm x x)
  where
    equal_reversed : (o : Ordering) → o ≡ ordering_reverse o → o ≡ Equal
    equal_reversed Less e = cc
    equal_reversed Equal e = refl
    equal_reversed Greater e = cc

pub not_named : (o : Ordering) (x y : List ℕ) → slice_cmp nat_cmp x y ≡ o → (o ≡ Equal → ⊥) → bytes_eq x y ≡ false
not_named Less x y e h = sym (is_eq-slice_cmp x y) ∙ ap is_eq e
not_named Equal x y e h = absurd (h refl)
not_named Greater x y e h = sym (is_eq-slice_cmp x y) ∙ ap is_eq e

-- of a field by its index
pub name_at_is : (fs : List Field) (k : ℕ) (d : Field) → k < length fs → name_at fs k ≡ (get_or fs k d).name
name_at_is fs k d h = ap name_in (slice_get-get_or fs k d h)

module _ (fs : List Field) (name : List ℕ) where
  abbrev named : Field → Bool
  named f = bytes_eq (f.name) name

  first_of : (i : ℕ) (d : Field) → i ≤ length fs → ((k : ℕ) → k < i → bytes_eq (name_at fs k) name ≡ false) → (i < length fs → bytes_eq (name_at fs i) name ≡ true) → position_or_len named fs ≡ i
  first_of i d le before here = position_or_len_is named fs i d le
      (λ k h. let lt : k < length fs = omega arith in subst (λ (n : List ℕ). bytes_eq n name ≡ false) (name_at_is fs k d lt) (before k h))
      (λ h. subst (λ (n : List ℕ). bytes_eq n name ≡ true) (name_at_is fs i d h) (here h))

  pub found_at : (i : ℕ) → i < length fs → bytes_eq (name_at fs i) name ≡ true → ((k : ℕ) → k < i → bytes_eq (name_at fs k) name ≡ false) → Some i ≡ position named fs
  found_at i h here before = at_cases fs refl
    where
      at_cases : (xs : List Field) → xs ≡ fs → Some i ≡ position named fs
      at_cases [] e = absurd (let l : 0 ≡ length fs = ap length e in omega arith)
      at_cases (d ∷ xs) e = let p : position_or_len named fs ≡ i = first_of i d (omega arith) before (λ _. here) in rw p (grind (arith, common_steps))

  pub not_found : ((k : ℕ) → k < length fs → bytes_eq (name_at fs k) name ≡ false) → None ≡ position named fs
  not_found all = at_cases fs refl
    where
      at_cases : (xs : List Field) → xs ≡ fs → None ≡ position named fs
      at_cases [] e = rw (sym e) refl
      at_cases (d ∷ xs) e = let p : position_or_len named fs ≡ length fs = first_of (length fs) d (omega arith) all (λ h. absurd (omega arith)) in rw p (grind (arith, common_steps))

module _ (fs : List Field) (table : List ℕ) (name : List ℕ) (ok : IsNameTable fs table) where
  abbrev at : ℕ → List ℕ
  at k = name_at fs (get_or table k 0)

  -- the name stands at m
  pub found : (m : ℕ) → m < length table → slice_cmp nat_cmp (at m) name ≡ Equal → Some (get_or table m 0) ≡ position (named fs name) fs
  found m h e = found_at fs name (get_or table m 0) (ok.below m h)
      (sym (is_eq-slice_cmp (at m) name) ∙ ap is_eq e)
      (λ k lt. before k lt (ok.each k (let b : get_or table m 0 < length fs = ok.below m h in omega arith)))
    where
      apart : (j : ℕ) → j < length table → j ≢ m → bytes_eq (at j) name ≡ false
      apart j inside ne =
          let same : slice_cmp nat_cmp (at m) (at j) ≡ slice_cmp nat_cmp name (at j) = nat_list_cmp_total.congr (at m) name (at j) e in
          ⊎_elim
          (λ lt. not_named Less (at j) name (greater_less (sym same ∙ less_is_greater (at j) (at m) (ok.rises j m lt h))) (λ q. cc))
          (λ le. let lt : m < j = omega arith in not_named Greater (at j) name (less_is_greater name (at j) (sym same ∙ ok.rises m j lt inside)) (λ q. cc))
          (cases_lt j m)
        where
          greater_less : slice_cmp nat_cmp name (at j) ≡ Greater → slice_cmp nat_cmp (at j) name ≡ Less
          greater_less q = greater_is_less name (at j) q

      before : (k : ℕ) → k < get_or table m 0 → (j : ℕ) × (j < length table) × (get_or table j 0 ≡ k) → bytes_eq (name_at fs k) name ≡ false
      before k lt (j, inside, is) = subst (λ (i : ℕ). bytes_eq (name_at fs i) name ≡ false) is (apart j inside (λ q. let z : get_or table j 0 ≡ get_or table m 0 = ap (λ i. get_or table i 0) q in absurd (omega arith)))

  pub absent : (low high count : ℕ) → Searching fs table name low high count → high ≤ low → None ≡ position (named fs name) fs
  absent low high count s end = not_found fs name (λ k h. at_index k (ok.each k h))
    where
      at_index : (k : ℕ) → (j : ℕ) × (j < length table) × (get_or table j 0 ≡ k) → bytes_eq (name_at fs k) name ≡ false
      at_index k (j, inside, is) = subst (λ (i : ℕ). bytes_eq (name_at fs i) name ≡ false) is
          (⊎_elim (λ lt. not_named Less (at j) name (s.before j lt) (λ q. cc)) (λ le. not_named Greater (at j) name (s.after j (omega arith) inside) (λ q. cc)) (cases_lt j low))

  pub right : (low high count : ℕ) → Searching fs table name low high count → low < high → slice_cmp nat_cmp (at (low + (high - low) / 2)) name ≡ Less → Searching fs table name (low + (high - low) / 2 + 1) high (count + 1)
  right low high count s lt e = let m : ℕ = low + (high - low) / 2 in record {
    ordered = omega arith;
    within = s.within;
    before = λ k h. ⊎_elim (λ less. less_then_less (at k) (at m) name (ok.rises k m less (omega arith)) e) (λ more. let same : k ≡ m = omega arith in subst (λ (j : ℕ). slice_cmp nat_cmp (at j) name ≡ Less) (sym same) e) (cases_lt k m);
    after = s.after;
    halves = halved (high - (m + 1)) (high - low) count (length table) (omega arith) s.halves;
    digits = λ _. grown (high - low) count (length table) (omega arith) s.halves;
    none = λ h. absurd (omega arith);
    started = λ h. absurd (omega arith);
  }

  pub left : (low high count : ℕ) → Searching fs table name low high count → low < high → slice_cmp nat_cmp (at (low + (high - low) / 2)) name ≡ Greater → Searching fs table name low (low + (high - low) / 2) (count + 1)
  left low high count s lt e = let m : ℕ = low + (high - low) / 2 in record {
    ordered = omega arith;
    within = omega arith;
    before = s.before;
    after = λ k h inside. ⊎_elim (λ more. less_is_greater name (at k) (less_then_less name (at m) (at k) (greater_is_less (at m) name e) (ok.rises m k more inside))) (λ le. let same : k ≡ m = omega arith in subst (λ (j : ℕ). slice_cmp nat_cmp (at j) name ≡ Greater) (sym same) e) (cases_lt m k);
    halves = halved (m - low) (high - low) count (length table) (omega arith) s.halves;
    digits = λ _. grown (high - low) count (length table) (omega arith) s.halves;
    none = λ h. absurd (omega arith);
    started = λ h. absurd (omega arith);
  }
