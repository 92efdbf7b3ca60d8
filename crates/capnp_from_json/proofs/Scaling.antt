-- d 10^k as a quotient of naturals.
use Rattle.std.proofs.Common.{ℕ, suc, zero, ◌≡◌, ◌≢◌, ◌+◌, ◌-◌, ◌*◌, ◌/◌, ◌%◌, ◌^◌, ◌<◌, ◌≤◌, refl, sym, ap, ◌∙◌, arith, Some, None, Option, List, [], ◌++◌, length, true, cond, eqb, ⊎_elim, lit<, zero-add, subst, inl, inr, false, Bool}
use Rattle.std.proofs.lemmas.Nat.{div-add-mod', pow-add}
use Rattle.std.proofs.lemmas.Bool.{cases_lt, cond_both, cond_above, cond_below, eq-eqb, eqb-true}
use Rattle.std.proofs.Math.Nat.{le-mul_of_pos_right, mul-div_cancel, mul-mod_right}
use Rattle.capnp_from_json.specs.Integers.{in_word, quotient_of, small}
use Rattle.capnp_from_json.specs.Steps.Digits.{ArePowers, IsCapped, IsDifference, IsTrimmed, scaled_by}
use Rattle.capnp_json_text.specs.Decimals.{natural_from}
use Rattle.capnp_from_json.proofs.Digits.{held, joined, not_held}

cancel : (a b m : ℕ) → 0 < m → a * m ≡ b * m → a ≡ b
cancel a b m h e = sym (mul-div_cancel a h) ∙ ap (λ z. z / m) e ∙ mul-div_cancel b h

pub quotient_is : (n q m : ℕ) → 0 < m → n ≡ q * m → quotient_of n m ≡ Some q
quotient_is n q m h e =
    let z : n % m ≡ 0 = ap (λ z. z % m) (e ∙ (let c : q * m ≡ m * q = omega arith in c)) ∙ mul-mod_right m q in
    let t : eqb (n % m) 0 ≡ true = eq-eqb (n % m) 0 z in
    let d : n / m ≡ q = ap (λ z. z / m) e ∙ mul-div_cancel q h in
    ap (λ b. cond b (Some (n / m)) None) t ∙ ap Some d

pub quotient_none : (n m : ℕ) → 0 < m → ((q : ℕ) → n ≢ q * m) → quotient_of n m ≡ None
quotient_none n m h never = cond_both (eqb (n % m) 0) (Some (n / m)) None (λ o. o ≡ None)
    (λ t. let z : n % m ≡ 0 = eqb-true (n % m) 0 t in
    let w : n / m * m + n % m ≡ n = div-add-mod' n m in
    absurd (never (n / m) (let e : n ≡ n / m * m = omega arith in e)))
    (λ t. refl)

tens_apart : (a b : ℕ) → 10 ^ (a + b) ≡ 10 ^ a * 10 ^ b
tens_apart a b = pow-add 10 a b

pub tens_some : (a : ℕ) → 0 < 10 ^ a
tens_some zero = lit< tt
tens_some (suc a) =
    let h : 0 < 10 ^ a = tens_some a in
    let e : 10 ^ suc a ≡ 10 ^ a * 10 = ap (λ z. 10 ^ z) (let f : suc a ≡ a + 1 = omega arith in f) ∙ pow-add 10 a 1 in
    omega arith

-- whole: the zeros that are left behind d
whole_scaled : (n d e s f down a : ℕ) → n * 10 ^ a ≡ d * 10 ^ s * 10 ^ f → a + down ≤ s + e
    → n * 10 ^ e ≡ d * 10 ^ (s + e - (a + down)) * 10 ^ (f + down)
whole_scaled n d e s f down a h l =
    let k : ℕ = s + e - (a + down) in
    let p : 10 ^ (s + e) ≡ 10 ^ k * 10 ^ (a + down) = ap (λ z. 10 ^ z) (let x : s + e ≡ k + (a + down) = omega arith in x) ∙ tens_apart k (a + down) in
    let q : 10 ^ (s + e) ≡ 10 ^ s * 10 ^ e = tens_apart s e in
    let r : 10 ^ (a + down) ≡ 10 ^ a * 10 ^ down = tens_apart a down in
    let t : 10 ^ (f + down) ≡ 10 ^ f * 10 ^ down = tens_apart f down in
    cancel (n * 10 ^ e) (d * 10 ^ k * 10 ^ (f + down)) (10 ^ a) (tens_some a)
    ((let x : n * 10 ^ e * 10 ^ a ≡ n * 10 ^ a * 10 ^ e = omega arith in x)
    ∙ ap (λ z. z * 10 ^ e) h
    ∙ (let x : d * 10 ^ s * 10 ^ f * 10 ^ e ≡ d * 10 ^ f * (10 ^ s * 10 ^ e) = omega arith in x)
    ∙ ap (λ z. d * 10 ^ f * z) (sym q ∙ p ∙ ap (λ z. 10 ^ k * z) r)
    ∙ (let x : d * 10 ^ f * (10 ^ k * (10 ^ a * 10 ^ down)) ≡ d * 10 ^ k * (10 ^ f * 10 ^ down) * 10 ^ a = omega arith in x)
    ∙ ap (λ z. d * 10 ^ k * z * 10 ^ a) (sym t))

-- not whole: d would end in a zero
not_scaled : (n d e s f down a : ℕ) → n * 10 ^ a ≡ d * 10 ^ s * 10 ^ f → d % 10 ≢ 0 → s + e < a + down
    → (q : ℕ) → n * 10 ^ e ≢ q * 10 ^ (f + down)
not_scaled n d e s f down a h last l q w =
    let j : ℕ = a + down - (s + e) - 1 in
    let p : 10 ^ (a + down) ≡ 10 ^ j * 10 * 10 ^ (s + e) = ap (λ z. 10 ^ z) (let x : a + down ≡ j + 1 + (s + e) = omega arith in x) ∙ tens_apart (j + 1) (s + e) ∙ ap (λ z. z * 10 ^ (s + e)) (tens_apart j 1) in
    let o : 10 ^ (s + e) ≡ 10 ^ s * 10 ^ e = tens_apart s e in
    let r : 10 ^ (a + down) ≡ 10 ^ a * 10 ^ down = tens_apart a down in
    let t : 10 ^ (f + down) ≡ 10 ^ f * 10 ^ down = tens_apart f down in
    let x : d * 10 ^ (s + e) * 10 ^ f ≡ q * 10 ^ (a + down) * 10 ^ f =
    ap (λ z. d * z * 10 ^ f) o
    ∙ (let y : d * (10 ^ s * 10 ^ e) * 10 ^ f ≡ d * 10 ^ s * 10 ^ f * 10 ^ e = omega arith in y)
    ∙ ap (λ z. z * 10 ^ e) (sym h)
    ∙ (let y : n * 10 ^ a * 10 ^ e ≡ n * 10 ^ e * 10 ^ a = omega arith in y)
    ∙ ap (λ z. z * 10 ^ a) (w ∙ ap (λ z. q * z) t)
    ∙ (let y : q * (10 ^ f * 10 ^ down) * 10 ^ a ≡ q * (10 ^ a * 10 ^ down) * 10 ^ f = omega arith in y)
    ∙ ap (λ z. q * z * 10 ^ f) (sym r) in
    let u : d * 10 ^ (s + e) ≡ q * 10 ^ (a + down) = cancel (d * 10 ^ (s + e)) (q * 10 ^ (a + down)) (10 ^ f) (tens_some f) x in
    let v : d ≡ q * 10 ^ j * 10 = cancel d (q * 10 ^ j * 10) (10 ^ (s + e)) (tens_some (s + e))
    (u ∙ ap (λ z. q * z) p ∙ (let y : q * (10 ^ j * 10 * 10 ^ (s + e)) ≡ q * 10 ^ j * 10 * 10 ^ (s + e) = omega arith in y)) in
    last (ap (λ z. z % 10) (v ∙ (let y : q * 10 ^ j * 10 ≡ 10 * (q * 10 ^ j) = omega arith in y)) ∙ mul-mod_right 10 (q * 10 ^ j))

pub scaled_is : (n d e s f down a : ℕ) → n * 10 ^ a ≡ d * 10 ^ s * 10 ^ f → d % 10 ≢ 0
    → scaled_by d (s + e) (a + down) ≡ small (quotient_of (n * 10 ^ e) (10 ^ (f + down)))
scaled_is n d e s f down a h last = ⊎_elim
    (λ (l : s + e < a + down).
    sym (cond_below (s + e) (a + down) None (in_word (d * 10 ^ (s + e - (a + down)))) l)
    ∙ sym (ap small (quotient_none (n * 10 ^ e) (10 ^ (f + down)) (tens_some (f + down)) (not_scaled n d e s f down a h last l))))
    (λ (l : a + down ≤ s + e).
    sym (cond_above (s + e) (a + down) None (in_word (d * 10 ^ (s + e - (a + down)))) (in_word (d * 10 ^ (s + e - (a + down)))) l refl)
    ∙ sym (ap small (quotient_is (n * 10 ^ e) (d * 10 ^ (s + e - (a + down))) (10 ^ (f + down)) (tens_some (f + down)) (whole_scaled n d e s f down a h l))))
    (cases_lt (s + e) (a + down))

-- ---- the code's scaling ----

-- what a smaller power of ten does not hold a larger one doesn't
pub more_not_held : (n i j : ℕ) → i ≤ j → 2 ^ 64 ≤ n * 10 ^ i → None ≡ in_word (n * 10 ^ j)
more_not_held n i j l h =
    let e : 10 ^ j ≡ 10 ^ i * 10 ^ (j - i) = ap (λ z. 10 ^ z) (let f : j ≡ i + (j - i) = omega arith in f) ∙ tens_apart i (j - i) in
    let p : 0 < 10 ^ (j - i) = tens_some (j - i) in
    let q : n * 10 ^ i ≤ n * 10 ^ i * 10 ^ (j - i) = le-mul_of_pos_right (n * 10 ^ i) p in
    let r : n * 10 ^ j ≡ n * 10 ^ i * 10 ^ (j - i) = ap (λ z. n * z) e ∙ (let f : n * (10 ^ i * 10 ^ (j - i)) ≡ n * 10 ^ i * 10 ^ (j - i) = omega arith in f) in
    sym (not_held (n * 10 ^ j) (omega arith))

pub one_zero_more : (n i : ℕ) → n * 10 ^ (i + 1) ≡ n * 10 ^ i * 10
one_zero_more n i = ap (λ z. n * z) (tens_apart i 1) ∙ (let f : n * (10 ^ i * 10) ≡ n * 10 ^ i * 10 = omega arith in f)

module _ (d up down u v : ℕ) (some : 0 < d) (h : IsDifference up down u v) where
  pub below_scaled : up < down → None ≡ scaled_by d u v
  below_scaled l = ⊎_elim
      (λ (w : (up < down) × (u < v)). cond_below u v None (in_word (d * 10 ^ (u - v))) w.1)
      (λ (w : (down ≤ up) × (v ≤ u) × IsCapped 20 (up - down) (u - v)). absurd (omega (arith, w.0)))
      h

  pub not_below : down ≤ up → (v ≤ u) × IsCapped 20 (up - down) (u - v)
  not_below l = ⊎_elim
      (λ (w : (up < down) × (u < v)). absurd (omega (arith, w.0)))
      (λ (w : (down ≤ up) × (v ≤ u) × IsCapped 20 (up - down) (u - v)). (w.1, w.2))
      h

  above : (o : Option ℕ) → v ≤ u → o ≡ in_word (d * 10 ^ (u - v)) → o ≡ scaled_by d u v
  above o l e = cond_above u v None (in_word (d * 10 ^ (u - v))) o l e

  pub front_not_held : down ≤ up → None ≡ in_word d → None ≡ scaled_by d u v
  front_not_held l e =
      let w : (v ≤ u) × IsCapped 20 (up - down) (u - v) = not_below l in
      above None w.0 (⊎_elim
      (λ (x : d < 2 ^ 64). let no_way : ◌≡◌ {A = Option ℕ} None (Some d) = e ∙ held d x in let z : ⊥ = cc in absurd z)
      (λ (x : 2 ^ 64 ≤ d). more_not_held d 0 (u - v) (let z : 0 ≤ u - v = omega arith in z) (let z : 2 ^ 64 ≤ d * 10 ^ 0 = omega arith in z))
      (cases_lt d (2 ^ 64)))

  pub many_zeros : down ≤ up → 20 ≤ up - down → None ≡ scaled_by d u v
  many_zeros l m =
      let w : (v ≤ u) × IsCapped 20 (up - down) (u - v) = not_below l in
      let n : 20 ≤ u - v = ⊎_elim (λ (x : up - down ≡ u - v). let y : 20 ≤ u - v = omega arith in y) (λ (x : (20 ≤ up - down) × (20 ≤ u - v)). x.1) w.1 in
      above None w.0 (more_not_held d 20 (u - v) n (let z : 2 ^ 64 ≤ d * 10 ^ 20 = omega arith in z))

  pub few_zeros : down ≤ up → up - down < 20 → in_word (d * 10 ^ (up - down)) ≡ scaled_by d u v
  few_zeros l m =
      let w : (v ≤ u) × IsCapped 20 (up - down) (u - v) = not_below l in
      let n : up - down ≡ u - v = ⊎_elim (λ (x : up - down ≡ u - v). x) (λ (x : (20 ≤ up - down) × (20 ≤ u - v)). let y : up - down ≡ u - v = absurd (omega (arith, x.0)) in y) w.1 in
      above (in_word (d * 10 ^ (up - down))) w.0 (ap (λ z. in_word (d * 10 ^ z)) n)

-- ---- a number's parts ----

exact : (a b up down : ℕ) → IsDifference (a + up) (b + down) (a + up) (b + down)
exact a b up down = ⊎_elim (λ (l : a + up < b + down). inl (l, l)) (λ (l : b + down ≤ a + up). inr (l, l, inl refl)) (cases_lt (a + up) (b + down))

pub are_apart : (below : Bool) (e up down a b : ℕ) → a < 2 ^ 64 → b < 2 ^ 64 → ArePowers below e up down → IsDifference (a + up) (b + down) (a + cond below 0 e) (b + cond below e 0)
are_apart false e up down a b fa fb p = ⊎_elim
    (λ (x : up ≡ e). subst (λ z. IsDifference (a + up) (b + down) (a + z) (b + 0)) x (subst (λ z. IsDifference (a + up) (b + down) (a + up) (b + z)) p.1 (exact a b up down)))
    (λ (x : (2 ^ 100 ≤ up) × (2 ^ 100 ≤ e)). inr (omega (arith, x.0, p.1), omega (arith, x.1), inr (omega (arith, x.0, p.1), omega (arith, x.1))))
    p.0
are_apart true e up down a b fa fb p = ⊎_elim
    (λ (x : down ≡ e). subst (λ z. IsDifference (a + up) (b + down) (a + 0) (b + z)) x (subst (λ z. IsDifference (a + up) (b + down) (a + z) (b + down)) p.0 (exact a b up down)))
    (λ (x : (2 ^ 100 ≤ down) × (2 ^ 100 ≤ e)). inl (omega (arith, x.0, p.0), omega (arith, x.1)))
    p.1

pub some_there : (d : ℕ) → d % 10 ≢ 0 → 0 < d
some_there d h = ⊎_elim (λ (l : 0 < d). l) (λ (l : d ≤ 0). absurd (h (let e : d % 10 ≡ 0 = omega arith in e))) (cases_lt 0 d)

abbrev pub whole_of : ℕ → ℕ → ℕ → ℕ → Option ℕ
whole_of n e f down = small (quotient_of (n * 10 ^ e) (10 ^ (f + down)))

-- with digits left behind the point
pub behind_point : (whole fraction kept : List ℕ) (e down : ℕ) → IsTrimmed fraction kept → 0 < length kept
    → scaled_by (natural_from (natural_from 0 whole) kept) e (length kept + down) ≡ whole_of (natural_from 0 (whole ++ fraction)) e (length fraction) down
behind_point whole fraction kept e down t some =
    let w : ℕ = natural_from 0 whole in
    let v : natural_from w fraction ≡ natural_from w kept * 10 ^ (length fraction - length kept) = t.value w in
    let j : natural_from 0 (whole ++ fraction) ≡ natural_from w fraction = joined 0 whole fraction in
    let p : 10 ^ length fraction ≡ 10 ^ (length fraction - length kept) * 10 ^ length kept = ap (λ z. 10 ^ z) (let x : length fraction ≡ length fraction - length kept + length kept = let y : length kept ≤ length fraction = t.fewer in omega arith in x) ∙ tens_apart (length fraction - length kept) (length kept) in
    let h : natural_from 0 (whole ++ fraction) * 10 ^ length kept ≡ natural_from w kept * 10 ^ 0 * 10 ^ length fraction =
    ap (λ z. z * 10 ^ length kept) (j ∙ v) ∙ (let x : natural_from w kept * 10 ^ (length fraction - length kept) * 10 ^ length kept ≡ natural_from w kept * 10 ^ 0 * (10 ^ (length fraction - length kept) * 10 ^ length kept) = omega arith in x)
    ∙ ap (λ z. natural_from w kept * 10 ^ 0 * z) (sym p) in
    ap (λ z. scaled_by (natural_from w kept) z (length kept + down)) (sym (zero-add e))
    ∙ scaled_is (natural_from 0 (whole ++ fraction)) (natural_from w kept) e 0 (length fraction) down (length kept) h (t.last some w)

-- with none, and digits left before it
pub before_point : (whole fraction kept : List ℕ) (e down : ℕ) → IsTrimmed fraction [] → IsTrimmed whole kept → 0 < length kept
    → scaled_by (natural_from 0 kept) (length whole - length kept + e) down ≡ whole_of (natural_from 0 (whole ++ fraction)) e (length fraction) down
before_point whole fraction kept e down none t some =
    let w : ℕ = natural_from 0 whole in
    let v : natural_from w fraction ≡ w * 10 ^ length fraction = none.value w ∙ ap (λ z. w * 10 ^ z) (let z : length fraction - 0 ≡ length fraction = omega arith in z) in
    let x : w ≡ natural_from 0 kept * 10 ^ (length whole - length kept) = t.value 0 in
    let h : natural_from 0 (whole ++ fraction) * 10 ^ 0 ≡ natural_from 0 kept * 10 ^ (length whole - length kept) * 10 ^ length fraction =
    (let y : natural_from 0 (whole ++ fraction) * 10 ^ 0 ≡ natural_from 0 (whole ++ fraction) = omega arith in y) ∙ joined 0 whole fraction ∙ v ∙ ap (λ z. z * 10 ^ length fraction) x in
    ap (scaled_by (natural_from 0 kept) (length whole - length kept + e)) (let y : down ≡ 0 + down = omega arith in y)
    ∙ scaled_is (natural_from 0 (whole ++ fraction)) (natural_from 0 kept) e (length whole - length kept) (length fraction) down 0 h (t.last some 0)

-- with none at all
pub nothing_left : (whole fraction : List ℕ) (e down : ℕ) → IsTrimmed fraction [] → IsTrimmed whole [] → Some 0 ≡ whole_of (natural_from 0 (whole ++ fraction)) e (length fraction) down
nothing_left whole fraction e down none t =
    let w : ℕ = natural_from 0 whole in
    let v : natural_from w fraction ≡ w * 10 ^ length fraction = none.value w ∙ ap (λ z. w * 10 ^ z) (let z : length fraction - 0 ≡ length fraction = omega arith in z) in
    let x : w ≡ 0 * 10 ^ length whole = t.value 0 ∙ ap (λ z. 0 * 10 ^ z) (let z : length whole - 0 ≡ length whole = omega arith in z) in
    let z : natural_from 0 (whole ++ fraction) ≡ 0 = joined 0 whole fraction ∙ v ∙ ap (λ y. y * 10 ^ length fraction) x ∙ (let y : 0 * 10 ^ length whole * 10 ^ length fraction ≡ 0 = omega arith in y) in
    sym (ap small (quotient_is (natural_from 0 (whole ++ fraction) * 10 ^ e) 0 (10 ^ (length fraction + down)) (tens_some (length fraction + down))
    (ap (λ y. y * 10 ^ e) z ∙ (let y : 0 * 10 ^ e ≡ 0 * 10 ^ (length fraction + down) = omega arith in y))))

-- with no point and no exponent
pub plain : (whole : List ℕ) → in_word (natural_from 0 whole) ≡ whole_of (natural_from 0 (whole ++ [])) 0 0 0
plain whole =
    sym (ap small (quotient_is (natural_from 0 (whole ++ []) * 10 ^ 0) (natural_from 0 whole) (10 ^ 0) (lit< tt)
    (ap (λ y. y * 10 ^ 0) (joined 0 whole []))))
