-- A number has one decimal.
use Rattle.std.proofs.Common.{ℕ, suc, ◌≡◌, ◌+◌, ◌-◌, ◌*◌, ◌%◌, ◌^◌, ◌<◌, ◌≤◌, ⊎_elim, Bool, true, false, sym, ap, ◌∙◌, subst, arith, lit<}
use Rattle.std.proofs.Math.Nat.{pow-suc}
use Rattle.std.proofs.lemmas.Nat.{mul-le, pow-add}
use Rattle.std.proofs.lemmas.Bool.{cases_lt, cases_order, ltb-true, leb-true, lt-ltb, le-leb}
use lib.IntN.{ℤ, pos, negsuc}
use Rattle.capnp_floats.specs.Shortest.{Interval, IsRounded, IsShortest, Lies, away, in_units, reaches, tens, tenths}
use Rattle.capnp_floats.specs.Floats.{interval_of, significand}
use Rattle.capnp_floats.specs.Laws.{OneDecimal}
use Rattle.capnp_floats.proofs.Rounding.{high_scaled, low_scaled}
use Rattle.capnp_floats.proofs.Nearing.{power_positive}
use Rattle.capnp_floats.proofs.ReadBack.{between_is_nearer}

pub reaches_from : (ends : Bool) (x x' y : ℕ) → x ≤ x' → reaches ends x y ≡ true → reaches ends x' y ≡ true
reaches_from true x x' y h r = let l : y ≤ x = leb-true y x r in le-leb y x' (omega arith)
reaches_from false x x' y h r = let l : y < x = ltb-true y x r in lt-ltb y x' (omega arith)

pub reaches_down : (ends : Bool) (x y y' : ℕ) → y' ≤ y → reaches ends x y ≡ true → reaches ends x y' ≡ true
reaches_down true x y y' h r = let l : y ≤ x = leb-true y x r in le-leb y' x (omega arith)
reaches_down false x y y' h r = let l : y < x = ltb-true y x r in lt-ltb y' x (omega arith)

-- of one interval one natural alone is meant
lies_between : (i : Interval) (a b : ℕ) → a < b → Lies i a → Lies i b → Lies i (a + 1)
lies_between i a b h x y =
    let p : a * i.one ≤ (a + 1) * i.one = mul-le a i.one (a + 1) i.one (omega arith) (omega arith) in
    let q : (a + 1) * i.one ≤ b * i.one = mul-le (a + 1) i.one b i.one (omega arith) (omega arith) in
    record {
      above_low = reaches_from i.has_ends (a * i.one + i.below) ((a + 1) * i.one + i.below) i.value (omega arith) x.above_low;
      below_high = reaches_down i.has_ends (i.value + i.above) (b * i.one) ((a + 1) * i.one) q y.below_high;
    }

not_two_rounded : (i : Interval) (a b : ℕ) → 0 < i.one → a < b → IsRounded i a → IsRounded i b → ⊥
not_two_rounded i a b p l x y = ⊎_elim
    (λ (m : away i a < away i b). ⊎_elim
    (λ (n : away i b < away i a). absurd (omega arith))
    (λ n. let e : away i b ≡ away i a = n.0 in absurd (omega arith))
    (y.nearest a x.lies (λ e. omega arith)))
    (λ m.
    let e : away i a ≡ away i b = m.0 in
    let even : a % 2 ≡ 0 = m.1 in
    ⊎_elim
    (λ (n : away i b < away i a). absurd (omega arith))
    (λ n.
    let even' : b % 2 ≡ 0 = n.1 in
    let low : a * i.one < (a + 1) * i.one = omega arith in
    let high' : (a + 2) * i.one ≤ b * i.one = mul-le (a + 2) i.one b i.one (omega arith) (omega arith) in
    let high : (a + 1) * i.one < b * i.one = omega arith in
    between_is_nearer (a * i.one) (b * i.one) ((a + 1) * i.one) i.value low high e
    (⊎_elim
    (λ (o : away i a < away i (a + 1)). let q : away i a ≤ away i (a + 1) = omega arith in q)
    (λ o. let r : away i a ≡ away i (a + 1) = o.0 in let q : away i a ≤ away i (a + 1) = omega arith in q)
    (x.nearest (a + 1) (lies_between i a b l x.lies y.lies) (λ r. omega arith))))
    (y.nearest a x.lies (λ r. omega arith)))
    (x.nearest b y.lies (λ r. omega arith))

one_rounded : (i : Interval) (a b : ℕ) → 0 < i.one → IsRounded i a → IsRounded i b → a ≡ b
one_rounded i a b p x y = ⊎_elim (λ e. e) (λ m. ⊎_elim
    (λ (l : a < b). absurd (not_two_rounded i a b p l x y))
    (λ (l : b < a). absurd (not_two_rounded i b a p l y x)) m) (cases_order a b)

-- ---- over other units ----

split : (x i j : ℕ) → x * 10 ^ (i + j) ≡ x * 10 ^ i * 10 ^ j
split x i j = ap (λ z. x * z) (pow-add 10 i j) ∙ (let f : x * (10 ^ i * 10 ^ j) ≡ x * 10 ^ i * 10 ^ j = omega arith in f)

scaled_low : (i : Interval) (up down j n : ℕ) → reaches i.has_ends (n * (i.one * 10 ^ (up + j)) + i.below * 10 ^ (down + j)) (i.value * 10 ^ (down + j))
    ≡ reaches i.has_ends (n * (i.one * 10 ^ up) + i.below * 10 ^ down) (i.value * 10 ^ down)
scaled_low i up down j n =
    ap (λ z. reaches i.has_ends (n * z + i.below * 10 ^ (down + j)) (i.value * 10 ^ (down + j))) (split i.one up j)
    ∙ ap (λ z. reaches i.has_ends (n * (i.one * 10 ^ up * 10 ^ j) + z) (i.value * 10 ^ (down + j))) (split i.below down j)
    ∙ ap (λ z. reaches i.has_ends (n * (i.one * 10 ^ up * 10 ^ j) + i.below * 10 ^ down * 10 ^ j) z) (split i.value down j)
    ∙ low_scaled i.has_ends (10 ^ j) (i.one * 10 ^ up) (i.value * 10 ^ down) (i.below * 10 ^ down) n (power_positive 10 j (lit< tt))

scaled_high : (i : Interval) (up down j n : ℕ) → reaches i.has_ends (i.value * 10 ^ (down + j) + i.above * 10 ^ (down + j)) (n * (i.one * 10 ^ (up + j)))
    ≡ reaches i.has_ends (i.value * 10 ^ down + i.above * 10 ^ down) (n * (i.one * 10 ^ up))
scaled_high i up down j n =
    ap (λ z. reaches i.has_ends (i.value * 10 ^ (down + j) + i.above * 10 ^ (down + j)) (n * z)) (split i.one up j)
    ∙ ap (λ z. reaches i.has_ends (z + i.above * 10 ^ (down + j)) (n * (i.one * 10 ^ up * 10 ^ j))) (split i.value down j)
    ∙ ap (λ z. reaches i.has_ends (i.value * 10 ^ down * 10 ^ j + z) (n * (i.one * 10 ^ up * 10 ^ j))) (split i.above down j)
    ∙ high_scaled i.has_ends (10 ^ j) (i.one * 10 ^ up) (i.value * 10 ^ down) (i.above * 10 ^ down) n (power_positive 10 j (lit< tt))

lies_more : (i : Interval) (up down j n : ℕ) → Lies (in_units up down i) n → Lies (in_units (up + j) (down + j) i) n
lies_more i up down j n l = record { above_low = scaled_low i up down j n ∙ l.above_low; below_high = scaled_high i up down j n ∙ l.below_high }

lies_less : (i : Interval) (up down j n : ℕ) → Lies (in_units (up + j) (down + j) i) n → Lies (in_units up down i) n
lies_less i up down j n l = record { above_low = sym (scaled_low i up down j n) ∙ l.above_low; below_high = sym (scaled_high i up down j n) ∙ l.below_high }

-- a natural of greater units is a multiple of ten of smaller ones
tens_of_tens : (one n up j : ℕ) → n * (one * 10 ^ (up + suc j)) ≡ 10 * (n * 10 ^ j) * (one * 10 ^ up)
tens_of_tens one n up j =
    ap (λ z. n * (one * z)) (pow-add 10 up (suc j)) ∙ ap (λ z. n * (one * (10 ^ up * z))) (pow-suc 10 j)
    ∙ products n one (10 ^ up) (10 ^ j)
  where
    products : (n one u v : ℕ) → n * (one * (u * (v * 10))) ≡ 10 * (n * v) * (one * u)
    products n one u v = omega arith

lies_as_tens : (i : Interval) (up down j n : ℕ) → Lies (in_units (up + suc j) down i) n → Lies (in_units up down i) (10 * (n * 10 ^ j))
lies_as_tens i up down j n l = record {
  above_low = ap (λ z. reaches i.has_ends (z + i.below * 10 ^ down) (i.value * 10 ^ down)) (sym (tens_of_tens i.one n up j)) ∙ l.above_low;
  below_high = ap (λ z. reaches i.has_ends (i.value * 10 ^ down + i.above * 10 ^ down) z) (sym (tens_of_tens i.one n up j)) ∙ l.below_high;
}

-- a smaller power is not the greatest
not_smaller : (i : Interval) (d d' : ℕ) (k k' : ℤ) → tens k + tenths k' < tens k' + tenths k → IsShortest i d k → IsShortest i d' k' → ⊥
not_smaller i d d' k k' h x y =
    let j : ℕ = tens k' + tenths k - (tens k + tenths k') - 1 in
    let e : tens k' + tenths k ≡ tens k + tenths k' + suc (tens k' + tenths k - (tens k + tenths k') - 1) = omega arith in
    let f : tenths k' + tenths k ≡ tenths k + tenths k' = omega arith in
    let l : Lies (in_units (tens k' + tenths k) (tenths k' + tenths k) i) d' = lies_more i (tens k') (tenths k') (tenths k) d' y.lies in
    x.coarsest (d' * 10 ^ (tens k' + tenths k - (tens k + tenths k') - 1))
    (lies_less i (tens k) (tenths k) (tenths k') (10 * (d' * 10 ^ (tens k' + tenths k - (tens k + tenths k') - 1)))
    (lies_as_tens i (tens k + tenths k') (tenths k + tenths k') (tens k' + tenths k - (tens k + tenths k') - 1) d'
    (subst (λ z. Lies (in_units z (tenths k + tenths k') i) d') e (subst (λ z. Lies (in_units (tens k' + tenths k) z i) d') f l))))

same_power : (k k' : ℤ) → tens k + tenths k' ≡ tens k' + tenths k → k ≡ k'
same_power (pos n) (pos m) h = ap pos (omega arith)
same_power (pos n) (negsuc m) h = absurd (omega arith)
same_power (negsuc n) (pos m) h = absurd (omega arith)
same_power (negsuc n) (negsuc m) h = ap negsuc (omega arith)

one_shortest : (i : Interval) (d d' : ℕ) (k k' : ℤ) → 0 < i.one → IsShortest i d k → IsShortest i d' k' → (d ≡ d') × (k ≡ k')
one_shortest i d d' k k' p x y = ⊎_elim
    (λ (e : tens k + tenths k' ≡ tens k' + tenths k).
    let same : k ≡ k' = same_power k k' e in
    let y' : IsShortest i d' k = subst (λ z. IsShortest i d' z) (sym same) y in
    let q : 0 < 10 ^ tens k = power_positive 10 (tens k) (lit< tt) in
    let r : 1 * 1 ≤ i.one * 10 ^ tens k = mul-le 1 1 i.one (10 ^ tens k) (omega arith) (omega arith) in
    (one_rounded (in_units (tens k) (tenths k) i) d d' (omega arith) x y', same))
    (λ m. ⊎_elim
    (λ (l : tens k + tenths k' < tens k' + tenths k). absurd (not_smaller i d d' k k' l x y))
    (λ (l : tens k' + tenths k < tens k + tenths k'). absurd (not_smaller i d' d k' k l y x))
    m)
    (cases_order (tens k + tenths k') (tens k' + tenths k))

pub one_decimal : OneDecimal
one_decimal w bits d d' k k' x y = ⊎_elim
    (λ (l : 0 < significand w bits). one_shortest (interval_of w bits) d d' k k' (power_positive 2 _ (lit< tt)) (x.shortest l) (y.shortest l))
    (λ (l : significand w bits ≤ 0).
    let e : significand w bits ≡ 0 = omega arith in
    ((x.zero_is e).0 ∙ sym (y.zero_is e).0, (x.zero_is e).1 ∙ sym (y.zero_is e).1))
    (cases_lt 0 (significand w bits))
