-- Numbers in the order of their bits, and which of two is the nearest to a decimal.
use Rattle.std.proofs.Common.{ℕ, zero, suc, ◌≡◌, ◌+◌, ◌-◌, ◌*◌, ◌/◌, ◌%◌, ◌^◌, ◌<◌, ◌≤◌, ◌==◌, ◌⊎◌, ⊎_elim, inl, inr, false, not, cond, ltb, leb, refl, sym, ap, ◌∙◌, subst, arith, lit<, lit≤}
use Rattle.std.proofs.Math.Nat.{pow-suc, pow-zero, pow-le-pow_right, mul-lt-mul_of_pos_right}
use Rattle.std.proofs.lemmas.Nat.{mul-le, pow-add}
use Rattle.std.proofs.lemmas.Bool.{cases_lt, cases_order, lt-ltb, le-ltb, le-leb, lt-leb}
use Rattle.std.proofs.lemmas.Bool.Decides.{nat_tests}
use lib.IntN.{ℤ, pos, negsuc}
use Rattle.capnp_floats.specs.declared.width.Width.{Width}
use Rattle.capnp_floats.specs.declared.width.Width.TheVariants.{Float32, Float64}
use Rattle.capnp_floats.specs.Naturals.{large_room}
use Rattle.capnp_floats.specs.Shortest.{tens, tenths}
use Rattle.capnp_floats.specs.Floats.{place, significand}
use Rattle.capnp_floats.specs.Nearest.{IsNearest, IsPastRange, decimal_numbers, far_from, infinity_bits, least_numbers, least_places, twice_last_middle}
use Rattle.capnp_floats.specs.Steps.Nearing.{IsChosen, TakesNearer, twice_middle}

-- ---- powers ----

pub power_positive : (b n : ℕ) → 0 < b → 0 < b ^ n
power_positive b zero h = let e : b ^ 0 ≡ 1 = pow-zero b in omega arith
power_positive b (suc n) h =
    let p : 0 < b ^ n = power_positive b n h in
    let e : b ^ suc n ≡ b ^ n * b = pow-suc b n in
    let q : 1 * 1 ≤ b ^ n * b = mul-le 1 1 (b ^ n) b (omega arith) (omega arith) in
    omega arith

-- one factor and the others
pub factor_split : (x b left : ℕ) → 0 < left → x * b ^ left ≡ x * b * b ^ (left - 1)
factor_split x b zero h = absurd (omega arith)
factor_split x b (suc n) h =
    ap (λ z. x * z) (pow-suc b n) ∙ (let f : x * (b ^ n * b) ≡ x * b * b ^ n = omega arith in f)
    ∙ ap (λ z. x * b * b ^ z) (let e : n ≡ suc n - 1 = omega arith in e)

pub factor_fits : (x b left room : ℕ) → 0 < b → 0 < left → x * b ^ left < room → x * b < room
factor_fits x b left room p h f =
    let e : x * b ^ left ≡ x * b * b ^ (left - 1) = factor_split x b left h in
    let q : 0 < b ^ (left - 1) = power_positive b (left - 1) p in
    let m : x * b * 1 ≤ x * b * b ^ (left - 1) = mul-le (x * b) 1 (x * b) (b ^ (left - 1)) (omega arith) (omega arith) in
    omega arith

-- so many factors and the others
pub factors_split : (x b few left : ℕ) → few ≤ left → x * b ^ left ≡ x * b ^ few * b ^ (left - few)
factors_split x b few left h =
    ap (λ z. x * b ^ z) (let e : left ≡ few + (left - few) = omega arith in e) ∙ ap (λ z. x * z) (pow-add b few (left - few))
    ∙ (let f : x * (b ^ few * b ^ (left - few)) ≡ x * b ^ few * b ^ (left - few) = omega arith in f)

pub factors_fit : (x b few left room : ℕ) → 0 < b → few ≤ left → x * b ^ left < room → x * b ^ few < room
factors_fit x b few left room p h f =
    let e : x * b ^ left ≡ x * b ^ few * b ^ (left - few) = factors_split x b few left h in
    let q : 0 < b ^ (left - few) = power_positive b (left - few) p in
    let m : x * b ^ few * 1 ≤ x * b ^ few * b ^ (left - few) = mul-le (x * b ^ few) 1 (x * b ^ few) (b ^ (left - few)) (omega arith) (omega arith) in
    omega arith

pub large_fits : (n p z : ℕ) → n < 2 ^ 65 → p < 2048 → z ≤ 1152 → n * 2 ^ p * 10 ^ z < large_room
unfolding large_room
large_fits n p z h f g =
    let x : 2 ^ p ≤ 2 ^ 2048 = pow-le-pow_right {n = 2} (lit< tt) {i = p} {j = 2048} (omega arith) in
    let y : 10 ^ z ≤ 10 ^ 1152 = pow-le-pow_right {n = 10} (lit< tt) {i = z} {j = 1152} (omega arith) in
    let m : n * 2 ^ p ≤ 2 ^ 65 * 2 ^ 2048 = mul-le n (2 ^ p) (2 ^ 65) (2 ^ 2048) (omega arith) x in
    let o : n * 2 ^ p * 10 ^ z ≤ 2 ^ 65 * 2 ^ 2048 * 10 ^ 1152 = mul-le (n * 2 ^ p) (10 ^ z) (2 ^ 65 * 2 ^ 2048) (10 ^ 1152) m y in
    omega arith

pub large_fits_twice : (n p : ℕ) → n < 2 ^ 65 → p < 2048 → n * 2 ^ p < large_room
large_fits_twice n p h f = let m : n * 2 ^ p * 10 ^ 0 < large_room = large_fits n p 0 h f (omega arith) in omega arith

-- ---- numbers in the order of their bits ----

pub not_below : (x y : ℕ) → not (ltb y x) ≡ leb x y
not_below x y = ⊎_elim
    (λ (l : y < x). ap not (lt-ltb y x l) ∙ sym (lt-leb x y l))
    (λ (m : x ≤ y). ap not (le-ltb y x m) ∙ sym (le-leb x y m))
    (cases_lt y x)

-- a number by its exponent and its fraction
abbrev value_at : ℕ → ℕ → ℕ → ℕ
value_at end exponent fraction = cond (exponent == 0) fraction (fraction + end) * 2 ^ (exponent - 1)

value_normal : (end e f : ℕ) → value_at end (suc e) f ≡ (f + end) * 2 ^ e
value_normal end e f =
    ap (λ t. cond t f (f + end) * 2 ^ (suc e - 1)) (let t : (suc e == 0) ≡ false = grind (arith, nat_tests) in t)
    ∙ ap (λ z. (f + end) * 2 ^ z) (let t : suc e - 1 ≡ e = omega arith in t)

next_fraction : (end e f : ℕ) → value_at end e (f + 1) ≡ value_at end e f + 2 ^ (e - 1)
next_fraction end zero f = omega arith
next_fraction end (suc e) f =
    let a : value_at end (suc e) (f + 1) ≡ (f + 1 + end) * 2 ^ e = value_normal end e (f + 1) in
    let b : value_at end (suc e) f ≡ (f + end) * 2 ^ e = value_normal end e f in
    let c : 2 ^ (suc e - 1) ≡ 2 ^ e = ap (λ z. 2 ^ z) (let t : suc e - 1 ≡ e = omega arith in t) in
    a ∙ (let t : (f + 1 + end) * 2 ^ e ≡ (f + end) * 2 ^ e + 2 ^ e = omega arith in t) ∙ ap (λ z. z + 2 ^ e) (sym b) ∙ ap (λ z. value_at end (suc e) f + z) (sym c)

next_exponent : (end e f : ℕ) → f + 1 ≡ end → value_at end (e + 1) 0 ≡ value_at end e f + 2 ^ (e - 1)
next_exponent end zero f h = omega arith
next_exponent end (suc e) f h =
    let a : value_at end (suc (suc e)) 0 ≡ (0 + end) * 2 ^ suc e = value_normal end (suc e) 0 in
    let b : value_at end (suc e) f ≡ (f + end) * 2 ^ e = value_normal end e f in
    let c : 2 ^ (suc e - 1) ≡ 2 ^ e = ap (λ z. 2 ^ z) (let t : suc e - 1 ≡ e = omega arith in t) in
    let p : 2 ^ suc e ≡ 2 ^ e * 2 = pow-suc 2 e in
    ap (λ z. value_at end z 0) (let t : suc e + 1 ≡ suc (suc e) = omega arith in t) ∙ a
    ∙ ap (λ z. (0 + end) * z) p
    ∙ ap (λ z. (0 + z) * (2 ^ e * 2)) (sym h)
    ∙ (let t : (0 + (f + 1)) * (2 ^ e * 2) ≡ (f + (f + 1)) * 2 ^ e + 2 ^ e = omega arith in t)
    ∙ ap (λ z. (f + z) * 2 ^ e + 2 ^ e) h
    ∙ ap (λ z. z + 2 ^ e) (sym b) ∙ ap (λ z. value_at end (suc e) f + z) (sym c)

-- the next number is one in the last place more
pub next_number : (w : Width) (b : ℕ) → b < infinity_bits w → least_numbers w (b + 1) ≡ least_numbers w b + 2 ^ place w b
unfolding least_numbers
next_number Float32 b h = ⊎_elim
    (λ (m : b % 2 ^ 23 + 1 < 2 ^ 23).
    ap (λ z. value_at (2 ^ 23) z ((b + 1) % 2 ^ 23)) (let e : (b + 1) / 2 ^ 23 % 2 ^ 8 ≡ b / 2 ^ 23 % 2 ^ 8 = omega arith in e)
    ∙ ap (λ z. value_at (2 ^ 23) (b / 2 ^ 23 % 2 ^ 8) z) (let e : (b + 1) % 2 ^ 23 ≡ b % 2 ^ 23 + 1 = omega arith in e)
    ∙ next_fraction (2 ^ 23) (b / 2 ^ 23 % 2 ^ 8) (b % 2 ^ 23))
    (λ (m : 2 ^ 23 ≤ b % 2 ^ 23 + 1).
    ap (λ z. value_at (2 ^ 23) z ((b + 1) % 2 ^ 23)) (let e : (b + 1) / 2 ^ 23 % 2 ^ 8 ≡ b / 2 ^ 23 % 2 ^ 8 + 1 = omega arith in e)
    ∙ ap (λ z. value_at (2 ^ 23) (b / 2 ^ 23 % 2 ^ 8 + 1) z) (let e : (b + 1) % 2 ^ 23 ≡ 0 = omega arith in e)
    ∙ next_exponent (2 ^ 23) (b / 2 ^ 23 % 2 ^ 8) (b % 2 ^ 23) (omega arith))
    (cases_lt (b % 2 ^ 23 + 1) (2 ^ 23))
next_number Float64 b h = ⊎_elim
    (λ (m : b % 2 ^ 52 + 1 < 2 ^ 52).
    ap (λ z. value_at (2 ^ 52) z ((b + 1) % 2 ^ 52)) (let e : (b + 1) / 2 ^ 52 % 2 ^ 11 ≡ b / 2 ^ 52 % 2 ^ 11 = omega arith in e)
    ∙ ap (λ z. value_at (2 ^ 52) (b / 2 ^ 52 % 2 ^ 11) z) (let e : (b + 1) % 2 ^ 52 ≡ b % 2 ^ 52 + 1 = omega arith in e)
    ∙ next_fraction (2 ^ 52) (b / 2 ^ 52 % 2 ^ 11) (b % 2 ^ 52))
    (λ (m : 2 ^ 52 ≤ b % 2 ^ 52 + 1).
    ap (λ z. value_at (2 ^ 52) z ((b + 1) % 2 ^ 52)) (let e : (b + 1) / 2 ^ 52 % 2 ^ 11 ≡ b / 2 ^ 52 % 2 ^ 11 + 1 = omega arith in e)
    ∙ ap (λ z. value_at (2 ^ 52) (b / 2 ^ 52 % 2 ^ 11 + 1) z) (let e : (b + 1) % 2 ^ 52 ≡ 0 = omega arith in e)
    ∙ next_exponent (2 ^ 52) (b / 2 ^ 52 % 2 ^ 11) (b % 2 ^ 52) (omega arith))
    (cases_lt (b % 2 ^ 52 + 1) (2 ^ 52))

pub numbers_are : (w : Width) (b : ℕ) → least_numbers w b ≡ significand w b * 2 ^ place w b
unfolding least_numbers
numbers_are w b = refl

-- twice the middle behind a number is an odd number of halves of its last place
pub middle_is : (w : Width) (low n p z m : ℕ) → low < infinity_bits w → n ≡ significand w low → p ≡ place w low
    → m ≡ (2 * n + 1) * 2 ^ p * 10 ^ z → m ≡ twice_middle w (10 ^ z) low
middle_is w low n p z m h en ep em =
    em ∙ ap (λ x. (2 * x + 1) * 2 ^ p * 10 ^ z) en ∙ ap (λ x. (2 * significand w low + 1) * 2 ^ x * 10 ^ z) ep
    ∙ odd_halves (significand w low) (2 ^ place w low) (10 ^ z)
    ∙ ap (λ x. (x + (x + 2 ^ place w low)) * 10 ^ z) (sym (numbers_are w low))
    ∙ ap (λ x. (least_numbers w low + x) * 10 ^ z) (sym (next_number w low h))
  where
    odd_halves : (s u t : ℕ) → (2 * s + 1) * u * t ≡ (s * u + (s * u + u)) * t
    odd_halves s u t = omega arith

-- a decimal as it is made
pub decimal_is : (d up p q r : ℕ) → r ≡ d * 2 ^ p * 10 ^ up → p ≡ q → r ≡ d * 10 ^ up * 2 ^ q
decimal_is d up p q r e f = e ∙ ap (λ z. d * 2 ^ z * 10 ^ up) f ∙ (let g : d * 2 ^ q * 10 ^ up ≡ d * 10 ^ up * 2 ^ q = omega arith in g)

pub twice_is : (d up p q r : ℕ) → r ≡ d * 2 ^ (p + 1) * 10 ^ up → p ≡ q → r ≡ 2 * (d * 10 ^ up * 2 ^ q)
twice_is d up p q r e f =
    e ∙ ap (λ z. d * 2 ^ (z + 1) * 10 ^ up) f ∙ ap (λ z. d * z * 10 ^ up) (pow-add 2 q 1)
    ∙ (let g : d * (2 ^ q * 2) * 10 ^ up ≡ 2 * (d * 10 ^ up * 2 ^ q) = omega arith in g)

-- where neither is less than the other, the even one is taken
pub takes_even : (w : Width) (twice parts low : ℕ) → twice ≡ twice_middle w parts low → TakesNearer w twice parts low (low + low % 2)
takes_even w twice parts low e = ⊎_elim
    (λ (m : low % 2 < 1). inl (omega arith, inr (e, omega arith)))
    (λ (m : 1 ≤ low % 2). inr (omega arith, inr (e, omega arith)))
    (cases_lt (low % 2) 1)

pub chosen_of : (w : Width) (d up down bits : ℕ) (k : ℤ) → IsChosen w (d * 10 ^ up * 2 ^ least_places w) (10 ^ down) bits → up ≡ tens k → down ≡ tenths k
    → IsChosen w (decimal_numbers w d k) (10 ^ tenths k) bits
chosen_of w d up down bits k c e f =
    subst (λ z. IsChosen w (decimal_numbers w d k) (10 ^ z) bits) f
    (subst (λ z. IsChosen w (d * 10 ^ z * 2 ^ least_places w) (10 ^ down) bits) e c)

pub zero_number : (w : Width) → least_numbers w 0 ≡ 0
unfolding least_numbers
zero_number Float32 = refl
zero_number Float64 = refl

numbers_rise : (w : Width) (a n : ℕ) → a + n ≤ infinity_bits w → least_numbers w a ≤ least_numbers w (a + n)
numbers_rise w a zero h = let e : least_numbers w (a + 0) ≡ least_numbers w a = ap (least_numbers w) (let f : a + 0 ≡ a = omega arith in f) in omega arith
numbers_rise w a (suc n) h =
    let r : least_numbers w a ≤ least_numbers w (a + n) = numbers_rise w a n (omega arith) in
    let s : least_numbers w (a + n + 1) ≡ least_numbers w (a + n) + 2 ^ place w (a + n) = next_number w (a + n) (omega arith) in
    let e : least_numbers w (a + suc n) ≡ least_numbers w (a + n + 1) = ap (least_numbers w) (let f : a + suc n ≡ a + n + 1 = omega arith in f) in
    omega arith

pub at_least : (w : Width) (a b : ℕ) → a ≤ b → b ≤ infinity_bits w → least_numbers w a ≤ least_numbers w b
at_least w a b h f =
    let r : least_numbers w a ≤ least_numbers w (a + (b - a)) = numbers_rise w a (b - a) (omega arith) in
    let e : least_numbers w (a + (b - a)) ≡ least_numbers w b = ap (least_numbers w) (let g : a + (b - a) ≡ b = omega arith in g) in
    omega arith

pub more_than : (w : Width) (a b : ℕ) → a < b → b ≤ infinity_bits w → least_numbers w a < least_numbers w b
more_than w a b h f =
    let s : least_numbers w (a + 1) ≡ least_numbers w a + 2 ^ place w a = next_number w a (omega arith) in
    let p : 0 < 2 ^ place w a = power_positive 2 (place w a) (lit< tt) in
    let r : least_numbers w (a + 1) ≤ least_numbers w b = at_least w (a + 1) b (omega arith) f in
    omega arith

-- the same of so many parts
pub at_least_parts : (w : Width) (t a b : ℕ) → a ≤ b → b ≤ infinity_bits w → least_numbers w a * t ≤ least_numbers w b * t
at_least_parts w t a b h f = mul-le (least_numbers w a) t (least_numbers w b) t (at_least w a b h f) (omega arith)

pub more_than_parts : (w : Width) (t a b : ℕ) → 0 < t → a < b → b ≤ infinity_bits w → least_numbers w a * t < least_numbers w b * t
more_than_parts w t a b p h f = mul-lt-mul_of_pos_right {m = least_numbers w a} {n = least_numbers w b} {k = t} (more_than w a b h f) p

-- the largest number's bits are odd
even_is_not_last : (w : Width) (low : ℕ) → low < infinity_bits w → low % 2 ≡ 0 → low + 1 < infinity_bits w
even_is_not_last Float32 low h e = omega arith
even_is_not_last Float64 low h e = omega arith

some_infinity : (w : Width) → 0 < infinity_bits w
some_infinity Float32 = lit< tt
some_infinity Float64 = lit< tt

-- ---- the nearest ----

pub low_is_nearest : (w : Width) (d low : ℕ) (k : ℤ) → low < infinity_bits w → least_numbers w low * 10 ^ tenths k ≤ decimal_numbers w d k
    → (2 * decimal_numbers w d k < twice_middle w (10 ^ tenths k) low) ⊎ ((2 * decimal_numbers w d k ≡ twice_middle w (10 ^ tenths k) low) × (low % 2 ≡ 0))
    → IsNearest w d k low
low_is_nearest w d low k finite at_most half =
    let t : ℕ = 10 ^ tenths k in
    let p : 0 < 10 ^ tenths k = power_positive 10 (tenths k) (lit< tt) in
    let s : 0 < infinity_bits w = some_infinity w in
    record {
      finite = finite;
      in_range = ⊎_elim
          (λ (m : 2 * decimal_numbers w d k < twice_middle w (10 ^ tenths k) low).
          let a : least_numbers w low * 10 ^ tenths k ≤ least_numbers w (infinity_bits w - 1) * 10 ^ tenths k = at_least_parts w (10 ^ tenths k) low (infinity_bits w - 1) (omega arith) (omega arith) in
          let b : least_numbers w (low + 1) * 10 ^ tenths k ≤ least_numbers w (infinity_bits w) * 10 ^ tenths k = at_least_parts w (10 ^ tenths k) (low + 1) (infinity_bits w) (omega arith) (omega arith) in
          omega arith)
          (λ m.
          let e : 2 * decimal_numbers w d k ≡ twice_middle w (10 ^ tenths k) low = m.0 in
          let l : low + 1 < infinity_bits w = even_is_not_last w low finite m.1 in
          let a : least_numbers w low * 10 ^ tenths k ≤ least_numbers w (infinity_bits w - 1) * 10 ^ tenths k = at_least_parts w (10 ^ tenths k) low (infinity_bits w - 1) (omega arith) (omega arith) in
          let b : least_numbers w (low + 1) * 10 ^ tenths k < least_numbers w (infinity_bits w) * 10 ^ tenths k = more_than_parts w (10 ^ tenths k) (low + 1) (infinity_bits w) p (omega arith) (omega arith) in
          omega arith)
          half;
      nearest = λ c below other. ⊎_elim
          (λ (m : c < low).
          let b : least_numbers w c * 10 ^ tenths k < least_numbers w low * 10 ^ tenths k = more_than_parts w (10 ^ tenths k) c low p m (omega arith) in
          inl (omega arith))
          (λ (m : low ≤ c).
          let l : low < c = ⊎_elim (λ x. absurd (other x)) (λ x. ⊎_elim (λ (y : c < low). let z : low < c = absurd (omega arith) in z) (λ y. y) x) (cases_order c low) in
          let b : least_numbers w (low + 1) * 10 ^ tenths k ≤ least_numbers w c * 10 ^ tenths k = at_least_parts w (10 ^ tenths k) (low + 1) c (omega arith) (omega arith) in
          ⊎_elim
          (λ (x : 2 * decimal_numbers w d k < twice_middle w (10 ^ tenths k) low). inl (omega arith))
          (λ x.
          let e : 2 * decimal_numbers w d k ≡ twice_middle w (10 ^ tenths k) low = x.0 in
          ⊎_elim
          (λ (y : far_from w d k low < far_from w d k c). inl y)
          (λ (y : far_from w d k c ≤ far_from w d k low). inr (let g : far_from w d k low ≡ far_from w d k c = omega arith in g, x.1))
          (cases_lt (far_from w d k low) (far_from w d k c)))
          half)
          (cases_lt c low);
    }

pub next_is_nearest : (w : Width) (d low : ℕ) (k : ℤ) → low + 1 < infinity_bits w → least_numbers w low * 10 ^ tenths k ≤ decimal_numbers w d k
    → decimal_numbers w d k < least_numbers w (low + 1) * 10 ^ tenths k
    → (twice_middle w (10 ^ tenths k) low < 2 * decimal_numbers w d k) ⊎ ((2 * decimal_numbers w d k ≡ twice_middle w (10 ^ tenths k) low) × (low % 2 ≡ 1))
    → IsNearest w d k (low + 1)
next_is_nearest w d low k finite at_most above half =
    let p : 0 < 10 ^ tenths k = power_positive 10 (tenths k) (lit< tt) in
    record {
      finite = finite;
      in_range =
          let a : least_numbers w (low + 1) * 10 ^ tenths k ≤ least_numbers w (infinity_bits w - 1) * 10 ^ tenths k = at_least_parts w (10 ^ tenths k) (low + 1) (infinity_bits w - 1) (omega arith) (omega arith) in
          let b : least_numbers w (low + 1) * 10 ^ tenths k ≤ least_numbers w (infinity_bits w) * 10 ^ tenths k = at_least_parts w (10 ^ tenths k) (low + 1) (infinity_bits w) (omega arith) (omega arith) in
          omega arith;
      nearest = λ c below other. ⊎_elim
          (λ (m : c < low + 1).
          let b : least_numbers w c * 10 ^ tenths k ≤ least_numbers w low * 10 ^ tenths k = at_least_parts w (10 ^ tenths k) c low (omega arith) (omega arith) in
          ⊎_elim
          (λ (x : twice_middle w (10 ^ tenths k) low < 2 * decimal_numbers w d k). inl (omega arith))
          (λ x.
          let e : 2 * decimal_numbers w d k ≡ twice_middle w (10 ^ tenths k) low = x.0 in
          let o : low % 2 ≡ 1 = x.1 in
          ⊎_elim
          (λ (y : far_from w d k (low + 1) < far_from w d k c). inl y)
          (λ (y : far_from w d k c ≤ far_from w d k (low + 1)). inr (let g : far_from w d k (low + 1) ≡ far_from w d k c = omega arith in g, omega arith))
          (cases_lt (far_from w d k (low + 1)) (far_from w d k c)))
          half)
          (λ (m : low + 1 ≤ c).
          let l : low + 1 < c = ⊎_elim (λ x. absurd (other x)) (λ x. ⊎_elim (λ (y : c < low + 1). let z : low + 1 < c = absurd (omega arith) in z) (λ y. y) x) (cases_order c (low + 1)) in
          let b : least_numbers w (low + 1) * 10 ^ tenths k < least_numbers w c * 10 ^ tenths k = more_than_parts w (10 ^ tenths k) (low + 1) c p l (omega arith) in
          inl (omega arith))
          (cases_lt c (low + 1));
    }

-- what was chosen is the nearest where it is finite
pub chosen_is_nearest : (w : Width) (d bits : ℕ) (k : ℤ) → IsChosen w (decimal_numbers w d k) (10 ^ tenths k) bits → bits < infinity_bits w → IsNearest w d k bits
chosen_is_nearest w d bits k c finite = ⊎_elim
    (λ x. subst (IsNearest w d k) (sym x.0) (low_is_nearest w d c.low k c.is_floor.finite c.is_floor.at_most x.1))
    (λ x.
    let e : bits ≡ c.low + 1 = x.0 in
    let l : c.low + 1 < infinity_bits w = omega arith in
    subst (IsNearest w d k) (sym e) (next_is_nearest w d c.low k l c.is_floor.at_most (c.is_floor.below l) x.1))
    c.takes

-- and else the decimal is past the range
pub chosen_is_past : (w : Width) (d bits : ℕ) (k : ℤ) → IsChosen w (decimal_numbers w d k) (10 ^ tenths k) bits → infinity_bits w ≤ bits → IsPastRange w d k
chosen_is_past w d bits k c past = ⊎_elim
    (λ x. let e : bits ≡ c.low = x.0 in let f : c.low < infinity_bits w = c.is_floor.finite in absurd (omega arith))
    (λ x.
    let e : bits ≡ c.low + 1 = x.0 in
    let f : c.low < infinity_bits w = c.is_floor.finite in
    let g : twice_last_middle w ≡ least_numbers w c.low + least_numbers w (c.low + 1) =
    ap (λ z. least_numbers w z + least_numbers w (infinity_bits w)) (let r : infinity_bits w - 1 ≡ c.low = omega arith in r)
    ∙ ap (λ z. least_numbers w c.low + least_numbers w z) (let r : infinity_bits w ≡ c.low + 1 = omega arith in r) in
    let h : twice_last_middle w * 10 ^ tenths k ≡ twice_middle w (10 ^ tenths k) c.low = ap (λ z. z * 10 ^ tenths k) g in
    ⊎_elim
    (λ (y : twice_middle w (10 ^ tenths k) c.low < 2 * decimal_numbers w d k). let r : twice_last_middle w * 10 ^ tenths k ≤ 2 * decimal_numbers w d k = omega arith in r)
    (λ y. let z : 2 * decimal_numbers w d k ≡ twice_middle w (10 ^ tenths k) c.low = y.0 in let r : twice_last_middle w * 10 ^ tenths k ≤ 2 * decimal_numbers w d k = omega arith in r)
    x.1)
    c.takes

-- ---- decimals that are so small or so large that no power need be made ----

-- less than half the least number
pub small_is_zero : (w : Width) (d : ℕ) (k : ℤ) → 2 * decimal_numbers w d k < 10 ^ tenths k → IsNearest w d k 0
small_is_zero w d k h =
    let z : least_numbers w 0 ≡ 0 = zero_number w in
    let s : 0 < infinity_bits w = some_infinity w in
    let m : least_numbers w 0 < least_numbers w 1 = more_than w 0 1 (omega arith) (omega arith) in
    let e : least_numbers w (0 + 1) ≡ least_numbers w 1 = refl in
    let a : least_numbers w 0 * 10 ^ tenths k ≡ 0 * 10 ^ tenths k = ap (λ x. x * 10 ^ tenths k) z in
    let b : 1 * 10 ^ tenths k ≤ least_numbers w 1 * 10 ^ tenths k = mul-le 1 (10 ^ tenths k) (least_numbers w 1) (10 ^ tenths k) (omega arith) (omega arith) in
    low_is_nearest w d 0 k s (omega arith) (inl (let g : 2 * decimal_numbers w d k < (least_numbers w 0 + least_numbers w 1) * 10 ^ tenths k = omega arith in g))

pub zero_is_zero : (w : Width) (d : ℕ) (k : ℤ) → d ≡ 0 → IsNearest w d k 0
zero_is_zero w d k h =
    let p : 0 < 10 ^ tenths k = power_positive 10 (tenths k) (lit< tt) in
    let e : decimal_numbers w d k ≡ 0 * 10 ^ tens k * 2 ^ least_places w = ap (λ z. z * 10 ^ tens k * 2 ^ least_places w) h in
    small_is_zero w d k (omega arith)

pub only_tenths : (k : ℤ) → 0 < tenths k → tens k ≡ 0
only_tenths (pos n) h = absurd (omega arith)
only_tenths (negsuc n) h = refl

pub only_tens : (k : ℤ) → 0 < tens k → tenths k ≡ 0
only_tens (pos n) h = refl
only_tens (negsuc n) h = absurd (omega arith)

few_parts : (w : Width) (d : ℕ) → d < 2 ^ 64 → 2 * (d * 1 * 2 ^ least_places w) < 10 ^ 401
few_parts Float32 d h = omega arith
few_parts Float64 d h = omega arith

pub tiny_is_zero : (w : Width) (d : ℕ) (k : ℤ) → d < 2 ^ 64 → 400 < tenths k → IsNearest w d k 0
tiny_is_zero w d k h f =
    let e : tens k ≡ 0 = only_tenths k (omega arith) in
    let g : decimal_numbers w d k ≡ d * 1 * 2 ^ least_places w = ap (λ z. d * 10 ^ z * 2 ^ least_places w) e in
    let m : 2 * (d * 1 * 2 ^ least_places w) < 10 ^ 401 = few_parts w d h in
    let y : 10 ^ 401 ≤ 10 ^ tenths k = pow-le-pow_right {n = 10} (lit< tt) {i = 401} {j = tenths k} (omega arith) in
    small_is_zero w d k (omega arith)

pub range_ends : (w : Width) → twice_last_middle w ≤ 2 * (1 * 10 ^ 401 * 2 ^ least_places w)
unfolding least_numbers
range_ends Float32 = lit≤ tt
range_ends Float64 = lit≤ tt

pub vast_is_past : (w : Width) (d : ℕ) (k : ℤ) → 0 < d → 400 < tens k → IsPastRange w d k
vast_is_past w d k h f =
    let e : tenths k ≡ 0 = only_tens k (omega arith) in
    let g : twice_last_middle w * 10 ^ tenths k ≡ twice_last_middle w * 1 = ap (λ z. twice_last_middle w * 10 ^ z) e in
    let r : twice_last_middle w ≤ 2 * (1 * 10 ^ 401 * 2 ^ least_places w) = range_ends w in
    let y : 10 ^ 401 ≤ 10 ^ tens k = pow-le-pow_right {n = 10} (lit< tt) {i = 401} {j = tens k} (omega arith) in
    let m : 1 * 10 ^ 401 ≤ d * 10 ^ tens k = mul-le 1 (10 ^ 401) d (10 ^ tens k) (omega arith) y in
    let n : 1 * 10 ^ 401 * 2 ^ least_places w ≤ d * 10 ^ tens k * 2 ^ least_places w = mul-le (1 * 10 ^ 401) (2 ^ least_places w) (d * 10 ^ tens k) (2 ^ least_places w) m (omega arith) in
    let o : twice_last_middle w * 10 ^ tenths k ≤ 2 * decimal_numbers w d k = omega arith in
    o
