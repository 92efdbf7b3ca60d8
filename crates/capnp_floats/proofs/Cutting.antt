-- Digits behind the first 800 decide no comparison with a number or a middle between two, but for whether one is not 0.
use Rattle.std.proofs.Common.{ℕ, ◌≡◌, ◌+◌, ◌-◌, ◌*◌, ◌/◌, ◌%◌, ◌^◌, ◌<◌, ◌≤◌, ◌==◌, ◌⊎◌, ⊎_elim, inl, inr, Bool, true, false, cond, refl, sym, ap, ◌∙◌, subst, arith, lit<, lit≤}
use Rattle.std.proofs.Math.Nat.{mul-lt-mul_of_pos_right, pow-le-pow_right}
use Rattle.std.proofs.lemmas.Nat.{mod_below, mul-le, mul-pow, pow-add}
use Rattle.std.proofs.lemmas.Bool.{cases_lt}
use lib.IntN.{ℤ}
use Rattle.capnp_floats.specs.declared.digits.Digits.{Digits}
use Rattle.capnp_floats.specs.declared.width.Width.{Width}
use Rattle.capnp_floats.specs.declared.width.Width.TheVariants.{Float32, Float64}
use Rattle.capnp_floats.specs.Naturals.{large_room}
use Rattle.capnp_floats.specs.Shortest.{tens, tenths}
use Rattle.capnp_floats.specs.Floats.{place, significand}
use Rattle.capnp_floats.specs.Nearest.{IsNearest, IsPastRange, decimal_numbers, infinity_bits, least_numbers, least_places, twice_last_middle}
use Rattle.capnp_floats.specs.Steps.Digits.{AreDigits, HoldsDigits}
use Rattle.capnp_floats.specs.Steps.Nearing.{IsChosen, twice_middle}
use Rattle.capnp_floats.proofs.Nearing.{middle_is, numbers_are, only_tenths, power_positive, range_ends, small_is_zero}

-- a number lies on the same side of a boundary as another of another
pub record SameSides (x y x' y' : ℕ) : Type 0 where
  pub less : x' < y' → x < y
  pub same : x' ≡ y' → x ≡ y
  pub more : y' < x' → y < x

-- A boundary z does not lie between a h and a (h + 1). So what follows h tells a side of it only by whether it is 0.
sides : (a h r s t z : ℕ) → 0 < a → r < t → ((s ≡ 0) × (r ≡ 0)) ⊎ ((s ≡ 1) × (0 < r)) → (z ≤ a * h) ⊎ (a * (h + 1) ≤ z)
    → SameSides (a * (h * t + r)) (z * t) (a * (10 * h + s)) (z * 10)
sides a h r s t z pa less rest (inl l) =
    let m : z * t ≤ a * h * t = mul-le z t (a * h) t l (omega arith) in
    record {
      less = λ k. absurd (omega arith);
      same = λ k. ⊎_elim
          (λ x.
          let u : a * s ≡ a * 0 = ap (λ q. a * q) x.0 in
          let v : a * r ≡ a * 0 = ap (λ q. a * q) x.1 in
          let e : a * h ≡ z = omega arith in
          let w : a * h * t ≡ z * t = ap (λ q. q * t) e in
          let y : a * (h * t + r) ≡ z * t = omega arith in y)
          (λ x. let u : a * s ≡ a * 1 = ap (λ q. a * q) x.0 in absurd (omega arith))
          rest;
      more = λ k. ⊎_elim
          (λ (q : z < a * h).
          let w : z * t < a * h * t = mul-lt-mul_of_pos_right {m = z} {n = a * h} {k = t} q (omega arith) in
          let y : z * t < a * (h * t + r) = omega arith in y)
          (λ (q : a * h ≤ z). ⊎_elim
          (λ x. let u : a * s ≡ a * 0 = ap (λ q. a * q) x.0 in absurd (omega arith))
          (λ x.
          let o : 0 < r = x.1 in
          let v : 1 * 1 ≤ a * r = mul-le 1 1 a r (omega arith) (omega arith) in
          let y : z * t < a * (h * t + r) = omega arith in y)
          rest)
          (cases_lt z (a * h));
    }
sides a h r s t z pa less rest (inr l) =
    let m : a * (h + 1) * t ≤ z * t = mul-le (a * (h + 1)) t z t l (omega arith) in
    let q : r * a < t * a = mul-lt-mul_of_pos_right {m = r} {n = t} {k = a} less pa in
    let o : s ≤ 1 = ⊎_elim (λ x. let e : s ≡ 0 = x.0 in let y : s ≤ 1 = omega arith in y) (λ x. let e : s ≡ 1 = x.0 in let y : s ≤ 1 = omega arith in y) rest in
    let v : a * s ≤ a * 1 = mul-le a s a 1 (omega arith) o in
    record {
      less = λ k. let y : a * (h * t + r) < z * t = omega arith in y;
      same = λ k. absurd (omega arith);
      more = λ k. absurd (omega arith);
    }

same_sides : (x y x' y' X Y X' Y' : ℕ) → X ≡ x → Y ≡ y → X' ≡ x' → Y' ≡ y' → SameSides x y x' y' → SameSides X Y X' Y'
same_sides x y x' y' X Y X' Y' ex ey ex' ey' h = record {
  less = λ k. let f : x < y = h.less (omega arith) in let g : X < Y = omega arith in g;
  same = λ k. let f : x ≡ y = h.same (omega arith) in let g : X ≡ Y = omega arith in g;
  more = λ k. let f : y < x = h.more (omega arith) in let g : Y < X = omega arith in g;
}

sides_reach : (x y x' y' : ℕ) → SameSides x y x' y' → y' ≤ x' → y ≤ x
sides_reach x y x' y' h k = ⊎_elim
    (λ (l : y' < x'). let f : y < x = h.more l in let g : y ≤ x = omega arith in g)
    (λ (l : x' ≤ y'). let f : x ≡ y = h.same (omega arith) in let g : y ≤ x = omega arith in g)
    (cases_lt y' x')

-- ---- no boundary lies between two neighbours of 800 digits ----

multiple_apart : (a h m z : ℕ) → z ≡ a * m → (z ≤ a * h) ⊎ (a * (h + 1) ≤ z)
multiple_apart a h m z e = ⊎_elim
    (λ (l : h < m). inr (let k : a * (h + 1) ≤ a * m = mul-le a (h + 1) a m (omega arith) (omega arith) in let y : a * (h + 1) ≤ z = omega arith in y))
    (λ (l : m ≤ h). inl (let k : a * m ≤ a * h = mul-le a m a h (omega arith) l in let y : z ≤ a * h = omega arith in y))
    (cases_lt h m)

regroup : (q u v f : ℕ) → q * u * (v * f) ≡ q * f * (u * v)
regroup q u v f = omega arith

turned : (q f a b : ℕ) → q * f * (a * b) ≡ a * (q * f * b)
turned q f a b = omega arith

twos_and_fives : (q p c : ℕ) → q * 2 ^ p * 10 ^ c ≡ q * 5 ^ c * 2 ^ (p + c)
twos_and_fives q p c =
    ap (λ z. q * 2 ^ p * z) (mul-pow 2 5 c) ∙ regroup q (2 ^ p) (2 ^ c) (5 ^ c) ∙ ap (λ z. q * 5 ^ c * z) (sym (pow-add 2 p c))

fives_few : (h x : ℕ) → 10 ^ 799 ≤ h → x ≤ 2 ^ 55 * 5 ^ 1074 → x ≤ h
fives_few h x l m = omega arith

apart_of : (places q p c h : ℕ) → places ≤ 1074 → q < 2 ^ 55 → 10 ^ 799 ≤ h
    → (q * 2 ^ p * 10 ^ c ≤ 2 ^ (places + 1) * h) ⊎ (2 ^ (places + 1) * (h + 1) ≤ q * 2 ^ p * 10 ^ c)
apart_of places q p c h few small large = ⊎_elim
    (λ (l : p + c < places + 1).
    let e : q * 2 ^ p * 10 ^ c ≡ q * 5 ^ c * 2 ^ (p + c) = twos_and_fives q p c in
    let five : 5 ^ c ≤ 5 ^ 1074 = pow-le-pow_right {n = 5} (lit< tt) {i = c} {j = 1074} (omega arith) in
    let two : 2 ^ (p + c) ≤ 2 ^ (places + 1) = pow-le-pow_right {n = 2} (lit< tt) {i = p + c} {j = places + 1} (omega arith) in
    let m : q * 5 ^ c ≤ 2 ^ 55 * 5 ^ 1074 = mul-le q (5 ^ c) (2 ^ 55) (5 ^ 1074) (omega arith) five in
    let n : q * 5 ^ c ≤ h = fives_few h (q * 5 ^ c) large m in
    let o : q * 5 ^ c * 2 ^ (p + c) ≤ h * 2 ^ (places + 1) = mul-le (q * 5 ^ c) (2 ^ (p + c)) h (2 ^ (places + 1)) n two in
    inl (let w : q * 2 ^ p * 10 ^ c ≤ 2 ^ (places + 1) * h = omega arith in w))
    (λ (l : places + 1 ≤ p + c).
    multiple_apart (2 ^ (places + 1)) h (q * 5 ^ c * 2 ^ (p + c - (places + 1))) (q * 2 ^ p * 10 ^ c)
    (twos_and_fives q p c
    ∙ ap (λ z. q * 5 ^ c * 2 ^ z) (let f : p + c ≡ places + 1 + (p + c - (places + 1)) = omega arith in f)
    ∙ ap (λ z. q * 5 ^ c * z) (pow-add 2 (places + 1) (p + c - (places + 1)))
    ∙ turned q (5 ^ c) (2 ^ (places + 1)) (2 ^ (p + c - (places + 1)))))
    (cases_lt (p + c) (places + 1))

places_small : (w : Width) → least_places w ≤ 1074
places_small Float32 = lit≤ tt
places_small Float64 = lit≤ tt

twice_power : (v l : ℕ) → 2 * (v * 2 ^ l) ≡ 2 ^ (l + 1) * v
twice_power v l =
    let p : 2 ^ (l + 1) ≡ 2 ^ l * 2 = pow-add 2 l 1 in
    let q : 2 ^ (l + 1) * v ≡ 2 ^ l * 2 * v = ap (λ z. z * v) p in
    omega arith

tens_apart : (q u c j : ℕ) → q * u * 10 ^ (c + j) ≡ q * u * 10 ^ c * 10 ^ j
tens_apart q u c j = ap (λ z. q * u * z) (pow-add 10 c j) ∙ (let f : q * u * (10 ^ c * 10 ^ j) ≡ q * u * 10 ^ c * 10 ^ j = omega arith in f)

rest_by : (m : Bool) (b r : ℕ) → b ≡ cond m 1 0 → (m ≡ false → r ≡ 0) → (m ≡ true → 0 < r) → ((b ≡ 0) × (r ≡ 0)) ⊎ ((b ≡ 1) × (0 < r))
rest_by true b r e f g = inr (e, g refl)
rest_by false b r e f g = inl (e, f refl)

pub front_large : (s : Digits) → AreDigits s → 0 < s.cut → 10 ^ 799 ≤ s.front
front_large s a cut =
    let full : s.count ≡ 800 = a.full cut in
    let l : 10 ^ (s.count - 1) ≤ s.front = a.large (omega arith) in
    subst (λ z. 10 ^ (z - 1) ≤ s.front) full l

-- the digits that are kept and one more are on the same side of a boundary as all digits
cut_sides : (w : Width) (s : Digits) (n q p c b : ℕ) → AreDigits s → HoldsDigits s n → 0 < s.cut → q < 2 ^ 55 → b ≡ cond s.more 1 0
    → SameSides (2 * (n * 2 ^ least_places w)) (q * 2 ^ p * 10 ^ (c + s.cut)) (2 * ((s.front * 10 + b) * 2 ^ least_places w)) (q * 2 ^ p * 10 ^ (c + 1))
cut_sides w s n q p c b a h cut small e =
    same_sides _ _ _ _ (2 * (n * 2 ^ least_places w)) (q * 2 ^ p * 10 ^ (c + s.cut)) (2 * ((s.front * 10 + b) * 2 ^ least_places w)) (q * 2 ^ p * 10 ^ (c + 1))
    (twice_power n (least_places w) ∙ ap (λ z. 2 ^ (least_places w + 1) * z) h.value)
    (tens_apart q (2 ^ p) c s.cut)
    (twice_power (s.front * 10 + b) (least_places w) ∙ ap (λ z. 2 ^ (least_places w + 1) * z) (let f : s.front * 10 + b ≡ 10 * s.front + b = omega arith in f))
    (tens_apart q (2 ^ p) c 1)
    (sides (2 ^ (least_places w + 1)) s.front h.rest b (10 ^ s.cut) (q * 2 ^ p * 10 ^ c) (power_positive 2 (least_places w + 1) (lit< tt)) h.less
    (rest_by s.more b h.rest e h.none_more h.some_more)
    (apart_of (least_places w) q p c s.front (places_small w) small (front_large s a cut)))

-- ---- what is chosen for the digits that are kept is chosen for all ----

cond_small : (t : Bool) (f e : ℕ) → f < 2 ^ 52 → e ≤ 2 ^ 52 → cond t f (f + e) < 2 ^ 53
cond_small true f e h g = omega arith
cond_small false f e h g = omega arith

pub significand_small : (w : Width) (b : ℕ) → significand w b < 2 ^ 53
significand_small Float32 b = cond_small (b / 2 ^ 23 % 2 ^ 8 == 0) (b % 2 ^ 23) (2 ^ 23)
    (let h : b % 2 ^ 23 < 2 ^ 23 = mod_below b (2 ^ 23) (lit< tt) in let g : b % 2 ^ 23 < 2 ^ 52 = omega arith in g) (lit≤ tt)
significand_small Float64 b = cond_small (b / 2 ^ 52 % 2 ^ 11 == 0) (b % 2 ^ 52) (2 ^ 52) (mod_below b (2 ^ 52) (lit< tt)) (lit≤ tt)

double_numbers : (w : Width) (b t : ℕ) → 2 * (least_numbers w b * t) ≡ 2 * significand w b * 2 ^ place w b * t
double_numbers w b t = ap (λ z. 2 * (z * t)) (numbers_are w b) ∙ joined (significand w b) (2 ^ place w b) t
  where
    joined : (s u t : ℕ) → 2 * (s * u * t) ≡ 2 * s * u * t
    joined s u t = omega arith

number_sides : (w : Width) (s : Digits) (n c b m : ℕ) → AreDigits s → HoldsDigits s n → 0 < s.cut → b ≡ cond s.more 1 0
    → SameSides (2 * (n * 2 ^ least_places w)) (2 * (least_numbers w m * 10 ^ (c + s.cut))) (2 * ((s.front * 10 + b) * 2 ^ least_places w)) (2 * (least_numbers w m * 10 ^ (c + 1)))
number_sides w s n c b m a h cut e =
    let f : significand w m < 2 ^ 53 = significand_small w m in
    same_sides _ _ _ _ (2 * (n * 2 ^ least_places w)) (2 * (least_numbers w m * 10 ^ (c + s.cut))) (2 * ((s.front * 10 + b) * 2 ^ least_places w)) (2 * (least_numbers w m * 10 ^ (c + 1)))
    refl (double_numbers w m (10 ^ (c + s.cut))) refl (double_numbers w m (10 ^ (c + 1)))
    (cut_sides w s n (2 * significand w m) (place w m) c b a h cut (omega arith) e)

middle_sides : (w : Width) (s : Digits) (n c b low : ℕ) → AreDigits s → HoldsDigits s n → 0 < s.cut → b ≡ cond s.more 1 0 → low < infinity_bits w
    → SameSides (2 * (n * 2 ^ least_places w)) (twice_middle w (10 ^ (c + s.cut)) low) (2 * ((s.front * 10 + b) * 2 ^ least_places w)) (twice_middle w (10 ^ (c + 1)) low)
middle_sides w s n c b low a h cut e finite =
    let f : significand w low < 2 ^ 53 = significand_small w low in
    let odd : (z : ℕ) → (2 * significand w low + 1) * 2 ^ place w low * 10 ^ z ≡ twice_middle w (10 ^ z) low =
    λ z. middle_is w low (significand w low) (place w low) z ((2 * significand w low + 1) * 2 ^ place w low * 10 ^ z) finite refl refl refl in
    same_sides _ _ _ _ (2 * (n * 2 ^ least_places w)) (twice_middle w (10 ^ (c + s.cut)) low) (2 * ((s.front * 10 + b) * 2 ^ least_places w)) (twice_middle w (10 ^ (c + 1)) low)
    refl (sym (odd (c + s.cut))) refl (sym (odd (c + 1)))
    (cut_sides w s n (2 * significand w low + 1) (place w low) c b a h cut (omega arith) e)

cut_chosen : (w : Width) (s : Digits) (n c b bits : ℕ) → AreDigits s → HoldsDigits s n → 0 < s.cut → b ≡ cond s.more 1 0
    → IsChosen w ((s.front * 10 + b) * 2 ^ least_places w) (10 ^ (c + 1)) bits → IsChosen w (n * 2 ^ least_places w) (10 ^ (c + s.cut)) bits
cut_chosen w s n c b bits a h cut e x =
    let m = middle_sides w s n c b x.low a h cut e x.is_floor.finite in
    record {
      low = x.low;
      is_floor = record {
        finite = x.is_floor.finite;
        at_most =
            let f : least_numbers w x.low * 10 ^ (c + 1) ≤ (s.front * 10 + b) * 2 ^ least_places w = x.is_floor.at_most in
            let g : 2 * (least_numbers w x.low * 10 ^ (c + s.cut)) ≤ 2 * (n * 2 ^ least_places w) = sides_reach _ _ _ _ (number_sides w s n c b x.low a h cut e) (omega arith) in
            omega arith;
        below = λ l.
            let f : (s.front * 10 + b) * 2 ^ least_places w < least_numbers w (x.low + 1) * 10 ^ (c + 1) = x.is_floor.below l in
            let y = number_sides w s n c b (x.low + 1) a h cut e in
            let g : 2 * (n * 2 ^ least_places w) < 2 * (least_numbers w (x.low + 1) * 10 ^ (c + s.cut)) = y.less (omega arith) in
            let z : n * 2 ^ least_places w < least_numbers w (x.low + 1) * 10 ^ (c + s.cut) = omega arith in z;
      };
      takes = ⊎_elim
          (λ y. inl (y.0, ⊎_elim (λ z. inl (m.less z)) (λ z. inr (m.same z.0, z.1)) y.1))
          (λ y. inr (y.0, ⊎_elim (λ z. inl (m.more z)) (λ z. inr (m.same z.0, z.1)) y.1))
          x.takes;
    }

-- the same by the decimal's power of ten
pub cut_found : (w : Width) (s : Digits) (n : ℕ) (k : ℤ) (c number bits : ℕ) → AreDigits s → HoldsDigits s n → 0 < s.cut → 0 < c → tenths k ≡ c + s.cut
    → number ≡ s.front * 10 + cond s.more 1 0 → IsChosen w (number * 10 ^ 0 * 2 ^ least_places w) (10 ^ (c + 1)) bits
    → IsChosen w (decimal_numbers w n k) (10 ^ tenths k) bits
cut_found w s n k c number bits a h cut some e is x =
    let none : tens k ≡ 0 = only_tenths k (omega arith) in
    let kept : number * 10 ^ 0 * 2 ^ least_places w ≡ (s.front * 10 + cond s.more 1 0) * 2 ^ least_places w =
    (let f : number * 1 * 2 ^ least_places w ≡ number * 2 ^ least_places w = omega arith in f) ∙ ap (λ z. z * 2 ^ least_places w) is in
    let all : n * 2 ^ least_places w ≡ decimal_numbers w n k =
    (let f : n * 2 ^ least_places w ≡ n * 1 * 2 ^ least_places w = omega arith in f) ∙ ap (λ z. n * 10 ^ z * 2 ^ least_places w) (sym none) in
    subst (λ z. IsChosen w (decimal_numbers w n k) (10 ^ z) bits) (sym e)
    (subst (λ z. IsChosen w z (10 ^ (c + s.cut)) bits) all
    (cut_chosen w s n c (cond s.more 1 0) bits a h cut refl (subst (λ z. IsChosen w z (10 ^ (c + 1)) bits) kept x)))

-- ---- decimals that are so small or so large that no power need be made ----

pub cut_is_past : (w : Width) (s : Digits) (n : ℕ) (k : ℤ) → AreDigits s → HoldsDigits s n → 0 < s.cut → tenths k ≤ s.cut → IsPastRange w n k
cut_is_past w s n k a h cut few =
    let r : twice_last_middle w ≤ 2 * (1 * 10 ^ 401 * 2 ^ least_places w) = range_ends w in
    let large : 10 ^ 799 ≤ s.front = front_large s a cut in
    let f : 10 ^ 401 ≤ s.front = fewer s.front large in
    let y : 10 ^ tenths k ≤ 10 ^ s.cut = pow-le-pow_right {n = 10} (lit< tt) {i = tenths k} {j = s.cut} few in
    let v : n ≡ s.front * 10 ^ s.cut + h.rest = h.value in
    let i : 10 ^ 401 * 10 ^ tenths k ≤ s.front * 10 ^ s.cut = mul-le (10 ^ 401) (10 ^ tenths k) s.front (10 ^ s.cut) f y in
    let t : 0 < 10 ^ tens k = power_positive 10 (tens k) (lit< tt) in
    let j : 10 ^ 401 * 10 ^ tenths k * 1 ≤ n * 10 ^ tens k = mul-le (10 ^ 401 * 10 ^ tenths k) 1 n (10 ^ tens k) (omega arith) (omega arith) in
    let m : 10 ^ 401 * 10 ^ tenths k * 1 * 2 ^ least_places w ≤ n * 10 ^ tens k * 2 ^ least_places w =
    mul-le (10 ^ 401 * 10 ^ tenths k * 1) (2 ^ least_places w) (n * 10 ^ tens k) (2 ^ least_places w) j (omega arith) in
    let o : twice_last_middle w * 10 ^ tenths k ≤ 2 * (1 * 10 ^ 401 * 2 ^ least_places w) * 10 ^ tenths k =
    mul-le (twice_last_middle w) (10 ^ tenths k) (2 * (1 * 10 ^ 401 * 2 ^ least_places w)) (10 ^ tenths k) r (omega arith) in
    let q : twice_last_middle w * 10 ^ tenths k ≤ 2 * decimal_numbers w n k = omega arith in q
  where
    fewer : (x : ℕ) → 10 ^ 799 ≤ x → 10 ^ 401 ≤ x
    fewer x h = omega arith

front_small : (s : Digits) → AreDigits s → s.front < 10 ^ 800
front_small s a =
    let f : s.front < 10 ^ s.count = a.small in
    let y : 10 ^ s.count ≤ 10 ^ 800 = pow-le-pow_right {n = 10} (lit< tt) {i = s.count} {j = 800} a.few in
    omega arith

pub cut_is_tiny : (w : Width) (s : Digits) (n : ℕ) (k : ℤ) → AreDigits s → HoldsDigits s n → s.cut + 1149 < tenths k → IsNearest w n k 0
cut_is_tiny w s n k a h small =
    let none : tens k ≡ 0 = only_tenths k (omega arith) in
    let g : decimal_numbers w n k ≡ n * 1 * 2 ^ least_places w = ap (λ z. n * 10 ^ z * 2 ^ least_places w) none in
    let v : n ≡ s.front * 10 ^ s.cut + h.rest = h.value in
    let l : h.rest < 10 ^ s.cut = h.less in
    let f : s.front < 10 ^ 800 = front_small s a in
    let i : (s.front + 1) * 10 ^ s.cut ≤ 10 ^ 800 * 10 ^ s.cut = mul-le (s.front + 1) (10 ^ s.cut) (10 ^ 800) (10 ^ s.cut) (omega arith) (omega arith) in
    let x : 2 ^ least_places w ≤ 2 ^ 1074 = pow-le-pow_right {n = 2} (lit< tt) {i = least_places w} {j = 1074} (places_small w) in
    let j : n * 2 ^ least_places w ≤ 10 ^ 800 * 10 ^ s.cut * 2 ^ 1074 = mul-le n (2 ^ least_places w) (10 ^ 800 * 10 ^ s.cut) (2 ^ 1074) (omega arith) x in
    let p : 10 ^ (s.cut + 1150) ≡ 10 ^ s.cut * 10 ^ 1150 = pow-add 10 s.cut 1150 in
    let y : 10 ^ (s.cut + 1150) ≤ 10 ^ tenths k = pow-le-pow_right {n = 10} (lit< tt) {i = s.cut + 1150} {j = tenths k} (omega arith) in
    let t : 0 < 10 ^ s.cut = power_positive 10 s.cut (lit< tt) in
    let o : 2 * (10 ^ 800 * 10 ^ s.cut * 2 ^ 1074) < 10 ^ s.cut * 10 ^ 1150 = few_tens (10 ^ s.cut) t in
    small_is_zero w n k (omega arith)
  where
    few_tens : (x : ℕ) → 0 < x → 2 * (10 ^ 800 * x * 2 ^ 1074) < x * 10 ^ 1150
    few_tens x h = omega arith

-- the digits that are kept, and one more, are at most 801
pub cut_few : (s : Digits) (b : ℕ) → AreDigits s → b ≤ 1 → s.front * 10 + b < 10 ^ 801
cut_few s b a h = let f : s.front < 10 ^ 800 = front_small s a in times (s.front) b f h
  where
    times : (x b : ℕ) → x < 10 ^ 800 → b ≤ 1 → x * 10 + b < 10 ^ 801
    times x b h g = omega arith

pub whole_few : (s : Digits) → AreDigits s → s.front < 10 ^ 801
whole_few s a = let f : s.front < 10 ^ 800 = front_small s a in fewer s.front f
  where
    fewer : (x : ℕ) → x < 10 ^ 800 → x < 10 ^ 801
    fewer x h = omega arith

pub some_digits : (s : Digits) (n : ℕ) → AreDigits s → 0 < s.count → HoldsDigits s n → 0 < n
some_digits s n a some h =
    let l : 10 ^ (s.count - 1) ≤ s.front = a.large some in
    let p : 0 < 10 ^ (s.count - 1) = power_positive 10 (s.count - 1) (lit< tt) in
    let q : 0 < 10 ^ s.cut = power_positive 10 s.cut (lit< tt) in
    let m : 1 * 1 ≤ s.front * 10 ^ s.cut = mul-le 1 1 s.front (10 ^ s.cut) (omega arith) (omega arith) in
    let v : n ≡ s.front * 10 ^ s.cut + h.rest = h.value in
    omega arith

pub whole_is_tiny : (w : Width) (n : ℕ) (k : ℤ) → n < 10 ^ 801 → 1150 < tenths k → IsNearest w n k 0
whole_is_tiny w n k few small =
    let none : tens k ≡ 0 = only_tenths k (omega arith) in
    let g : decimal_numbers w n k ≡ n * 1 * 2 ^ least_places w = ap (λ z. n * 10 ^ z * 2 ^ least_places w) none in
    let x : 2 ^ least_places w ≤ 2 ^ 1074 = pow-le-pow_right {n = 2} (lit< tt) {i = least_places w} {j = 1074} (places_small w) in
    let j : n * 2 ^ least_places w ≤ n * 2 ^ 1074 = mul-le n (2 ^ least_places w) n (2 ^ 1074) (omega arith) x in
    let y : 10 ^ 1151 ≤ 10 ^ tenths k = pow-le-pow_right {n = 10} (lit< tt) {i = 1151} {j = tenths k} (omega arith) in
    let o : 2 * (n * 2 ^ 1074) < 10 ^ 1151 = few_twos n few in
    small_is_zero w n k (omega arith)
  where
    few_twos : (n : ℕ) → n < 10 ^ 801 → 2 * (n * 2 ^ 1074) < 10 ^ 1151
    few_twos n h = omega arith

-- ---- room ----

pub digits_fit : (n p u : ℕ) → n < 10 ^ 801 → p ≤ 1074 → u ≤ 400 → n * 2 ^ p * 10 ^ u < large_room
unfolding large_room
digits_fit n p u h f g =
    let x : 2 ^ p ≤ 2 ^ 1074 = pow-le-pow_right {n = 2} (lit< tt) {i = p} {j = 1074} f in
    let y : 10 ^ u ≤ 10 ^ 400 = pow-le-pow_right {n = 10} (lit< tt) {i = u} {j = 400} g in
    let m : n * 2 ^ p ≤ 10 ^ 801 * 2 ^ 1074 = mul-le n (2 ^ p) (10 ^ 801) (2 ^ 1074) (omega arith) x in
    let o : n * 2 ^ p * 10 ^ u ≤ 10 ^ 801 * 2 ^ 1074 * 10 ^ 400 = mul-le (n * 2 ^ p) (10 ^ u) (10 ^ 801 * 2 ^ 1074) (10 ^ 400) m y in
    omega arith

pub digits_fit_once : (n p : ℕ) → n < 10 ^ 801 → p ≤ 1074 → n * 2 ^ p < large_room
digits_fit_once n p h f = let m : n * 2 ^ p * 10 ^ 0 < large_room = digits_fit n p 0 h f (omega arith) in omega arith

pub numbers_are_made : (d up p q r : ℕ) → r ≡ d * 2 ^ p * 10 ^ up → p ≡ q → r ≡ d * 10 ^ up * 2 ^ q
numbers_are_made d up p q r e f = e ∙ ap (λ z. d * 2 ^ z * 10 ^ up) f ∙ turned_factors d (2 ^ q) (10 ^ up)
  where
    turned_factors : (a b c : ℕ) → a * b * c ≡ a * c * b
    turned_factors a b c = omega arith

pub twice_fits : (w : Width) (n u x : ℕ) → n < 10 ^ 801 → u ≤ 400 → x ≡ n * 10 ^ u * 2 ^ least_places w → x * 2 < large_room
unfolding large_room
twice_fits w n u x h g e =
    let y : 10 ^ u ≤ 10 ^ 400 = pow-le-pow_right {n = 10} (lit< tt) {i = u} {j = 400} g in
    let z : 2 ^ least_places w ≤ 2 ^ 1074 = pow-le-pow_right {n = 2} (lit< tt) {i = least_places w} {j = 1074} (places_small w) in
    let m : n * 10 ^ u ≤ 10 ^ 801 * 10 ^ 400 = mul-le n (10 ^ u) (10 ^ 801) (10 ^ 400) (omega arith) y in
    let o : n * 10 ^ u * 2 ^ least_places w ≤ 10 ^ 801 * 10 ^ 400 * 2 ^ 1074 = mul-le (n * 10 ^ u) (2 ^ least_places w) (10 ^ 801 * 10 ^ 400) (2 ^ 1074) m z in
    omega arith
