-- A value in so many parts of a place: its whole parts are the significand of the number below it.
use Rattle.std.proofs.Common.{ℕ, ◌≡◌, ◌+◌, ◌-◌, ◌*◌, ◌/◌, ◌%◌, ◌^◌, ◌<◌, ◌≤◌, ◌==◌, ◌⊎◌, ⊎_elim, inl, inr, Bool, true, false, cond, refl, sym, ap, ◌∙◌, arith, lit<}
use Rattle.std.proofs.Math.Nat.{mul-lt-mul_of_pos_right}
use Rattle.std.proofs.lemmas.Nat.{pow-add}
use Rattle.std.proofs.lemmas.Bool.{cases_lt, eq-eqb, ne_eqb}
use Rattle.capnp_floats.specs.declared.width.Width.{Width}
use Rattle.capnp_floats.specs.declared.width.Width.TheVariants.{Float32, Float64}
use Rattle.capnp_floats.specs.Floats.{fraction_bits, place, significand}
use Rattle.capnp_floats.specs.Nearest.{infinity_bits, least_numbers, least_places}
use Rattle.capnp_floats.specs.Steps.Nearing.{IsChosen, twice_middle}
use Rattle.capnp_floats.proofs.Nearing.{next_number, numbers_are, power_positive}

-- ---- bits by their significand and its place ----

significand_by : (t : Bool) (f end m : ℕ) → ((t ≡ true) × (f ≡ m)) ⊎ ((t ≡ false) × (f + end ≡ m)) → cond t f (f + end) ≡ m
significand_by t f end m (inl h) = ap (λ z. cond z f (f + end)) h.0 ∙ h.1
significand_by t f end m (inr h) = ap (λ z. cond z f (f + end)) h.0 ∙ h.1

no_place : (p m end : ℕ) → (0 < p → end ≤ m) → m < end → p ≡ 0
no_place p m end h l = ⊎_elim
    (λ (k : 0 < p). let f : end ≤ m = h k in absurd (omega arith))
    (λ (k : p ≤ 0). omega arith)
    (cases_lt 0 p)

pub bits_parts : (w : Width) (p m bits : ℕ) → bits < infinity_bits w → bits ≡ p * 2 ^ fraction_bits w + m → (0 < p → 2 ^ fraction_bits w ≤ m) → m < 2 * 2 ^ fraction_bits w
    → (significand w bits ≡ m) × (place w bits ≡ p)
bits_parts Float32 p m bits finite e normal few = ⊎_elim
    (λ (l : m < 2 ^ 23).
    let z : p ≡ 0 = no_place p m (2 ^ 23) normal l in (
      significand_by (bits / 2 ^ 23 % 2 ^ 8 == 0) (bits % 2 ^ 23) (2 ^ 23) m
          (inl (eq-eqb (bits / 2 ^ 23 % 2 ^ 8) 0 (let f : bits / 2 ^ 23 % 2 ^ 8 ≡ 0 = omega arith in f), (let f : bits % 2 ^ 23 ≡ m = omega arith in f))),
      (let f : bits / 2 ^ 23 % 2 ^ 8 - 1 ≡ p = omega arith in f),
    ))
    (λ (l : 2 ^ 23 ≤ m). (
      significand_by (bits / 2 ^ 23 % 2 ^ 8 == 0) (bits % 2 ^ 23) (2 ^ 23) m
          (inr (ne_eqb (bits / 2 ^ 23 % 2 ^ 8) 0 (λ f. omega arith), (let f : bits % 2 ^ 23 + 2 ^ 23 ≡ m = omega arith in f))),
      (let f : bits / 2 ^ 23 % 2 ^ 8 - 1 ≡ p = omega arith in f),
    ))
    (cases_lt m (2 ^ 23))
bits_parts Float64 p m bits finite e normal few = ⊎_elim
    (λ (l : m < 2 ^ 52).
    let z : p ≡ 0 = no_place p m (2 ^ 52) normal l in (
      significand_by (bits / 2 ^ 52 % 2 ^ 11 == 0) (bits % 2 ^ 52) (2 ^ 52) m
          (inl (eq-eqb (bits / 2 ^ 52 % 2 ^ 11) 0 (let f : bits / 2 ^ 52 % 2 ^ 11 ≡ 0 = omega arith in f), (let f : bits % 2 ^ 52 ≡ m = omega arith in f))),
      (let f : bits / 2 ^ 52 % 2 ^ 11 - 1 ≡ p = omega arith in f),
    ))
    (λ (l : 2 ^ 52 ≤ m). (
      significand_by (bits / 2 ^ 52 % 2 ^ 11 == 0) (bits % 2 ^ 52) (2 ^ 52) m
          (inr (ne_eqb (bits / 2 ^ 52 % 2 ^ 11) 0 (λ f. omega arith), (let f : bits % 2 ^ 52 + 2 ^ 52 ≡ m = omega arith in f))),
      (let f : bits / 2 ^ 52 % 2 ^ 11 - 1 ≡ p = omega arith in f),
    ))
    (cases_lt m (2 ^ 52))

-- ---- what is chosen ----

-- a number or the next, by what is left of so many parts
abbrev pub TakesByRest : (rest parts bits r : ℕ) → Type 0
TakesByRest rest parts bits r = ((r ≡ bits) × ((2 * rest < parts) ⊎ ((2 * rest ≡ parts) × (bits % 2 ≡ 0))))
    ⊎ ((r ≡ bits + 1) × ((parts < 2 * rest) ⊎ ((2 * rest ≡ parts) × (bits % 2 ≡ 1))))

-- a value that is a number and what is left over it, all in least numbers over the tenths
record IsPast (w : Width) (value tenths whole part left bits : ℕ) : Type 0 where
  -- the number: what the whole parts are
  low : least_numbers w bits * tenths ≡ whole
  -- the next number is one part further
  high : least_numbers w (bits + 1) * tenths ≡ whole + part
  -- the value is the rest further
  value_is : value ≡ whole + left

chosen_by : (w : Width) (value tenths whole part left bits r rest parts u : ℕ) → bits < infinity_bits w → IsPast w value tenths whole part left bits → part ≡ parts * u → left ≡ rest * u → 0 < u → rest < parts → TakesByRest rest parts bits r → IsChosen w value tenths r
chosen_by w value tenths whole part left bits r rest parts u finite past ep el pu less takes =
    let low : least_numbers w bits * tenths ≡ whole = past.low in
    let high : least_numbers w (bits + 1) * tenths ≡ whole + part = past.high in
    let v : value ≡ whole + left = past.value_is in
    let k : rest * u < parts * u = mul-lt-mul_of_pos_right {m = rest} {n = parts} {k = u} less pu in
    let m : (least_numbers w bits + least_numbers w (bits + 1)) * tenths ≡ 2 * whole + part =
    (let f : (least_numbers w bits + least_numbers w (bits + 1)) * tenths ≡ least_numbers w bits * tenths + least_numbers w (bits + 1) * tenths = omega arith in f)
    ∙ (let f : least_numbers w bits * tenths + least_numbers w (bits + 1) * tenths ≡ 2 * whole + part = omega arith in f) in
    record {
      low = bits;
      is_floor = record {
        finite = finite;
        at_most = omega arith;
        below = λ l. let f : value < least_numbers w (bits + 1) * tenths = omega arith in f;
      };
      takes = ⊎_elim
          (λ x. inl (
            x.0,
            ⊎_elim
                (λ (y : 2 * rest < parts).
                let z : 2 * rest * u < parts * u = mul-lt-mul_of_pos_right {m = 2 * rest} {n = parts} {k = u} y pu in
                inl (let f : 2 * value < twice_middle w tenths bits = omega arith in f))
                (λ y.
                let z : 2 * rest * u ≡ parts * u = ap (λ q. q * u) y.0 in
                inr ((let f : 2 * value ≡ twice_middle w tenths bits = omega arith in f), y.1))
                x.1,
          ))
          (λ x. inr (
            x.0,
            ⊎_elim
                (λ (y : parts < 2 * rest).
                let z : parts * u < 2 * rest * u = mul-lt-mul_of_pos_right {m = parts} {n = 2 * rest} {k = u} y pu in
                inl (let f : twice_middle w tenths bits < 2 * value = omega arith in f))
                (λ y.
                let z : 2 * rest * u ≡ parts * u = ap (λ q. q * u) y.0 in
                inr ((let f : 2 * value ≡ twice_middle w tenths bits = omega arith in f), y.1))
                x.1,
          ))
          takes;
    }

pub small_chosen : (w : Width) (number tenths p value parts s m rest bits r : ℕ) → value * 2 ^ s ≡ number * 2 ^ least_places w → parts * 2 ^ s ≡ tenths * 2 ^ p
    → m * parts + rest ≡ value → rest < parts → bits < infinity_bits w → significand w bits ≡ m → place w bits ≡ p → TakesByRest rest parts bits r
    → IsChosen w (number * 2 ^ least_places w) tenths r
small_chosen w number tenths p value parts s m rest bits r ev ep e less finite es eq takes =
    let pu : 0 < 2 ^ s = power_positive 2 s (lit< tt) in
    let n : least_numbers w bits ≡ m * 2 ^ p = numbers_are w bits ∙ ap (λ z. z * 2 ^ place w bits) es ∙ ap (λ z. m * 2 ^ z) eq in
    let n' : least_numbers w (bits + 1) ≡ m * 2 ^ p + 2 ^ p = next_number w bits finite ∙ ap (λ z. z + 2 ^ place w bits) n ∙ ap (λ z. m * 2 ^ p + 2 ^ z) eq in
    let low : least_numbers w bits * tenths ≡ m * (tenths * 2 ^ p) = ap (λ z. z * tenths) n ∙ turned m (2 ^ p) tenths in
    let high : least_numbers w (bits + 1) * tenths ≡ m * (tenths * 2 ^ p) + tenths * 2 ^ p = ap (λ z. z * tenths) n' ∙ turned_more m (2 ^ p) tenths in
    let whole : m * (tenths * 2 ^ p) ≡ m * (parts * 2 ^ s) = ap (λ z. m * z) (sym ep) in
    let all : number * 2 ^ least_places w ≡ m * (parts * 2 ^ s) + rest * 2 ^ s = sym ev ∙ ap (λ z. z * 2 ^ s) (sym e) ∙ apart m parts rest (2 ^ s) in
    chosen_by w (number * 2 ^ least_places w) tenths (m * (parts * 2 ^ s)) (parts * 2 ^ s) (rest * 2 ^ s) bits r rest parts (2 ^ s) finite
    (record { low = low ∙ whole; high = high ∙ ap (λ z. z + tenths * 2 ^ p) whole ∙ ap (λ z. m * (parts * 2 ^ s) + z) (sym ep); value_is = all }) refl refl pu less takes
  where
    turned : (a b c : ℕ) → a * b * c ≡ a * (c * b)
    turned a b c = omega arith

    turned_more : (a b c : ℕ) → (a * b + b) * c ≡ a * (c * b) + c * b
    turned_more a b c = omega arith

    apart : (a b c u : ℕ) → (a * b + c) * u ≡ a * (b * u) + c * u
    apart a b c u = omega arith

-- a value in the places of a number, one way or the other
pub places_below : (n v p l k : ℕ) → l ≡ p + k → v ≡ n * 2 ^ k → v * 2 ^ p ≡ n * 2 ^ l
places_below n v p l k e f =
    ap (λ z. z * 2 ^ p) f ∙ (let g : n * 2 ^ k * 2 ^ p ≡ n * (2 ^ p * 2 ^ k) = omega arith in g) ∙ ap (λ z. n * z) (sym (pow-add 2 p k)) ∙ ap (λ z. n * 2 ^ z) (sym e)
