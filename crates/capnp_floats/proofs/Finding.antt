-- From the parts of a number to its search for digits, and from the digits found to its decimal.
use Rattle.std.proofs.Common.{ℕ, zero, suc, ◌≡◌, ◌+◌, ◌-◌, ◌*◌, ◌/◌, ◌^◌, ◌%◌, ◌<◌, ◌≤◌, ◌⊎◌, ⊎_elim, Bool, false, sym, ap, ◌∙◌, refl, subst, arith, lit<}
use Rattle.std.proofs.Math.Nat.{pow-le-pow_right}
use Rattle.std.proofs.lemmas.Nat.{mul-le, pow-add, pow_pos, mod_below}
use lib.IntN.{ℤ, pos, negsuc}
use borrow.Author.Differences as differences
use Rattle.capnp_floats.specs.declared.search.Search.{Search}
use Rattle.capnp_floats.specs.declared.width.Width.{Width}
use Rattle.capnp_floats.specs.declared.width.Width.TheVariants.{Float32, Float64}
use Rattle.capnp_floats.specs.Naturals.{room}
use Rattle.capnp_floats.specs.Floats.{place, quarter_places}
use Rattle.capnp_floats.specs.Shortest.{IsRounded, IsShortest, reaches, tens, tenths}
use Rattle.capnp_floats.specs.Steps.Intervals.{interval}
use Rattle.capnp_floats.specs.Steps.Going.{FollowsSearch, around}
use Rattle.capnp_floats.proofs.Reaching.{too_little}
use Rattle.capnp_floats.proofs.Rounding.{same_interval, units_less}

ten_positive : (j : ℕ) → 0 < 10 ^ j
ten_positive zero = lit< tt
ten_positive (suc j) =
    let h : 0 < 10 ^ j = ten_positive j in
    let e : 10 ^ suc j ≡ 10 ^ j * 10 = ap (λ z. 10 ^ z) (let f : suc j ≡ j + 1 = omega arith in f) ∙ pow-add 10 j 1 in
    omega arith

-- a number, or a quarter, and its tens fit, where it has either twos or tens
pub quarters_fit : (x i t : ℕ) → x ≤ 2 ^ 56 → i ≤ 1076 → t ≤ 323 → (i ≡ 0) ⊎ (t ≡ 0) → x * 2 ^ i * 10 ^ t ≤ 2 ^ 1138
quarters_fit x i t h g f e = ⊎_elim
    (λ z.
    let p : 10 ^ t ≤ 10 ^ 323 = pow-le-pow_right {n = 10} (lit< tt) {i = t} {j = 323} f in
    let q : x * 10 ^ t ≤ 2 ^ 56 * 10 ^ 323 = mul-le x (10 ^ t) (2 ^ 56) (10 ^ 323) h p in
    let r : x * 2 ^ i * 10 ^ t ≡ x * 1 * 10 ^ t = ap (λ y. x * 2 ^ y * 10 ^ t) z in
    omega arith)
    (λ z.
    let p : 2 ^ i ≤ 2 ^ 1076 = pow-le-pow_right {n = 2} (lit< tt) {i = i} {j = 1076} g in
    let q : x * 2 ^ i ≤ 2 ^ 56 * 2 ^ 1076 = mul-le x (2 ^ i) (2 ^ 56) (2 ^ 1076) h p in
    let r : x * 2 ^ i * 10 ^ t ≡ x * 2 ^ i * 1 = ap (λ y. x * 2 ^ i * 10 ^ y) z in
    omega arith)
    e

pub one_fits : (i t : ℕ) → i ≤ 1076 → t ≤ 340 → (i ≡ 0) ⊎ (t ≡ 0) → 1 * 2 ^ i * 10 ^ t ≤ 2 ^ 1138
one_fits i t g f e = ⊎_elim
    (λ z.
    let p : 10 ^ t ≤ 10 ^ 340 = pow-le-pow_right {n = 10} (lit< tt) {i = t} {j = 340} f in
    let r : 1 * 2 ^ i * 10 ^ t ≡ 1 * 1 * 10 ^ t = ap (λ y. 1 * 2 ^ y * 10 ^ t) z in
    omega arith)
    (λ z.
    let p : 2 ^ i ≤ 2 ^ 1076 = pow-le-pow_right {n = 2} (lit< tt) {i = i} {j = 1076} g in
    let r : 1 * 2 ^ i * 10 ^ t ≡ 1 * 2 ^ i * 1 = ap (λ y. 1 * 2 ^ i * 10 ^ y) z in
    omega arith)
    e

pub room_for : (x : ℕ) → x ≤ 2 ^ 1138 → 10000 * x < room
unfolding room
room_for x h = omega arith

pub twos_fit : (n x i t : ℕ) → n ≡ x → x * 2 ^ i * 10 ^ t ≤ 2 ^ 1138 → n * 2 ^ i < room
unfolding room
twos_fit n x i t e h =
    let p : 0 < 10 ^ t = ten_positive t in
    let q : x * 2 ^ i * 1 ≤ x * 2 ^ i * 10 ^ t = mul-le (x * 2 ^ i) 1 (x * 2 ^ i) (10 ^ t) (omega arith) (omega arith) in
    let g : n * 2 ^ i ≡ x * 2 ^ i = ap (λ z. z * 2 ^ i) e in
    omega arith

pub to_shortest : (ends : Bool) (s v b a d up down : ℕ) (k : ℤ) → up + tenths k ≡ down + tens k
    → IsRounded (interval ends (s * 10 ^ up) (v * 10 ^ down) (b * 10 ^ down) (a * 10 ^ down)) d → IsShortest (interval ends s v b a) d k
to_shortest ends s v b a d up down (pos n) e h = units_less ends s v b a d up down n 0 down (ten_positive down) (omega arith) (omega arith) h
to_shortest ends s v b a d up down (negsuc n) e h = units_less ends s v b a d up down 0 (suc n) up (ten_positive up) (omega arith) (omega arith) h

powers_joined : (x i j : ℕ) → x * 10 ^ i * 10 ^ j ≡ x * 10 ^ (i + j)
powers_joined x i j = (let e : x * 10 ^ i * 10 ^ j ≡ x * (10 ^ i * 10 ^ j) = omega arith in e) ∙ ap (λ z. x * z) (sym (pow-add 10 i j))

-- what a search found is the shortest decimal of the interval that it began with, in units of a power of ten
pub shortest_found : (o t : Search) (x s v b a tens' tenths' up d : ℕ) (k : ℤ) → FollowsSearch o t → o.one ≡ x * 10 ^ up → x ≡ s * 10 ^ tens'
    → o.rest ≡ v * 10 ^ tenths' → o.below ≡ b * 10 ^ tenths' → o.above ≡ a * 10 ^ tenths' → tens' + up + tenths k ≡ tenths' + t.tenths + tens k
    → IsRounded (around t) d → IsShortest (interval o.has_ends s v b a) d k
shortest_found o t x s v b a tens' tenths' up d k f eo ex ev eb ea ek h =
    let one : t.one ≡ s * 10 ^ (tens' + up) = f.one ∙ eo ∙ ap (λ z. z * 10 ^ up) ex ∙ powers_joined s tens' up in
    let value : t.digits * t.one + t.rest ≡ v * 10 ^ (tenths' + t.tenths) = f.value ∙ ap (λ z. z * 10 ^ t.tenths) ev ∙ powers_joined v tenths' t.tenths in
    let below : t.below ≡ b * 10 ^ (tenths' + t.tenths) = f.below ∙ ap (λ z. z * 10 ^ t.tenths) eb ∙ powers_joined b tenths' t.tenths in
    let above : t.above ≡ a * 10 ^ (tenths' + t.tenths) = f.above ∙ ap (λ z. z * 10 ^ t.tenths) ea ∙ powers_joined a tenths' t.tenths in
    to_shortest o.has_ends s v b a d (tens' + up) (tenths' + t.tenths) k ek
    (subst (λ i. IsRounded i d) (same_interval o.has_ends _ _ _ _ _ _ _ _ one value below above)
    (subst (λ z. IsRounded (interval z t.one (t.digits * t.one + t.rest) t.below t.above) d) f.ends h))

-- ---- where a search begins ----

pub product_positive : (n i t : ℕ) → 0 < n → 0 < n * 2 ^ i * 10 ^ t
product_positive n i t h =
    let p : 0 < 2 ^ i = pow_pos i in
    let r : 0 < 10 ^ t = ten_positive t in
    let q : 1 * 1 ≤ n * 2 ^ i = mul-le 1 1 n (2 ^ i) (omega arith) (omega arith) in
    let s : 1 * 1 ≤ n * 2 ^ i * 10 ^ t = mul-le 1 1 (n * 2 ^ i) (10 ^ t) (omega arith) (omega arith) in
    omega arith

-- the gap is smaller than the value
pub begins_below : (ends : Bool) (n gap i t v b : ℕ) → 0 < n → gap ≤ 2 → v ≡ 4 * n * 2 ^ i * 10 ^ t → b ≡ gap * 2 ^ i * 10 ^ t → reaches ends b v ≡ false
begins_below ends n gap i t v b h g ev eb =
    let p : 0 < 1 * 2 ^ i * 10 ^ t = product_positive 1 i t (lit< tt) in
    let q : 1 * (2 ^ i * 10 ^ t) ≤ n * (2 ^ i * 10 ^ t) = mul-le 1 (2 ^ i * 10 ^ t) n (2 ^ i * 10 ^ t) h (omega arith) in
    let r : gap * (2 ^ i * 10 ^ t) ≤ 2 * (2 ^ i * 10 ^ t) = mul-le gap (2 ^ i * 10 ^ t) 2 (2 ^ i * 10 ^ t) g (omega arith) in
    too_little ends b v (omega arith)

-- the value is few gaps
pub begins_few : (n gap i t v b : ℕ) → n < 2 ^ 53 → 1 ≤ gap → v ≡ 4 * n * 2 ^ i * 10 ^ t → b ≡ gap * 2 ^ i * 10 ^ t → v ≤ b * 2 ^ 56
begins_few n gap i t v b h g ev eb =
    let q : n * (2 ^ i * 10 ^ t) ≤ 2 ^ 53 * (2 ^ i * 10 ^ t) = mul-le n (2 ^ i * 10 ^ t) (2 ^ 53) (2 ^ i * 10 ^ t) (omega arith) (omega arith) in
    let r : 1 * (2 ^ i * 10 ^ t) ≤ gap * (2 ^ i * 10 ^ t) = mul-le 1 (2 ^ i * 10 ^ t) gap (2 ^ i * 10 ^ t) g (omega arith) in
    omega arith

pub tens_up : (k : ℤ) → tens k ≡ differences.up k
tens_up (pos n) = refl
tens_up (negsuc n) = refl

pub tenths_down : (k : ℤ) → tenths k ≡ differences.down k
tenths_down (pos n) = refl
tenths_down (negsuc n) = refl

-- the places of a width are few
pub places_few : (w : Width) (bits : ℕ) → place w bits - quarter_places w ≤ 1076
places_few Float32 bits = let h : bits / 2 ^ 23 % 2 ^ 8 < 2 ^ 8 = mod_below (bits / 2 ^ 23) (2 ^ 8) (lit< tt) in omega arith
places_few Float64 bits = let h : bits / 2 ^ 52 % 2 ^ 11 < 2 ^ 11 = mod_below (bits / 2 ^ 52) (2 ^ 11) (lit< tt) in omega arith

pub quarters_few : (w : Width) (n : ℕ) → quarter_places w - n ≤ 1076
quarters_few Float32 n = omega arith
quarters_few Float64 n = omega arith
