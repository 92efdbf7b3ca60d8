-- Rows of digits to the base 2^32: a loop's step, for each way through a row.
use Rattle.std.proofs.Common.{◌-◌, ltb, ◌≢◌, ⊎_elim, lit<, ℕ, zero, suc, ◌≡◌, ◌+◌, ◌*◌, ◌^◌, ◌/◌, ◌%◌, ◌<◌, ◌≤◌, List, [], ◌∷◌, ◌++◌, length, get_or, take, set, sym, ap, ◌∙◌, arith}
use Rattle.std.proofs.lemmas.Nat.{pow-add, div-add-mod', pow_pos, mul-le, mod_below}
use Rattle.std.proofs.lemmas.List.{take_more, take_more_set, length-take-le, get_or-set_other}
use Rattle.std.proofs.Math.Nat.{pow-le-pow_right}
use Rattle.std.proofs.lemmas.Bool.{cases_lt}
use Rattle.std.proofs.lemmas.Bool.Decides.{nat_tests}
use Rattle.capnp_floats.specs.Naturals.{large_room, natural_of, room}

pub power_more : (i : ℕ) → 2 ^ (32 * (i + 1)) ≡ 2 ^ (32 * i) * 2 ^ 32
power_more i = ap (λ k. 2 ^ k) (let e : 32 * (i + 1) ≡ 32 * i + 32 = omega arith in e) ∙ pow-add 2 (32 * i) 32

pub natural_push : (row : List ℕ) (x : ℕ) → natural_of (row ++ x ∷ []) ≡ natural_of row + 2 ^ (32 * length row) * x
unfolding natural_of
natural_push [] x = omega arith
natural_push (y ∷ row) x =
    let h : natural_of (row ++ x ∷ []) ≡ natural_of row + 2 ^ (32 * length row) * x = natural_push row x in
    let p : 2 ^ (32 * (length row + 1)) ≡ 2 ^ (32 * length row) * 2 ^ 32 = power_more (length row) in
    let s : length (y ∷ row) ≡ length row + 1 = omega arith in
    let t : 2 ^ (32 * length (y ∷ row)) ≡ 2 ^ (32 * length row) * 2 ^ 32 = ap (λ k. 2 ^ (32 * k)) s ∙ p in
    let u : 2 ^ (32 * length (y ∷ row)) * x ≡ 2 ^ (32 * length row) * 2 ^ 32 * x = ap (λ k. k * x) t in
    omega arith

pub low_more : (row : List ℕ) (i : ℕ) → i < length row
    → natural_of (take (i + 1) row) ≡ natural_of (take i row) + 2 ^ (32 * i) * get_or row i 0
low_more row i h =
    ap natural_of (take_more row i 0 h) ∙ natural_push (take i row) (get_or row i 0)
    ∙ ap (λ k. natural_of (take i row) + 2 ^ (32 * k) * get_or row i 0) (length-take-le i row (omega arith))

pub low_set : (row : List ℕ) (i x : ℕ) → i < length row
    → natural_of (take (i + 1) (set row i x)) ≡ natural_of (take i row) + 2 ^ (32 * i) * x
low_set row i x h =
    ap natural_of (take_more_set row i x h) ∙ natural_push (take i row) x
    ∙ ap (λ k. natural_of (take i row) + 2 ^ (32 * k) * x) (length-take-le i row (omega arith))

pub scale_step : (p f x c b q r a a0 m : ℕ) → q * b + r ≡ x * f + c → a + p * c ≡ a0 * f + m
    → (a + p * r) + (p * b) * q ≡ (a0 + p * x) * f + m
scale_step p f x c b q r a a0 m e h = let k : p * (q * b + r) ≡ p * (x * f + c) = ap (λ z. p * z) e in omega arith

pub add_step : (p x y c b q r a a0 o : ℕ) → q * b + r ≡ x + y + c → a + p * c ≡ a0 + o
    → (a + p * r) + (p * b) * q ≡ (a0 + p * x) + (o + p * y)
add_step p x y c b q r a a0 o e h = let k : p * (q * b + r) ≡ p * (x + y + c) = ap (λ z. p * z) e in omega arith

pub subtract_step : (p x y c b d r a a0 o : ℕ) → r + y + c ≡ x + d * b → a + o ≡ a0 + p * c
    → (a + p * r) + (o + p * y) ≡ (a0 + p * x) + (p * b) * d
subtract_step p x y c b d r a a0 o e h = let k : p * (r + y + c) ≡ p * (x + d * b) = ap (λ z. p * z) e in omega arith

-- what a product leaves at its place, and what it carries
pub scale_kept : (row row0 : List ℕ) (i f c m n : ℕ) → i < length row → length row ≡ length row0 → get_or row i 0 ≡ get_or row0 i 0
    → n ≡ get_or row i 0 * f + c
    → natural_of (take i row) + 2 ^ (32 * i) * c ≡ natural_of (take i row0) * f + m
    → natural_of (take (i + 1) (set row i (n % 4294967296))) + 2 ^ (32 * (i + 1)) * (n / 4294967296) ≡ natural_of (take (i + 1) row0) * f + m
scale_kept row row0 i f c m n inside long same is value =
    ap (λ z. z + 2 ^ (32 * (i + 1)) * (n / 4294967296)) (low_set row i (n % 4294967296) inside)
    ∙ ap (λ z. natural_of (take i row) + 2 ^ (32 * i) * (n % 4294967296) + z * (n / 4294967296)) (power_more i)
    ∙ scale_step (2 ^ (32 * i)) f (get_or row0 i 0) c 4294967296 (n / 4294967296) (n % 4294967296) (natural_of (take i row)) (natural_of (take i row0)) m
    (div-add-mod' n 4294967296 ∙ is ∙ ap (λ z. z * f + c) same) value
    ∙ ap (λ z. z * f + m) (sym (low_more row0 i (omega arith)))

pub add_kept : (row row0 other : List ℕ) (i c n : ℕ) → i < length row → length row ≡ length row0 → length row ≡ length other → get_or row i 0 ≡ get_or row0 i 0
    → n ≡ get_or row i 0 + get_or other i 0 + c
    → natural_of (take i row) + 2 ^ (32 * i) * c ≡ natural_of (take i row0) + natural_of (take i other)
    → natural_of (take (i + 1) (set row i (n % 4294967296))) + 2 ^ (32 * (i + 1)) * (n / 4294967296) ≡ natural_of (take (i + 1) row0) + natural_of (take (i + 1) other)
add_kept row row0 other i c n inside long long' same is value =
    ap (λ z. z + 2 ^ (32 * (i + 1)) * (n / 4294967296)) (low_set row i (n % 4294967296) inside)
    ∙ ap (λ z. natural_of (take i row) + 2 ^ (32 * i) * (n % 4294967296) + z * (n / 4294967296)) (power_more i)
    ∙ add_step (2 ^ (32 * i)) (get_or row0 i 0) (get_or other i 0) c 4294967296 (n / 4294967296) (n % 4294967296) (natural_of (take i row)) (natural_of (take i row0)) (natural_of (take i other))
    (div-add-mod' n 4294967296 ∙ is ∙ ap (λ z. z + get_or other i 0 + c) same) value
    ∙ ap (λ z. z + (natural_of (take i other) + 2 ^ (32 * i) * get_or other i 0)) (sym (low_more row0 i (omega arith)))
    ∙ ap (λ z. natural_of (take (i + 1) row0) + z) (sym (low_more other i (omega arith)))

pub subtract_kept : (row row0 other : List ℕ) (i c n d : ℕ) → i < length row → length row ≡ length row0 → length row ≡ length other → get_or row i 0 ≡ get_or row0 i 0
    → (n % 4294967296) + get_or other i 0 + c ≡ get_or row i 0 + d * 4294967296
    → natural_of (take i row) + natural_of (take i other) ≡ natural_of (take i row0) + 2 ^ (32 * i) * c
    → natural_of (take (i + 1) (set row i (n % 4294967296))) + natural_of (take (i + 1) other) ≡ natural_of (take (i + 1) row0) + 2 ^ (32 * (i + 1)) * d
subtract_kept row row0 other i c n d inside long long' same is value =
    ap (λ z. z + natural_of (take (i + 1) other)) (low_set row i (n % 4294967296) inside)
    ∙ ap (λ z. natural_of (take i row) + 2 ^ (32 * i) * (n % 4294967296) + z) (low_more other i (omega arith))
    ∙ subtract_step (2 ^ (32 * i)) (get_or row0 i 0) (get_or other i 0) c 4294967296 d (n % 4294967296) (natural_of (take i row)) (natural_of (take i row0)) (natural_of (take i other))
    (is ∙ ap (λ z. z + d * 4294967296) same) value
    ∙ ap (λ z. z + 2 ^ (32 * i) * 4294967296 * d) (sym (low_more row0 i (omega arith)))
    ∙ ap (λ z. natural_of (take (i + 1) row0) + z * d) (sym (power_more i))

pub natural_low : (row : List ℕ) (i : ℕ) → ((k : ℕ) → get_or row k 0 < 2 ^ 32) → natural_of (take i row) < 2 ^ (32 * i)
unfolding natural_of
natural_low row zero h = lit< tt
natural_low [] (suc i) h = pow_pos (32 * suc i)
natural_low (x ∷ row) (suc i) h =
    let n : natural_of (take i row) < 2 ^ (32 * i) = natural_low row i (λ k. h (suc k)) in
    let p : 2 ^ (32 * (i + 1)) ≡ 2 ^ (32 * i) * 2 ^ 32 = power_more i in
    let s : 2 ^ (32 * suc i) ≡ 2 ^ (32 * (i + 1)) = ap (λ k. 2 ^ (32 * k)) (let e : suc i ≡ i + 1 = omega arith in e) in
    let f : x < 2 ^ 32 = h 0 in
    omega arith

-- the higher digits decide, and where they are equal the lower
pub below_same : (p x y a b : ℕ) → x ≡ y → ltb (a + p * x) (b + p * y) ≡ ltb a b
below_same p x y a b e = let k : p * x ≡ p * y = ap (λ z. p * z) e in grind (arith, nat_tests)

below_less : (p x y a b : ℕ) → a < p → x < y → a + p * x < b + p * y
below_less p x y a b h l = let k : p * (x + 1) ≤ p * y = mul-le p (x + 1) p y (omega arith) (omega arith) in omega arith

pub below_differs : (p x y a b : ℕ) → a < p → b < p → x ≢ y → ltb (a + p * x) (b + p * y) ≡ ltb x y
below_differs p x y a b g h d = ⊎_elim
    (λ l. let k : a + p * x < b + p * y = below_less p x y a b g l in grind (arith, nat_tests))
    (λ m. let l : y < x = omega arith in let k : b + p * y < a + p * x = below_less p y x b a h l in grind (arith, nat_tests))
    (cases_lt x y)

-- the comparison of rows up to a place, by the digits there and the rows below it
compared : (row other : List ℕ) (i n : ℕ) → n ≡ i + 1 → i < length row → length row ≡ length other
    → ltb (natural_of (take n row)) (natural_of (take n other))
    ≡ ltb (natural_of (take i row) + 2 ^ (32 * i) * get_or row i 0) (natural_of (take i other) + 2 ^ (32 * i) * get_or other i 0)
compared row other i n e inside long =
    ap (λ z. ltb (natural_of (take z row)) (natural_of (take z other))) e
    ∙ ap (λ z. ltb z (natural_of (take (i + 1) other))) (low_more row i inside)
    ∙ ap (λ z. ltb (natural_of (take i row) + 2 ^ (32 * i) * get_or row i 0) z) (low_more other i (omega arith))

pub last_differs : (row other : List ℕ) (i n : ℕ) → n ≡ i + 1 → i < length row → length row ≡ length other
    → ((k : ℕ) → get_or row k 0 < 2 ^ 32) → ((k : ℕ) → get_or other k 0 < 2 ^ 32) → get_or row i 0 ≢ get_or other i 0
    → ltb (get_or row i 0) (get_or other i 0) ≡ ltb (natural_of (take n row)) (natural_of (take n other))
last_differs row other i n e inside long f g d =
    sym (below_differs (2 ^ (32 * i)) (get_or row i 0) (get_or other i 0) (natural_of (take i row)) (natural_of (take i other)) (natural_low row i f) (natural_low other i g) d)
    ∙ sym (compared row other i n e inside long)

pub last_same : (row other : List ℕ) (i n : ℕ) → n ≡ i + 1 → i < length row → length row ≡ length other → get_or row i 0 ≡ get_or other i 0
    → ltb (natural_of (take n row)) (natural_of (take n other)) ≡ ltb (natural_of (take i row)) (natural_of (take i other))
last_same row other i n e inside long d =
    compared row other i n e inside long ∙ below_same (2 ^ (32 * i)) (get_or row i 0) (get_or other i 0) (natural_of (take i row)) (natural_of (take i other)) d

-- what is lent at a place
pub lent_kept : (x y c : ℕ) → x < 2 ^ 32 → y < 2 ^ 32 → c ≤ 1
    → ((x + 4294967296 - (y + c)) % 4294967296 + y + c ≡ x + (1 - (x + 4294967296 - (y + c)) / 4294967296) * 4294967296)
    × (1 - (x + 4294967296 - (y + c)) / 4294967296 ≤ 1)
lent_kept x y c f g h =
    let n : ℕ = x + 4294967296 - (y + c) in
    let e : n / 4294967296 * 4294967296 + n % 4294967296 ≡ n = div-add-mod' n 4294967296 in
    let b : n / 4294967296 ≤ 1 = omega arith in
    (omega arith, omega arith)

-- a write at a place leaves those behind it
pub rest_kept : (row row0 : List ℕ) (i x : ℕ) → ((k : ℕ) → i ≤ k → get_or row k 0 ≡ get_or row0 k 0)
    → (k : ℕ) → i + 1 ≤ k → get_or (set row i x) k 0 ≡ get_or row0 k 0
rest_kept row row0 i x h k b = get_or-set_other row i k x 0 (λ e. omega arith) ∙ h k (omega arith)

-- nothing is carried out of 36 places where the number has room
pub none_carried : (n l c x : ℕ) → n + 2 ^ (32 * l) * c ≡ x → l ≡ 36 → x < room → n ≡ x
unfolding room
none_carried n l zero x e h f = omega arith
none_carried n l (suc c) x e h f =
    let p : 2 ^ (32 * l) ≡ 2 ^ 1152 = ap (λ k. 2 ^ (32 * k)) h in
    let q : 2 ^ (32 * l) * 1 ≤ 2 ^ (32 * l) * suc c = mul-le (2 ^ (32 * l)) 1 (2 ^ (32 * l)) (suc c) (omega arith) (omega arith) in
    absurd (omega arith)

-- nor lent, where the number taken is no larger
pub none_lent : (n o x p c : ℕ) → n + o ≡ x + p * c → n < p → o ≤ x → n + o ≡ x
none_lent n o x p zero e f h = omega arith
none_lent n o x p (suc c) e f h =
    let q : p * 1 ≤ p * suc c = mul-le p 1 p (suc c) (omega arith) (omega arith) in
    absurd (omega arith)

-- a number below 2^1152 has no more than 1152 factors that are at least two
pub few_factors : (t n : ℕ) → 2 ^ t ≤ n → n < room → t < 1152
unfolding room
few_factors t n h f = ⊎_elim (λ l. l)
    (λ m. let p : 2 ^ 1152 ≤ 2 ^ t = pow-le-pow_right {n = 2} (lit< tt) {i = 1152} {j = t} m in absurd (omega arith))
    (cases_lt t 1152)

-- a row of digits so far is below the power of its places
pub bound_kept : (row : List ℕ) (i n : ℕ) → i < length row → natural_of (take i row) < 2 ^ (32 * i)
    → natural_of (take (i + 1) (set row i (n % 4294967296))) < 2 ^ (32 * (i + 1))
bound_kept row i n inside h =
    let e : natural_of (take (i + 1) (set row i (n % 4294967296))) ≡ natural_of (take i row) + 2 ^ (32 * i) * (n % 4294967296) = low_set row i (n % 4294967296) inside in
    let p : 2 ^ (32 * (i + 1)) ≡ 2 ^ (32 * i) * 4294967296 = power_more i in
    let q : n % 4294967296 < 4294967296 = mod_below n 4294967296 (lit< tt) in
    let k : 2 ^ (32 * i) * (n % 4294967296 + 1) ≤ 2 ^ (32 * i) * 4294967296 = mul-le (2 ^ (32 * i)) (n % 4294967296 + 1) (2 ^ (32 * i)) 4294967296 (omega arith) (omega arith) in
    omega arith

-- nothing is carried out of 192 places where the number has room
pub none_carried_large : (n l c x : ℕ) → n + 2 ^ (32 * l) * c ≡ x → l ≡ 192 → x < large_room → n ≡ x
unfolding large_room
none_carried_large n l zero x e h f = omega arith
none_carried_large n l (suc c) x e h f =
    let p : 2 ^ (32 * l) ≡ 2 ^ 6144 = ap (λ k. 2 ^ (32 * k)) h in
    let q : 2 ^ (32 * l) * 1 ≤ 2 ^ (32 * l) * suc c = mul-le (2 ^ (32 * l)) 1 (2 ^ (32 * l)) (suc c) (omega arith) (omega arith) in
    absurd (omega arith)
