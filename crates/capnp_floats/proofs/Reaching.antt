-- What it says that a number reaches another.
use Rattle.std.proofs.Common.{ℕ, ◌≡◌, ◌+◌, ◌-◌, ◌*◌, ◌<◌, ◌≤◌, ⊎_elim, Bool, true, false, sym, ap, ◌∙◌, arith}
use Rattle.std.proofs.Math.Nat.{mul-lt-mul_of_pos_right}
use Rattle.std.proofs.lemmas.Nat.{mul-le}
use Rattle.std.proofs.lemmas.Bool.{cases_lt, ltb-true, ltb-false, leb-true, leb-false, lt-ltb, le-ltb, le-leb, lt-leb}
use Rattle.capnp_floats.specs.Shortest.{reaches, apart_by}

pub reached : (ends : Bool) (x y : ℕ) → reaches ends x y ≡ true → y ≤ x
reached true x y h = leb-true y x h
reached false x y h = let l : y < x = ltb-true y x h in omega arith

pub not_reached : (ends : Bool) (x y : ℕ) → reaches ends x y ≡ false → x ≤ y
not_reached true x y h = let l : x < y = leb-false y x h in omega arith
not_reached false x y h = ltb-false y x h

pub past : (ends : Bool) (x y : ℕ) → y < x → reaches ends x y ≡ true
past true x y h = le-leb y x (omega arith)
past false x y h = lt-ltb y x h

pub too_little : (ends : Bool) (x y : ℕ) → x < y → reaches ends x y ≡ false
too_little true x y h = lt-leb y x h
too_little false x y h = le-ltb y x (omega arith)

-- of two distances one is reached and the other isn't
pub between : (ends : Bool) (x y x' y' : ℕ) → reaches ends x y ≡ false → reaches ends x' y' ≡ true → x + y' < x' + y
between true x y x' y' g h = let l : x < y = leb-false y x g in let m : y' ≤ x' = leb-true y' x' h in omega arith
between false x y x' y' g h = let l : x ≤ y = ltb-false y x g in let m : y' < x' = ltb-true y' x' h in omega arith

pub reaches_more : (ends : Bool) (k x y : ℕ) → reaches ends x y ≡ true → reaches ends (k + x) (k + y) ≡ true
reaches_more true k x y h = let l : y ≤ x = leb-true y x h in le-leb (k + y) (k + x) (omega arith)
reaches_more false k x y h = let l : y < x = ltb-true y x h in lt-ltb (k + y) (k + x) (omega arith)

pub reaches_times : (ends : Bool) (c x y : ℕ) → 0 < c → reaches ends (x * c) (y * c) ≡ reaches ends x y
reaches_times true c x y p = ⊎_elim
    (λ l. lt-leb (y * c) (x * c) (mul-lt-mul_of_pos_right {m = x} {n = y} {k = c} l p) ∙ sym (lt-leb y x l))
    (λ m. le-leb (y * c) (x * c) (mul-le y c x c m (omega arith)) ∙ sym (le-leb y x m))
    (cases_lt x y)
reaches_times false c x y p = ⊎_elim
    (λ l. lt-ltb (y * c) (x * c) (mul-lt-mul_of_pos_right {m = y} {n = x} {k = c} l p) ∙ sym (lt-ltb y x l))
    (λ m. le-ltb (y * c) (x * c) (mul-le x c y c m (omega arith)) ∙ sym (le-ltb y x m))
    (cases_lt y x)

pub apart_by_times : (c a b : ℕ) → apart_by (a * c) (b * c) ≡ apart_by a b * c
apart_by_times c a b = ⊎_elim
    (λ l. let t : ℕ = b - a in let e : (a + t) * c ≡ b * c = ap (λ z. z * c) (let f : a + t ≡ b = omega arith in f) in
    let g : (apart_by a b) * c ≡ t * c = ap (λ z. z * c) (let f : apart_by a b ≡ t = omega arith in f) in omega arith)
    (λ m. let t : ℕ = a - b in let e : (b + t) * c ≡ a * c = ap (λ z. z * c) (let f : b + t ≡ a = omega arith in f) in
    let g : (apart_by a b) * c ≡ t * c = ap (λ z. z * c) (let f : apart_by a b ≡ t = omega arith in f) in omega arith)
    (cases_lt a b)
