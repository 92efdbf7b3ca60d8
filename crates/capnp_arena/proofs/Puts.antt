-- Words of bytes in which others are put, or that are made longer.
use Rattle.std.proofs.Common.{refl, ◌≡◌, ℕ, suc, ◌+◌, ◌-◌, ◌*◌, ◌≤◌, sym, ap, ◌∙◌, arith, List, ◌++◌, length, take, drop, replicate}
use Rattle.std.proofs.lemmas.List.{append_assoc, take_at, drop_at, drop-drop, drop-take, take-take, take-append-le, drop-append-le, length-append, length-drop, length-take-le, drop-replicate, take-replicate}
use Rattle.capnp_wire.specs.Place.{bytes_at}
use Rattle.capnp_wire.specs.Steps.Filling.{bytes_with}
use Rattle.capnp_wire.specs.Facts.Filling.{put_after}
use Rattle.capnp_arena.specs.Forest.{IsSame}

-- a word before
pub put_before : (at : ℕ) (x b : List ℕ) (k : ℕ) → at + length x ≤ length b → 8 * suc k ≤ at → IsSame b (bytes_with at x b) k
put_before at x b k f h =
    let y : List ℕ = x ++ drop (at + length x) b in
    let l : length (take at b) ≡ at = length-take-le at b (omega (arith, f)) in
    let m : length (drop (8 * k) (take at b)) ≡ at - 8 * k = omega (arith, l, length-drop (8 * k) (take at b)) in
    let e : 8 * k + (at - 8 * k) ≡ at = omega (arith, h) in
    ap (take 8) (drop-append-le (8 * k) (take at b) y (omega (arith, l, h)))
    ∙ take-append-le 8 (drop (8 * k) (take at b)) y (omega (arith, m, h))
    ∙ ap (λ n. take 8 (drop (8 * k) (take n b))) (sym e)
    ∙ ap (take 8) (drop-take (8 * k) (at - 8 * k) b)
    ∙ take-take 8 (at - 8 * k) (drop (8 * k) b) (omega (arith, h))

-- bytes behind
pub put_behind : (at : ℕ) (x b : List ℕ) (k c : ℕ) → at + length x ≤ length b → at + length x ≤ 8 * k → bytes_at (bytes_with at x b) k c ≡ bytes_at b k c
put_behind at x b k c f h =
    let m : ℕ = at + length x in
    let front : length (take at b ++ x) ≡ m = omega (arith, length-append (take at b) x, length-take-le at b (omega (arith, f))) in
    let e : m + (8 * k - m) ≡ 8 * k = omega (arith, h) in
    ap (λ n. take c (drop n (bytes_with at x b))) (sym e)
    ∙ ap (λ z. take c (drop (m + (8 * k - m)) z)) (sym (append_assoc (take at b) x (drop m b)))
    ∙ ap (take c) (sym (drop-drop (8 * k - m) m ((take at b ++ x) ++ drop m b)))
    ∙ ap (λ z. take c (drop (8 * k - m) z)) (drop_at (take at b ++ x) (drop m b) m front)
    ∙ ap (take c) (drop-drop (8 * k - m) m b)
    ∙ ap (λ n. take c (drop n b)) e

-- what was put there
pub put_there : (w : ℕ) (x b : List ℕ) (n : ℕ) → 8 * w + length x ≤ length b → length x ≡ n → bytes_at (bytes_with (8 * w) x b) w n ≡ x
put_there w x b n f e =
    ap (take n) (drop_at (take (8 * w) b) (x ++ drop (8 * w + length x) b) (8 * w) (length-take-le (8 * w) b (omega (arith, f))))
    ∙ take_at x (drop (8 * w + length x) b) n e

-- words before what is added
pub longer_same : (b c : List ℕ) (k : ℕ) → 8 * suc k ≤ length b → IsSame b (b ++ c) k
longer_same b c k h =
    ap (take 8) (drop-append-le (8 * k) b c (omega (arith, h)))
    ∙ take-append-le 8 (drop (8 * k) b) c (omega (arith, h, length-drop (8 * k) b))

-- what is added
pub added_there : (b c : List ℕ) (m a n : ℕ) → length b ≡ 8 * m → m ≤ a → bytes_at (b ++ c) a n ≡ bytes_at c (a - m) n
added_there b c m a n e l =
    let q : 8 * m + 8 * (a - m) ≡ 8 * a = omega (arith, l) in
    ap (λ i. take n (drop i (b ++ c))) (sym q)
    ∙ ap (take n) (sym (drop-drop (8 * (a - m)) (8 * m) (b ++ c)))
    ∙ ap (λ z. take n (drop (8 * (a - m)) z)) (drop_at b c (8 * m) e)

-- a part of zeros
pub zeros_part : (k a n : ℕ) → 8 * a + n ≤ k → bytes_at (replicate k 0) a n ≡ replicate n 0
zeros_part k a n h = ap (take n) (drop-replicate (8 * a) k 0) ∙ take-replicate n (k - 8 * a) 0 (omega (arith, h))

-- bytes put at the start of zeros at the end
pub put_zeros : (b x : List ℕ) (n : ℕ) → bytes_with (length b) x (b ++ replicate n 0) ≡ b ++ (x ++ replicate (n - length x) 0)
put_zeros b x n = put_after (length b) b (replicate n 0) x refl ∙ ap (λ z. b ++ (x ++ z)) (drop-replicate (length x) n 0)
