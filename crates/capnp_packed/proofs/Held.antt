-- What waits in a window: the part of its array between two places.
use Rattle.std.proofs.Common.{◌≡◌, ℕ, ◌+◌, ◌-◌, ◌≤◌, List, [], ◌++◌, length, take, drop, ap, sym, ◌∙◌, arith}
use Rattle.std.proofs.lemmas.List.{append_assoc, drop-append-le, drop-drop, drop-take, drop_all, length-append, length-drop, length-take, take-append-drop, take-take, take_at}

pub is_none : (bytes : List ℕ) (a b : ℕ) → a ≡ b → drop a (take b bytes) ≡ []
is_none bytes a b e = drop_all a (take b bytes) (let l = length-take b bytes in omega (arith, l, e))

pub none_is : (bytes : List ℕ) (a b : ℕ) → a ≤ b → b ≤ length bytes → drop a (take b bytes) ≡ [] → a ≡ b
none_is bytes a b h k e =
    let l = length-take b bytes in let d = length-drop a (take b bytes) in let z = ap length e in
    omega (arith, l, d, z, h, k)

-- the first bytes that wait, and those that wait behind them
pub given : (bytes new old : List ℕ) (a b n : ℕ) → a + n ≤ b → b ≤ length bytes → new ≡ take ((a + n) - a) (drop a bytes)
    → drop a (take b bytes) ≡ take n (new ++ drop n old) ++ drop (a + n) (take b bytes)
given bytes new old a b n inside room h =
    let m : (a + n) - a ≡ n = omega arith in
    let is : new ≡ take n (drop a bytes) = h ∙ ap (λ k. take k (drop a bytes)) m in
    let d = length-drop a bytes in
    let t = length-take n (drop a bytes) in
    let long : length new ≡ n = ap length is ∙ (omega (arith, d, t, inside, room)) in
    let part : take n (drop a (take b bytes)) ≡ new =
    ap (λ k. take n (drop a (take k bytes))) (omega (arith, inside))
    ∙ ap (take n) (drop-take a (b - a) bytes) ∙ take-take n (b - a) (drop a bytes) (omega (arith, inside)) ∙ sym is in
    sym (take-append-drop n (drop a (take b bytes)))
    ∙ ap (λ x. x ++ drop n (drop a (take b bytes))) (part ∙ sym (take_at new (drop n old) n long))
    ∙ ap (λ x. take n (new ++ drop n old) ++ x) (drop-drop n a (take b bytes))

first_of_second : (xs ys zs : List ℕ) (b n : ℕ) → length xs ≡ b → n ≤ length ys → take (b + n) (xs ++ (ys ++ zs)) ≡ xs ++ take n ys
first_of_second xs ys zs b n e h =
    let l = length-append xs ys in
    let p = length-append xs (take n ys) in
    let t = length-take n ys in
    ap (λ x. take (b + n) (xs ++ (x ++ zs))) (sym (take-append-drop n ys))
    ∙ ap (λ x. take (b + n) (xs ++ x)) (append_assoc (take n ys) (drop n ys) zs)
    ∙ ap (take (b + n)) (sym (append_assoc xs (take n ys) (drop n ys ++ zs)))
    ∙ take_at (xs ++ take n ys) (drop n ys ++ zs) (b + n) (omega (arith, e, h, p, t))

-- what is read stands behind what waits
pub read_behind : (bytes new more : List ℕ) (a b n : ℕ) → a ≤ b → b ≤ length bytes → n ≤ length new
    → drop a (take (b + n) (take b bytes ++ (new ++ more))) ≡ drop a (take b bytes) ++ take n new
read_behind bytes new more a b n h k few =
    let l = length-take b bytes in
    ap (drop a) (first_of_second (take b bytes) new more b n (omega (arith, l, k)) few)
    ∙ drop-append-le a (take b bytes) (take n new) (omega (arith, l, h, k))

-- what is moved to the front waits as it did
pub moved : (bytes new more : List ℕ) (a b : ℕ) → a ≤ b → b ≤ length bytes → new ≡ take (b - a) (drop a bytes) ++ more
    → drop 0 (take (b - a) new) ≡ drop a (take b bytes)
moved bytes new more a b h k e =
    let l = length-take (b - a) (drop a bytes) in let d = length-drop a bytes in
    ap (take (b - a)) e ∙ take_at (take (b - a) (drop a bytes)) more (b - a) (omega (arith, l, d, h, k))
    ∙ sym (drop-take a (b - a) bytes) ∙ ap (λ n. drop a (take n bytes)) (omega (arith, h))
