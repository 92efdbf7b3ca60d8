-- What is left is shorter than what it was read from.
use Rattle.std.proofs.Common.{ℕ, suc, ◌<◌, ◌≤◌, ◌==◌, Bool, true, false, cond, List, [], ◌∷◌, length, Ok, Err, arith}
use Rattle.std.specs.Prelude.{⊤}
use Rattle.capnp_json_text.specs.Readings.{Rest, then_read, after_one, after_only, after_blanks, is_blank}

-- what is left has less than so many bytes
abbrev pub Below : ℕ → Rest → Type 0
Below n (Ok rest) = length rest < n
Below n (Err fault) = ⊤

-- a reading takes a byte, or at least adds none
abbrev pub Shrinks : (List ℕ → Rest) → Type 0
Shrinks f = (bs : List ℕ) → Below (length bs) (f bs)

abbrev pub Stays : (List ℕ → Rest) → Type 0
Stays f = (bs : List ℕ) → Below (suc (length bs)) (f bs)

pub below_wider : (n m : ℕ) (r : Rest) → n ≤ m → Below n r → Below m r
below_wider n m (Ok rest) h b = omega (arith, h, b)
below_wider n m (Err fault) h b = tt

pub shrinks_stays : (f : List ℕ → Rest) → Shrinks f → Stays f
shrinks_stays f s bs = below_wider (length bs) (suc (length bs)) (f bs) (omega arith) (s bs)

pub below_either : (n : ℕ) (t : Bool) (p q : Rest) → Below n p → Below n q → Below n (cond t p q)
below_either n true p q h k = h
below_either n false p q h k = k

pub below_then : (n : ℕ) (r : Rest) (f : List ℕ → Rest) → Below n r → Stays f → Below n (then_read r f)
below_then n (Ok rest) f h s = below_wider (suc (length rest)) n (f rest) (omega (arith, h)) (s rest)
below_then n (Err fault) f h s = tt

pub shorter_either : (n : ℕ) (t : Bool) (p q : List ℕ) → length p ≤ n → length q ≤ n → length (cond t p q) ≤ n
shorter_either n true p q h k = h
shorter_either n false p q h k = k

pub one_shrinks : (test : ℕ → Bool) → (bs : List ℕ) → Below (length bs) (after_one test bs)
one_shrinks test [] = tt
one_shrinks test (b ∷ bs) = below_either (suc (length bs)) (test b) (Ok bs) (Err (b ∷ bs)) (omega arith) tt

pub only_shrinks : (wanted : ℕ) → (bs : List ℕ) → Below (length bs) (after_only wanted bs)
only_shrinks wanted [] = tt
only_shrinks wanted (b ∷ bs) = below_either (suc (length bs)) (b == wanted) (Ok bs) (Err (b ∷ bs)) (omega arith) tt

pub one_stays : (test : ℕ → Bool) → Stays (after_one test)
one_stays test = shrinks_stays (after_one test) (one_shrinks test)

pub only_stays : (wanted : ℕ) → Stays (after_only wanted)
only_stays wanted = shrinks_stays (after_only wanted) (only_shrinks wanted)

pub blanks_shorter : (bs : List ℕ) → length (after_blanks bs) ≤ length bs
blanks_shorter [] = omega arith
blanks_shorter (b ∷ bs) = shorter_either (suc (length bs)) (is_blank b) (after_blanks bs) (b ∷ bs) (let h = blanks_shorter bs in omega (arith, h)) (omega arith)
