-- What is left is no longer than what it was read from.
use Rattle.std.proofs.Common.{ℕ, suc, ◌≤◌, Bool, true, false, cond, List, [], ◌∷◌, length, arith}
use Rattle.capnp_json_text.specs.Readings.{after_blanks, is_blank}

shorter_either : (n : ℕ) (t : Bool) (p q : List ℕ) → length p ≤ n → length q ≤ n → length (cond t p q) ≤ n
shorter_either n true p q h k = h
shorter_either n false p q h k = k

pub blanks_shorter : (bs : List ℕ) → length (after_blanks bs) ≤ length bs
blanks_shorter [] = omega arith
blanks_shorter (b ∷ bs) = shorter_either (suc (length bs)) (is_blank b) (after_blanks bs) (b ∷ bs) (let h = blanks_shorter bs in omega (arith, h)) (omega arith)
