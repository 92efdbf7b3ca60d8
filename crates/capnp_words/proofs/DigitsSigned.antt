-- Numbers with a sign are read as they are written.
use Rattle.std.proofs.Common.{decimal, ◌==◌, pos, negsuc, ◌≡◌, ℕ, zero, suc, ◌^◌, ◌<◌, ◌≤◌, List, [], ◌∷◌, length, get_or, false, Ok, refl, arith}
use Rattle.std.specs.Fmt.{signed_decimal}
use Rattle.std.proofs.lemmas.Bool.Decides.{nat_tests}
use Rattle.std.proofs.lemmas.Fmt.{decimal_digit, decimal_nonempty, first_decimal}
use Rattle.capnp_words.specs.Reads.{read_as}
use Rattle.capnp_words.specs.Numbers.{decimal_at, minus, negative_at, signed_at}
use Rattle.capnp_words.proofs.DigitsRead.{decimal_again}

pub first_digit : (n : ℕ) → n < 2 ^ 64 → 47 < get_or (decimal n) 0 0
first_digit zero h = rw (decimal_digit 0 (omega arith)) (omega arith)
first_digit (suc n) h = omega (arith, first_decimal (suc n) (omega arith) h)

not_minus : (limit place : ℕ) (ds : List ℕ) → 0 < length ds → 47 < get_or ds 0 0 → signed_at limit place ds ≡ read_as pos (decimal_at limit place ds)
not_minus limit place [] h k = absurd (omega arith)
not_minus limit place (b ∷ bs) h k = let e : (b == 45) ≡ false = grind (arith, nat_tests) in rw e refl

behind_minus : (limit place : ℕ) (ds : List ℕ) → 0 < length ds → 48 < get_or ds 0 0 → negative_at limit place ds ≡ read_as minus (decimal_at limit place ds)
behind_minus limit place [] h k = absurd (omega arith)
behind_minus limit place (b ∷ bs) h k = let e : (b == 48) ≡ false = grind (arith, nat_tests) in rw e refl

pub positive_again : (limit n : ℕ) → n < 2 ^ 64 → n ≤ limit → signed_at limit 0 (signed_decimal (pos n)) ≡ Ok (pos n)
positive_again limit n h k = rw (not_minus limit 0 (decimal n) (decimal_nonempty n h) (first_digit n h), decimal_again limit 0 n h k) refl

pub negative_again : (limit n : ℕ) → suc n < 2 ^ 64 → n ≤ limit → signed_at limit 0 (signed_decimal (negsuc n)) ≡ Ok (negsuc n)
negative_again limit n h k =
    rw (behind_minus (suc limit) 1 (decimal (suc n)) (decimal_nonempty (suc n) h) (first_decimal (suc n) (omega arith) h), decimal_again (suc limit) 1 (suc n) h (omega arith)) refl
