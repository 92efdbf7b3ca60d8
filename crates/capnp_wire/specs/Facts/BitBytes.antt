-- Bits of bytes, packed again.
use Rattle.std.proofs.Common.{◌≡◌, ℕ, zero, suc, ◌+◌, ◌-◌, ◌*◌, ◌/◌, ◌%◌, ◌<◌, ◌≤◌, ◌^◌, List, [], ◌∷◌, ◌++◌, take, drop, refl, sym, ap, ◌∙◌, arith, Bool, cond, ◌==◌, get_or}
use Rattle.std.proofs.lemmas.List.{drop-drop, take_all}
use Rattle.std.proofs.lemmas.Nat.{shr-shr, mod-pow-add}
use Rattle.std.proofs.lemmas.Bool.Decides.{nat_tests}
use Rattle.capnp_wire.specs.Slot.{bit_at}
use Rattle.capnp_wire.specs.Place.{bits_from}
use Rattle.capnp_wire.specs.Encoding.{bits_number, packed_bits}
use Rattle.capnp_wire.specs.Facts.Indexed.{length_bits_from}
use Rattle.capnp_wire.specs.Facts.Appending.{part_next}

-- so many of a number's bits, lowest first
abbrev bits_of : ℕ → ℕ → List Bool
bits_of n zero = []
bits_of n (suc m) = ((n % 2) == 1) ∷ bits_of (n / 2) m

-- the lowest bit as a number
low_bit : (n : ℕ) → cond ((n % 2) == 1) 1 0 ≡ n % 2
low_bit n = grind (arith, nat_tests)

-- the number that these bits spell
number_of : (m n : ℕ) → bits_number (bits_of n m) ≡ n % 2 ^ m
number_of zero n = omega arith
number_of (suc m) n =
    let e : n % 2 ^ (m + 1) ≡ (n / 2 ^ 1 % 2 ^ m) * 2 ^ 1 + n % 2 ^ 1 = mod-pow-add n m 1 in
    let s : suc m ≡ m + 1 = omega arith in
    let r : bits_number (bits_of (n / 2) m) ≡ (n / 2) % 2 ^ m = number_of m (n / 2) in
    let l : cond ((n % 2) == 1) 1 0 ≡ n % 2 = low_bit n in
    rw s (omega arith)

-- bits of a run, without the first ones
from_drop : (b : List ℕ) (j a n : ℕ) → drop j (bits_from b a n) ≡ bits_from b (a + j) (n - j)
from_drop b zero a n =
    let e : a ≡ a + 0 = omega arith in
    let f : n ≡ n - 0 = omega arith in
    ap (λ x. bits_from b x n) e ∙ ap (bits_from b (a + 0)) f
from_drop b (suc j) a zero =
    let f : 0 ≡ 0 - suc j = omega arith in
    ap (bits_from b (a + suc j)) f
from_drop b (suc j) a (suc n) =
    let e : suc a + j ≡ a + suc j = omega arith in
    let f : n - j ≡ suc n - suc j = omega arith in
    from_drop b j (suc a) n ∙ ap (λ x. bits_from b x (n - j)) e ∙ ap (bits_from b (a + suc j)) f

-- the first bits of a run
from_take : (b : List ℕ) (m a n : ℕ) → m ≤ n → take m (bits_from b a n) ≡ bits_from b a m
from_take b zero a n h = refl
from_take b (suc m) a zero h = absurd (omega arith)
from_take b (suc m) a (suc n) h = ap (λ x. bit_at b a ∷ x) (from_take b m (suc a) n (omega arith))

-- bits of one byte
from_byte : (b : List ℕ) (k m i : ℕ) → i + m ≤ 8 → bits_from b (8 * k + i) m ≡ bits_of (get_or b k 0 / 2 ^ i) m
from_byte b k zero i h = refl
from_byte b k (suc m) i h =
    let q : (8 * k + i) / 8 ≡ k = omega arith in
    let r : (8 * k + i) % 8 ≡ i = omega arith in
    let s : suc (8 * k + i) ≡ 8 * k + suc i = omega arith in
    let t : i + 1 ≡ suc i = omega arith in
    let first : bit_at b (8 * k + i) ≡ (((get_or b k 0 / 2 ^ i) % 2) == 1) = ap (λ x. ((get_or b x 0 / 2 ^ ((8 * k + i) % 8)) % 2) == 1) q ∙ ap (λ x. ((get_or b k 0 / 2 ^ x) % 2) == 1) r in
    let rest : bits_from b (suc (8 * k + i)) m ≡ bits_of (get_or b k 0 / 2 ^ i / 2) m = ap (λ x. bits_from b x m) s ∙ from_byte b k m (suc i) (omega arith) ∙ ap (λ x. bits_of (get_or b k 0 / 2 ^ x) m) (sym t) ∙ ap (λ x. bits_of x m) (sym (shr-shr (get_or b k 0) i 1)) in
    ap (λ x. x ∷ bits_from b (suc (8 * k + i)) m) first ∙ ap (λ x. (((get_or b k 0 / 2 ^ i) % 2) == 1) ∷ x) rest

-- the number that the first bits of a byte spell
byte_of : (b : List ℕ) (k m : ℕ) → m ≤ 8 → bits_number (bits_from b (8 * k) m) ≡ get_or b k 0 % 2 ^ m
byte_of b k m h =
    let z : 8 * k ≡ 8 * k + 0 = omega arith in
    let o : get_or b k 0 / 2 ^ 0 ≡ get_or b k 0 = omega arith in
    ap (λ x. bits_number (bits_from b x m)) z ∙ ap bits_number (from_byte b k m 0 (omega arith)) ∙ number_of m (get_or b k 0 / 2 ^ 0) ∙ ap (λ x. x % 2 ^ m) o

-- the bits from a byte on
at_place : (b : List ℕ) (k n : ℕ) → drop (8 * k) (bits_from b 0 n) ≡ bits_from b (8 * k) (n - 8 * k)
at_place b k n =
    let z : 0 + 8 * k ≡ 8 * k = omega arith in
    from_drop b (8 * k) 0 n ∙ ap (λ x. bits_from b x (n - 8 * k)) z

-- a byte of which all eight bits count
pub bits_whole : (b : List ℕ) (k n : ℕ) → 8 ≤ n - 8 * k → bits_number (take 8 (drop (8 * k) (bits_from b 0 n))) ≡ get_or b k 0 % 2 ^ 8
bits_whole b k n h = ap (λ x. bits_number (take 8 x)) (at_place b k n) ∙ ap bits_number (from_take b 8 (8 * k) (n - 8 * k) h) ∙ byte_of b k 8 (omega arith)

-- a byte of which the last bits may not count
pub bits_some : (b : List ℕ) (k n : ℕ) → n - 8 * k ≤ 8 → bits_number (take 8 (drop (8 * k) (bits_from b 0 n))) ≡ get_or b k 0 % 2 ^ (n - 8 * k)
bits_some b k n h = ap (λ x. bits_number (take 8 x)) (at_place b k n) ∙ ap bits_number (take_all 8 (bits_from b (8 * k) (n - 8 * k)) (omega (arith, length_bits_from b (8 * k) (n - 8 * k)))) ∙ byte_of b k (n - 8 * k) h

-- a byte past the bits
pub bits_past : (b : List ℕ) (k n : ℕ) → n / 8 + 1 ≤ k → 0 ≡ bits_number (take 8 (drop (8 * k) (bits_from b 0 n)))
bits_past b k n h =
    let z : n - 8 * k ≡ 0 = omega arith in
    sym (bits_some b k n (omega arith) ∙ ap (λ x. get_or b k 0 % 2 ^ x) z ∙ omega arith)

-- one more byte of packed bits
pub packed_next : (before after whole : List ℕ) (byte size k : ℕ) (bs : List Bool) → k < size → after ≡ before ++ byte ∷ [] → byte ≡ bits_number (take 8 (drop (8 * k) bs)) → before ++ packed_bits (size - k) (drop (8 * k) bs) ≡ whole → after ++ packed_bits (size - (k + 1)) (drop (8 * (k + 1)) bs) ≡ whole
packed_next before after whole byte size k bs h a e d =
    let s : size - k ≡ suc (size - (k + 1)) = omega arith in
    let p : 8 * k + 8 ≡ 8 * (k + 1) = omega arith in
    let q : drop 8 (drop (8 * k) bs) ≡ drop (8 * (k + 1)) bs = drop-drop 8 (8 * k) bs ∙ ap (λ x. drop x bs) p in
    let d2 : before ++ packed_bits (suc (size - (k + 1))) (drop (8 * k) bs) ≡ whole = ap (λ x. before ++ packed_bits x (drop (8 * k) bs)) (sym s) ∙ d in
    ap (λ x. after ++ packed_bits (size - (k + 1)) x) (sym q) ∙ part_next before after (bits_number (take 8 (drop (8 * k) bs)) ∷ []) (packed_bits (size - (k + 1)) (drop 8 (drop (8 * k) bs))) whole (a ∙ ap (λ x. before ++ x ∷ []) e) d2
