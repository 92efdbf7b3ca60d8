-- The tag of a word, its bytes that are not zero, and runs.
use Rattle.std.proofs.Common.{◌≡◌, ℕ, zero, suc, ◌*◌, ◌+◌, ◌-◌, ◌<◌, Bool, true, false, cond, List, [], ◌∷◌, length, take, drop, slice_index_or, refl, ap, ◌∙◌, arith}
use Rattle.std.proofs.lemmas.Bool.Decides.{nat_tests}
use Rattle.std.proofs.lemmas.List.{length-take}
use Rattle.capnp_packed.specs.Packing.{bit_of, goes_on_packed, tag_of, words_passing}

pub tag_sum : (w : List ℕ) → length w ≡ 8 → bit_of (slice_index_or w 0 0) + 2 * bit_of (slice_index_or w 1 0)
    + 4 * bit_of (slice_index_or w 2 0) + 8 * bit_of (slice_index_or w 3 0) + 16 * bit_of (slice_index_or w 4 0)
    + 32 * bit_of (slice_index_or w 5 0) + 64 * bit_of (slice_index_or w 6 0) + 128 * bit_of (slice_index_or w 7 0) ≡ tag_of w
tag_sum (a ∷ b ∷ c ∷ d ∷ e ∷ f ∷ g ∷ h ∷ []) q = omega arith
tag_sum [] q = absurd (omega (arith, q))
tag_sum (a ∷ []) q = absurd (omega (arith, q))
tag_sum (a ∷ b ∷ []) q = absurd (omega (arith, q))
tag_sum (a ∷ b ∷ c ∷ []) q = absurd (omega (arith, q))
tag_sum (a ∷ b ∷ c ∷ d ∷ []) q = absurd (omega (arith, q))
tag_sum (a ∷ b ∷ c ∷ d ∷ e ∷ []) q = absurd (omega (arith, q))
tag_sum (a ∷ b ∷ c ∷ d ∷ e ∷ f ∷ []) q = absurd (omega (arith, q))
tag_sum (a ∷ b ∷ c ∷ d ∷ e ∷ f ∷ g ∷ []) q = absurd (omega (arith, q))
tag_sum (a ∷ b ∷ c ∷ d ∷ e ∷ f ∷ g ∷ h ∷ i ∷ w) q = absurd (omega (arith, q))

-- ---- the words of a run ----

pub goes_on_whole : (zeros : Bool) (word : List ℕ) → goes_on_packed zeros word ≡ true → length word ≡ 8
goes_on_whole true word h = grind (arith, nat_tests, h)
goes_on_whole false word h = grind (arith, nat_tests, h)

-- no run goes on where no word is left
pub run_ends : (zeros : Bool) (k : ℕ) (bytes : List ℕ) → goes_on_packed zeros (take 8 bytes) ≡ false → words_passing (goes_on_packed zeros) k bytes ≡ 0
unfolding words_passing
run_ends zeros zero bytes h = refl
run_ends zeros (suc k) bytes h = ap (λ t. cond t (suc (words_passing (goes_on_packed zeros) k (drop 8 bytes))) 0) h

pub too_short : (zeros : Bool) (bytes : List ℕ) → length bytes < 8 → goes_on_packed zeros (take 8 bytes) ≡ false
too_short zeros bytes h = either (goes_on_packed zeros (take 8 bytes)) (goes_on_whole zeros (take 8 bytes))
  where
    either : (t : Bool) → (t ≡ true → length (take 8 bytes) ≡ 8) → t ≡ false
    either false g = refl
    either true g = absurd (let e = g refl in let f = length-take 8 bytes in omega (arith, e, f, h))

pub run_goes_on : (zeros : Bool) (k : ℕ) (bytes : List ℕ) → goes_on_packed zeros (take 8 bytes) ≡ true
    → words_passing (goes_on_packed zeros) (suc k) bytes ≡ suc (words_passing (goes_on_packed zeros) k (drop 8 bytes))
unfolding words_passing
run_goes_on zeros k bytes h = ap (λ t. cond t (suc (words_passing (goes_on_packed zeros) k (drop 8 bytes))) 0) h

pub no_words : (zeros : Bool) (bytes : List ℕ) → words_passing (goes_on_packed zeros) 0 bytes ≡ 0
unfolding words_passing
no_words zeros bytes = refl

-- ---- one turn of a count ----

pub counted : (zeros : Bool) (count all : ℕ) (bytes : List ℕ) → count < 255 → goes_on_packed zeros (take 8 bytes) ≡ true
    → count + words_passing (goes_on_packed zeros) (255 - count) bytes ≡ all → (count + 1) + words_passing (goes_on_packed zeros) (255 - (count + 1)) (drop 8 bytes) ≡ all
counted zeros count all bytes few go h =
    let e : 255 - count ≡ suc (255 - (count + 1)) = omega (arith, few) in
    let f = ap (λ k. words_passing (goes_on_packed zeros) k bytes) e ∙ run_goes_on zeros (255 - (count + 1)) bytes go in
    omega (arith, f, h)

pub count_ends : (zeros : Bool) (count all : ℕ) (bytes : List ℕ) → goes_on_packed zeros (take 8 bytes) ≡ false
    → count + words_passing (goes_on_packed zeros) (255 - count) bytes ≡ all → count ≡ all
count_ends zeros count all bytes stop h = let e = run_ends zeros (255 - count) bytes stop in omega (arith, e, h)

pub full_count : (zeros : Bool) (count all : ℕ) (bytes : List ℕ) → count ≡ 255
    → count + words_passing (goes_on_packed zeros) (255 - count) bytes ≡ all → 255 ≡ all
full_count zeros count all bytes end h =
    let e = ap (λ k. words_passing (goes_on_packed zeros) (255 - k) bytes) end ∙ no_words zeros bytes in omega (arith, e, end, h)
