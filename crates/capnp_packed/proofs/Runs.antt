-- What runs and words are, by their tags.
use Rattle.std.proofs.Common.{◌≡◌, ℕ, zero, suc, ◌*◌, ◌+◌, ◌/◌, ◌%◌, ◌≤◌, ◌==◌, Bool, true, false, cond, List, [], ◌∷◌, ◌++◌, length, take, drop, replicate, Some, refl, ap, sym, ◌∙◌, arith}
use Rattle.std.proofs.Math.Seq.{take-add}
use Rattle.std.proofs.lemmas.Bool.Decides.{nat_tests}
use Rattle.std.proofs.lemmas.List.{length-drop, length-take, replicate-append-replicate}
use Rattle.capnp_packed.specs.Packing.{goes_on_packed, nonzero, run_length, tag_of, words_passing}
use Rattle.capnp_packed.specs.Unpacking.{bytes_under, tag_bits, with_byte, word_under}
use Rattle.capnp_packed.proofs.Tags.{goes_on_whole}

-- ---- a word under its tag ----

bits_zero : (k tag : ℕ) → tag_bits (suc k) (0 + 2 * tag) ≡ false ∷ tag_bits k tag
bits_zero k tag =
    let e : ((0 + 2 * tag) % 2 == 1) ≡ false = grind (arith, nat_tests) in
    let f : (0 + 2 * tag) / 2 ≡ tag = omega arith in
    ap (λ b. b ∷ tag_bits k ((0 + 2 * tag) / 2)) e ∙ ap (λ t. false ∷ tag_bits k t) f

bits_one : (k tag : ℕ) → tag_bits (suc k) (1 + 2 * tag) ≡ true ∷ tag_bits k tag
bits_one k tag =
    let e : ((1 + 2 * tag) % 2 == 1) ≡ true = grind (arith, nat_tests) in
    let f : (1 + 2 * tag) / 2 ≡ tag = omega arith in
    ap (λ b. b ∷ tag_bits k ((1 + 2 * tag) / 2)) e ∙ ap (λ t. true ∷ tag_bits k t) f

bytes_again : (word more : List ℕ) → bytes_under (tag_bits (length word) (tag_of word)) (nonzero word ++ more) ≡ Some (word, more)
bytes_again [] more = refl
bytes_again (zero ∷ word) more = ap (λ bits. bytes_under bits (nonzero word ++ more)) (bits_zero (length word) (tag_of word)) ∙ ap (with_byte 0) (bytes_again word more)
bytes_again (suc b ∷ word) more = ap (λ bits. bytes_under bits (suc b ∷ nonzero word ++ more)) (bits_one (length word) (tag_of word)) ∙ ap (with_byte (suc b)) (bytes_again word more)

pub word_again : (word more : List ℕ) → length word ≡ 8 → word_under (tag_of word) (nonzero word ++ more) ≡ Some (word, more)
unfolding word_under
word_again word more h = ap (λ k. bytes_under (tag_bits k (tag_of word)) (nonzero word ++ more)) (sym h) ∙ bytes_again word more

-- ---- words of zeros ----

pub no_tag : (word : List ℕ) → tag_of word ≡ 0 → word ≡ replicate (length word) 0
no_tag [] h = refl
no_tag (zero ∷ word) h = ap (λ w. 0 ∷ w) (no_tag word (omega (arith, h)))
no_tag (suc b ∷ word) h = absurd (omega (arith, h))

none_left : (word : List ℕ) → length (nonzero word) ≡ 0 → word ≡ replicate (length word) 0
none_left [] h = refl
none_left (zero ∷ word) h = ap (λ w. 0 ∷ w) (none_left word h)
none_left (suc b ∷ word) h = absurd (omega (arith, h))

zero_word : (word : List ℕ) → goes_on_packed true word ≡ true → word ≡ replicate 8 0
zero_word word h =
    let none : length (nonzero word) ≡ 0 = grind (arith, nat_tests, h) in
    none_left word none ∙ ap (λ k. replicate k 0) (goes_on_whole true word h)

-- ---- runs ----

run_inside : (zeros : Bool) (k : ℕ) (bytes : List ℕ) → 8 * words_passing (goes_on_packed zeros) k bytes ≤ length bytes
unfolding words_passing
run_inside zeros zero bytes = omega arith
run_inside zeros (suc k) bytes = either (goes_on_packed zeros (take 8 bytes)) (goes_on_whole zeros (take 8 bytes)) (run_inside zeros k (drop 8 bytes))
  where
    n : ℕ
    n = words_passing (goes_on_packed zeros) k (drop 8 bytes)

    either : (t : Bool) → (t ≡ true → length (take 8 bytes) ≡ 8) → 8 * n ≤ length (drop 8 bytes) → 8 * cond t (suc n) 0 ≤ length bytes
    either false g i = omega arith
    either true g i = let e = g refl in let f = length-take 8 bytes in let d = length-drop 8 bytes in omega (arith, e, f, i, d)

zero_run : (k : ℕ) (bytes : List ℕ) → take (8 * words_passing (goes_on_packed true) k bytes) bytes ≡ replicate (8 * words_passing (goes_on_packed true) k bytes) 0
unfolding words_passing
zero_run zero bytes = refl
zero_run (suc k) bytes = either (goes_on_packed true (take 8 bytes)) (zero_word (take 8 bytes)) (zero_run k (drop 8 bytes))
  where
    n : ℕ
    n = words_passing (goes_on_packed true) k (drop 8 bytes)

    either : (t : Bool) → (t ≡ true → take 8 bytes ≡ replicate 8 0) → take (8 * n) (drop 8 bytes) ≡ replicate (8 * n) 0 → take (8 * cond t (suc n) 0) bytes ≡ replicate (8 * cond t (suc n) 0) 0
    either false g i = refl
    either true g i =
        let e : 8 * suc n ≡ 8 + 8 * n = omega arith in
        ap (λ m. take m bytes) e ∙ take-add 8 (8 * n) bytes ∙ ap (λ x. x ++ take (8 * n) (drop 8 bytes)) (g refl)
        ∙ ap (λ x. ◌++◌ {A = ℕ} (replicate 8 0) x) i ∙ replicate-append-replicate 8 (8 * n) 0 ∙ ap (λ m. replicate m 0) (sym e)

pub zeros_again : (bytes : List ℕ) → take (8 * run_length true bytes) bytes ≡ replicate (8 * run_length true bytes) 0
zeros_again bytes = zero_run 255 bytes

pub length_inside : (zeros : Bool) (bytes : List ℕ) → 8 * run_length zeros bytes ≤ length bytes
length_inside zeros bytes = run_inside zeros 255 bytes
