-- Worked rows: those of the encoding page, runs of zeros and of full words, and pieces that are cut.
use Rattle.std.specs.Prelude.{ℕ, List, [], ◌∷◌, ◌++◌, replicate, refl, ◌≡◌}
use Rattle.capnp_packed.specs.Packing.{packed_form, words_passing}
use Rattle.capnp_packed.specs.Unpacking.{unpacked_bytes, word_under}

page_row : List ℕ
page_row = 8 ∷ 0 ∷ 0 ∷ 0 ∷ 3 ∷ 0 ∷ 2 ∷ 0 ∷ 25 ∷ 0 ∷ 0 ∷ 0 ∷ 170 ∷ 1 ∷ 0 ∷ 0 ∷ []

page_packed : List ℕ
page_packed = 81 ∷ 8 ∷ 3 ∷ 2 ∷ 49 ∷ 25 ∷ 170 ∷ 1 ∷ []

row_page : packed_form page_row ≡ page_packed
unfolding packed_form words_passing page_packed page_row
row_page = refl

row_page_unpacked : unpacked_bytes page_packed ≡ page_row
unfolding unpacked_bytes word_under page_packed page_row
row_page_unpacked = refl

row_zeros : packed_form (replicate 32 0) ≡ 0 ∷ 3 ∷ []
unfolding packed_form words_passing
row_zeros = refl

row_zeros_unpacked : unpacked_bytes (0 ∷ 3 ∷ []) ≡ replicate 32 0
unfolding unpacked_bytes word_under
row_zeros_unpacked = refl

row_full : packed_form (replicate 32 138) ≡ 255 ∷ (replicate 8 138 ++ 3 ∷ replicate 24 138)
unfolding packed_form words_passing
row_full = refl

row_full_unpacked : unpacked_bytes (255 ∷ (replicate 8 138 ++ 3 ∷ replicate 24 138)) ≡ replicate 32 138
unfolding unpacked_bytes word_under
row_full_unpacked = refl

-- a run of full words goes on over a word with one zero byte, and ends before one with two
row_one_zero : packed_form (replicate 8 1 ++ 0 ∷ replicate 7 1 ++ 0 ∷ 0 ∷ replicate 6 1)
    ≡ 255 ∷ (replicate 8 1 ++ 1 ∷ 0 ∷ replicate 7 1 ++ 252 ∷ replicate 6 1)
unfolding packed_form words_passing
row_one_zero = refl

-- a cut piece gives no word: without its count, without a byte of its word, without a word of its run
row_no_count : unpacked_bytes (0 ∷ []) ≡ []
unfolding unpacked_bytes word_under
row_no_count = refl

row_cut_word : unpacked_bytes (1 ∷ 7 ∷ 3 ∷ 7 ∷ []) ≡ 7 ∷ replicate 7 0
unfolding unpacked_bytes word_under
row_cut_word = refl

row_cut_run : unpacked_bytes (255 ∷ replicate 8 1 ++ 2 ∷ replicate 15 1) ≡ []
unfolding unpacked_bytes word_under
row_cut_run = refl

-- the count of a run doesn't count its first word
row_one_zero_word : unpacked_bytes (0 ∷ 0 ∷ []) ≡ replicate 8 0
unfolding unpacked_bytes word_under
row_one_zero_word = refl
