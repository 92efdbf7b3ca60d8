-- What is packed is unpacked.
use Rattle.std.proofs.Common.{◌≡◌, ℕ, zero, suc, ◌*◌, ◌%◌, ◌<◌, ◌≤◌, ◌==◌, Bool, true, false, cond, nat_lt, List, [], ◌∷◌, ◌++◌, length, take, drop, replicate, Some, None, refl, ap, sym, ◌∙◌, arith}
use Rattle.std.proofs.lemmas.Bool.Decides.{nat_tests}
use Rattle.std.proofs.lemmas.List.{append_assoc, append-nil, length-append, length-drop, length-take, take-append-drop}
use Rattle.std.proofs.Math.Seq.{drop-append_seam, take-append_seam}
use Rattle.capnp_packed.specs.Packing.{nonzero, packed_form, packed_piece, packed_pieces, run_bytes, run_length, run_words, tag_of}
use Rattle.capnp_packed.specs.Unpacking.{piece_behind, piece_of, unpacked_bytes, words_counted, word_under, zeros_counted}
use Rattle.capnp_packed.proofs.Pieces.{first_piece, no_piece}
use Rattle.capnp_packed.proofs.Runs.{length_inside, no_tag, word_again, zeros_again}

-- ---- a piece ----

pub counted_again : (word run more : List ℕ) (n : ℕ) → length run ≡ 8 * n → words_counted word (n ∷ run ++ more) ≡ Some (word ++ run, more)
counted_again word run more n h =
    let short : nat_lt (length (run ++ more)) (8 * n) ≡ false = let e = length-append run more in grind (arith, nat_tests, e, h) in
    ap (λ t. cond t None (Some (word ++ take (8 * n) (run ++ more), drop (8 * n) (run ++ more)))) short
    ∙ ap (λ m. Some (word ++ take m (run ++ more), drop m (run ++ more))) (sym h)
    ∙ ap (λ x. Some (word ++ x, drop (length run) (run ++ more))) (take-append_seam run more)
    ∙ ap (λ x. Some (word ++ run, x)) (drop-append_seam run more)

-- what stands behind a tag and the bytes of its word
run_again : (z f : Bool) (word bytes more : List ℕ) (n : ℕ) → 8 * n ≤ length bytes
    → (z ≡ true → (word ≡ replicate 8 0) × (take (8 * n) bytes ≡ replicate (8 * n) 0)) → (z ≡ false → f ≡ false → n ≡ 0)
    → cond z (zeros_counted (cond z (n ∷ []) (cond f (n ∷ take (8 * n) bytes) []) ++ more))
    (cond f (words_counted word (cond z (n ∷ []) (cond f (n ∷ take (8 * n) bytes) []) ++ more)) (Some (word, cond z (n ∷ []) (cond f (n ∷ take (8 * n) bytes) []) ++ more)))
    ≡ Some (word ++ take (8 * n) bytes, more)
run_again true f word bytes more n inside zeros alone =
    let h = zeros refl in ap (λ w. Some (w ++ replicate (8 * n) 0, more)) (sym h.0) ∙ ap (λ x. Some (word ++ x, more)) (sym h.1)
run_again false true word bytes more n inside zeros alone =
    counted_again word (take (8 * n) bytes) more n (let e = length-take (8 * n) bytes in omega (arith, e, inside))
run_again false false word bytes more n inside zeros alone =
    let e = alone refl refl in
    ap (λ w. Some (w, more)) (sym (append-nil word)) ∙ ap (λ k. Some (word ++ take (8 * k) bytes, more)) (sym e)

run_words_inside : (z f : Bool) (bytes : List ℕ) → 8 * cond z (run_length true bytes) (cond f (run_length false bytes) 0) ≤ length bytes
run_words_inside true f bytes = length_inside true bytes
run_words_inside false true bytes = length_inside false bytes
run_words_inside false false bytes = omega arith

run_words_zeros : (z f : Bool) (bytes : List ℕ) → z ≡ true
    → take (8 * cond z (run_length true bytes) (cond f (run_length false bytes) 0)) bytes ≡ replicate (8 * cond z (run_length true bytes) (cond f (run_length false bytes) 0)) 0
run_words_zeros true f bytes h = zeros_again bytes
run_words_zeros false f bytes h = absurd (grind (arith, h))

run_words_alone : (z f : Bool) (m n : ℕ) → z ≡ false → f ≡ false → cond z m (cond f n 0) ≡ 0
run_words_alone false false m n h g = refl
run_words_alone true f m n h g = absurd (grind (arith, h))
run_words_alone false true m n h g = absurd (grind (arith, g))

zero_tag : (word : List ℕ) → length word ≡ 8 → (tag_of word == 0) ≡ true → word ≡ replicate 8 0
zero_tag word long h = no_tag word (grind (arith, nat_tests, h)) ∙ ap (λ k. replicate k 0) long

pub piece_again : (word bytes more : List ℕ) → length word ≡ 8
    → piece_of (packed_piece word (run_words (tag_of word) bytes) bytes ++ more) ≡ Some (word ++ take (8 * run_words (tag_of word) bytes) bytes, more)
piece_again word bytes more long =
    let tag = tag_of word in
    let n = run_words tag bytes in
    ap (λ x. piece_behind tag (word_under tag x)) (append_assoc (nonzero word) (run_bytes tag n bytes) more)
    ∙ ap (piece_behind tag) (word_again word (run_bytes tag n bytes ++ more) long)
    ∙ run_again (tag == 0) (tag == 255) word bytes more n (run_words_inside (tag == 0) (tag == 255) bytes)
    (λ z. (zero_tag word long z, run_words_zeros (tag == 0) (tag == 255) bytes z))
    (run_words_alone (tag == 0) (tag == 255) (run_length true bytes) (run_length false bytes))

-- ---- pieces one after another ----

rest_shorter : (b n : ℕ) (bytes : List ℕ) → length (drop (8 * n) (drop 8 (b ∷ bytes))) ≤ length bytes
rest_shorter b n bytes = let e = length-drop (8 * n) (drop 8 (b ∷ bytes)) in let f = length-drop 8 (b ∷ bytes) in omega (arith, e, f)

enough : (k m : ℕ) (bytes : List ℕ) → length bytes ≤ k → length bytes ≤ m → packed_pieces k bytes ≡ packed_pieces m bytes
enough zero zero bytes h g = refl
enough zero (suc m) [] h g = refl
enough zero (suc m) (b ∷ bytes) h g = absurd (omega (arith, h))
enough (suc k) zero [] h g = refl
enough (suc k) zero (b ∷ bytes) h g = absurd (omega (arith, g))
enough (suc k) (suc m) [] h g = refl
enough (suc k) (suc m) (b ∷ bytes) h g =
    let n = run_words (tag_of (take 8 (b ∷ bytes))) (drop 8 (b ∷ bytes)) in
    let s = rest_shorter b n bytes in
    ap (λ x. packed_piece (take 8 (b ∷ bytes)) n (drop 8 (b ∷ bytes)) ++ x) (enough k m (drop (8 * n) (drop 8 (b ∷ bytes))) (omega (arith, h, s)) (omega (arith, g, s)))

-- bytes are packed a piece at a time
pub packed_more : (bytes : List ℕ) → 0 < length bytes
    → packed_form bytes ≡ packed_piece (take 8 bytes) (run_words (tag_of (take 8 bytes)) (drop 8 bytes)) (drop 8 bytes)
    ++ packed_form (drop (8 * run_words (tag_of (take 8 bytes)) (drop 8 bytes)) (drop 8 bytes))
unfolding packed_form
packed_more [] h = absurd (omega (arith, h))
packed_more (b ∷ bytes) h =
    let n = run_words (tag_of (take 8 (b ∷ bytes))) (drop 8 (b ∷ bytes)) in
    let rest = drop (8 * n) (drop 8 (b ∷ bytes)) in
    ap (λ x. packed_piece (take 8 (b ∷ bytes)) n (drop 8 (b ∷ bytes)) ++ x) (enough (length bytes) (length rest) rest (rest_shorter b n bytes) (omega arith))

pub packed_none : (bytes : List ℕ) → length bytes ≡ 0 → packed_form bytes ≡ []
unfolding packed_form
packed_none [] h = refl
packed_none (b ∷ bytes) h = absurd (omega (arith, h))

unpacked_none : unpacked_bytes [] ≡ []
unpacked_none = no_piece [] refl

no_bytes : (bytes : List ℕ) → length bytes ≡ 0 → bytes ≡ []
no_bytes [] h = refl
no_bytes (b ∷ bytes) h = absurd (omega (arith, h))

back : (k : ℕ) (bytes : List ℕ) → length bytes ≤ k → length bytes % 8 ≡ 0 → unpacked_bytes (packed_form bytes) ≡ bytes
back zero bytes h whole = ap unpacked_bytes (packed_none bytes (omega (arith, h))) ∙ unpacked_none ∙ sym (no_bytes bytes (omega (arith, h)))
back (suc k) [] h whole = ap unpacked_bytes (packed_none [] refl) ∙ unpacked_none
back (suc k) (b ∷ bytes) h whole =
    let all = b ∷ bytes in
    let word = take 8 all in
    let behind = drop 8 all in
    let n = run_words (tag_of word) behind in
    let rest = drop (8 * n) behind in
    let lw = length-take 8 all in let lb = length-drop 8 all in let lr = length-drop (8 * n) behind in
    let inside = run_words_inside (tag_of word == 0) (tag_of word == 255) behind in
    let long : length word ≡ 8 = omega (arith, lw, whole) in
    ap unpacked_bytes (packed_more all (omega arith))
    ∙ first_piece (packed_piece word n behind ++ packed_form rest) (word ++ take (8 * n) behind, packed_form rest) (sym (piece_again word behind (packed_form rest) long))
    ∙ ap (λ x. (word ++ take (8 * n) behind) ++ x) (back k rest (omega (arith, h, lb, lr)) (omega (arith, whole, lb, lr, inside)))
    ∙ append_assoc word (take (8 * n) behind) rest
    ∙ ap (λ x. word ++ x) (take-append-drop (8 * n) behind)
    ∙ take-append-drop 8 all

pub round_trip : (bytes : List ℕ) → length bytes % 8 ≡ 0 → unpacked_bytes (packed_form bytes) ≡ bytes
round_trip bytes whole = back (length bytes) bytes (omega arith) whole

-- ---- one turn of the loop that packs ----

piece_and_rest : List ℕ → List ℕ → List ℕ
piece_and_rest word behind = packed_piece word (run_words (tag_of word) behind) behind ++ packed_form (drop (8 * run_words (tag_of word) behind) behind)

pub left_packed : (out new left word behind rest all : List ℕ) (n : ℕ) → 8 ≤ length left → word ≡ take 8 left → behind ≡ drop 8 left
    → n ≡ run_words (tag_of word) behind → rest ≡ drop (8 * n) behind
    → new ≡ out ++ packed_piece word (run_words (tag_of word) behind) behind → out ++ packed_form left ≡ all → new ++ packed_form rest ≡ all
unfolding piece_and_rest
left_packed out new left word behind rest all n some w b c r o h =
    let piece = packed_piece word (run_words (tag_of word) behind) behind in
    ap (λ x. x ++ packed_form rest) o ∙ append_assoc out piece (packed_form rest)
    ∙ ap (λ x. out ++ (piece ++ packed_form x)) (r ∙ ap (λ k. drop (8 * k) behind) c)
    ∙ ap (λ x. out ++ piece_and_rest x behind) w ∙ ap (λ x. out ++ piece_and_rest (take 8 left) x) b
    ∙ ap (λ x. out ++ x) (sym (packed_more left (omega (arith, some)))) ∙ h

pub left_whole : (left word behind rest : List ℕ) (n : ℕ) → 8 ≤ length left → behind ≡ drop 8 left → n ≡ run_words (tag_of word) behind
    → rest ≡ drop (8 * n) behind → length left % 8 ≡ 0 → length rest % 8 ≡ 0
left_whole left word behind rest n some b c r whole =
    let lb = ap length b ∙ length-drop 8 left in
    let lr = ap length r ∙ length-drop (8 * n) behind in
    let inside = run_words_inside (tag_of word == 0) (tag_of word == 255) behind in
    omega (arith, some, whole, lb, lr, inside, c)
