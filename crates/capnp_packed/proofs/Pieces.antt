-- How pieces are read, a byte and a piece at a time.
use Rattle.std.proofs.Common.{◌≡◌, ℕ, zero, suc, ◌*◌, ◌+◌, ◌-◌, ◌/◌, ◌%◌, ◌<◌, ◌≤◌, ◌==◌, Bool, true, false, cond, nat_lt, List, [], ◌∷◌, ◌++◌, length, take, drop, slice_set, Option, Some, None, refl, ap, sym, subst, ◌∙◌, arith}
use Rattle.std.specs.Prelude.{⊤}
use Rattle.std.proofs.lemmas.List.{append-nil, length-drop, take_all, take_more_set}
use Rattle.capnp_packed.specs.Unpacking.{PackedPiece, before_rest, byte_under, bytes_under, piece_behind, piece_of, tag_bits, then_rest, unpacked_bytes, unpacked_pieces, with_byte, word_under, words_counted, zeros_counted}

abbrev pub after : List ℕ → Option PackedPiece → Option PackedPiece
after w None = None
after w (Some (v, rest)) = Some (w ++ v, rest)

pub after_byte : (w : List ℕ) (b : ℕ) (p : Option PackedPiece) → after w (with_byte b p) ≡ after (w ++ b ∷ []) p
after_byte w b None = refl
after_byte w b (Some (v, rest)) = ap (λ x. Some (x, rest)) (push_front w b v)
  where
    push_front : (w : List ℕ) (b : ℕ) (v : List ℕ) → w ++ b ∷ v ≡ (w ++ b ∷ []) ++ v
    push_front [] b v = refl
    push_front (c ∷ w) b v = ap (λ x. c ∷ x) (push_front w b v)

pub after_none : (p : Option PackedPiece) → after [] p ≡ p
after_none None = refl
after_none (Some (v, rest)) = refl

pub word_start : (tag : ℕ) (bytes : List ℕ) → after [] (bytes_under (tag_bits 8 tag) bytes) ≡ word_under tag bytes
unfolding word_under
word_start tag bytes = after_none (bytes_under (tag_bits 8 tag) bytes)

-- one byte more
pub next_bit : (k tag : ℕ) (w : List ℕ) (b : ℕ) (bytes rest : List ℕ) → byte_under (tag % 2 == 1) bytes ≡ Some (b, rest)
    → after w (bytes_under (tag_bits (suc k) tag) bytes) ≡ after (w ++ b ∷ []) (bytes_under (tag_bits k (tag / 2)) rest)
next_bit k tag w b bytes rest h = rw h (after_byte w b (bytes_under (tag_bits k (tag / 2)) rest))

pub no_bit : (k tag : ℕ) (w : List ℕ) (bytes : List ℕ) → byte_under (tag % 2 == 1) bytes ≡ None → after w (bytes_under (tag_bits (suc k) tag) bytes) ≡ None
no_bit k tag w bytes h = rw h refl

pub byte_read : (i tag : ℕ) (word : List ℕ) (b : ℕ) (bytes rest : List ℕ) (whole : Option PackedPiece) → i < 8 → length word ≡ 8
    → Some (b, rest) ≡ byte_under (tag % 2 == 1) bytes → after (take i word) (bytes_under (tag_bits (8 - i) tag) bytes) ≡ whole
    → after (take (i + 1) (slice_set word i b)) (bytes_under (tag_bits (8 - (i + 1)) (tag / 2)) rest) ≡ whole
byte_read i tag word b bytes rest whole inside long byte reads =
    let e : 8 - i ≡ suc (8 - (i + 1)) = omega (arith, inside) in
    let next = next_bit (8 - (i + 1)) tag (take i word) b bytes rest (sym byte) in
    ap (λ w. after w (bytes_under (tag_bits (8 - (i + 1)) (tag / 2)) rest)) (take_more_set word i b (omega (arith, inside, long)))
    ∙ sym next ∙ sym (ap (λ k. after (take i word) (bytes_under (tag_bits k tag) bytes)) e) ∙ reads

pub word_read : (tag i bits : ℕ) (word rest bytes : List ℕ) → length word ≡ 8 → i ≡ 8
    → after (take i word) (bytes_under (tag_bits (8 - i) bits) rest) ≡ word_under tag bytes → Some (word, rest) ≡ word_under tag bytes
word_read tag i bits word rest bytes long end reads =
    ap (λ w. Some (w, rest)) (sym (take_all 8 word (omega (arith, long))) ∙ sym (append-nil (take 8 word)))
    ∙ ap (λ k. after (take k word) (bytes_under (tag_bits (8 - k) bits) rest)) (sym end) ∙ reads

-- ---- a piece takes a byte at least ----

abbrev Within : {A : Type 0} → ℕ → Option (A × List ℕ) → Type 0
Within n None = ⊤
Within n (Some (x, rest)) = length rest ≤ n

within_more : {A : Type 0} (n m : ℕ) (p : Option (A × List ℕ)) → n ≤ m → Within n p → Within m p
within_more n m None h w = tt
within_more n m (Some (x, rest)) h w = omega (arith, h, w)

within_either : (n : ℕ) (b : Bool) (p q : Option PackedPiece) → Within n p → Within n q → Within n (cond b p q)
within_either n true p q h k = h
within_either n false p q h k = k

byte_within : (bit : Bool) (bytes : List ℕ) → Within (length bytes) (byte_under bit bytes)
byte_within false bytes = omega arith
byte_within true [] = tt
byte_within true (b ∷ bytes) = omega arith

with_within : (b n : ℕ) (p : Option PackedPiece) → Within n p → Within n (with_byte b p)
with_within b n None h = tt
with_within b n (Some (w, rest)) h = h

before_within : (f : List ℕ → Option PackedPiece) (n : ℕ) (p : Option (ℕ × List ℕ)) → ((bytes : List ℕ) → Within (length bytes) (f bytes))
    → Within n p → Within n (before_rest f p)
before_within f n None g h = tt
before_within f n (Some (b, rest)) g h = with_within b n (f rest) (within_more (length rest) n (f rest) h (g rest))

under_within : (bits : List Bool) (bytes : List ℕ) → Within (length bytes) (bytes_under bits bytes)
under_within [] bytes = omega arith
under_within (bit ∷ bits) bytes = before_within (bytes_under bits) (length bytes) (byte_under bit bytes) (under_within bits) (byte_within bit bytes)

word_within : (tag : ℕ) (bytes : List ℕ) → Within (length bytes) (word_under tag bytes)
unfolding word_under
word_within tag bytes = under_within (tag_bits 8 tag) bytes

zeros_within : (n : ℕ) (rest : List ℕ) → length rest ≤ n → Within n (zeros_counted rest)
zeros_within n [] h = tt
zeros_within n (c ∷ rest) h = omega (arith, h)

words_within : (n : ℕ) (word rest : List ℕ) → length rest ≤ n → Within n (words_counted word rest)
words_within n word [] h = tt
words_within n word (c ∷ rest) h = within_either n (nat_lt (length rest) (8 * c)) None (Some (word ++ take (8 * c) rest, drop (8 * c) rest)) tt (let e = length-drop (8 * c) rest in omega (arith, h, e))

behind_within : (tag n : ℕ) (p : Option PackedPiece) → Within n p → Within n (piece_behind tag p)
behind_within tag n None h = tt
behind_within tag n (Some (word, rest)) h = within_either n (tag == 0) (zeros_counted rest) (cond (tag == 255) (words_counted word rest) (Some (word, rest)))
    (zeros_within n rest h) (within_either n (tag == 255) (words_counted word rest) (Some (word, rest)) (words_within n word rest h) h)

piece_within : (tag : ℕ) (bytes : List ℕ) → Within (length bytes) (piece_of (tag ∷ bytes))
piece_within tag bytes = behind_within tag (length bytes) (word_under tag bytes) (word_within tag bytes)

-- ---- pieces one after another ----

then_same : (f g : List ℕ → List ℕ) (n : ℕ) (p : Option PackedPiece) → Within n p → ((rest : List ℕ) → length rest ≤ n → f rest ≡ g rest)
    → then_rest f p ≡ then_rest g p
then_same f g n None h k = refl
then_same f g n (Some (words, rest)) h k = ap (λ x. words ++ x) (k rest h)

enough : (k m : ℕ) (bytes : List ℕ) → length bytes ≤ k → length bytes ≤ m → unpacked_pieces k bytes ≡ unpacked_pieces m bytes
enough zero zero bytes h g = refl
enough zero (suc m) [] h g = refl
enough zero (suc m) (b ∷ bytes) h g = absurd (omega (arith, h))
enough (suc k) zero [] h g = refl
enough (suc k) zero (b ∷ bytes) h g = absurd (omega (arith, g))
enough (suc k) (suc m) [] h g = refl
enough (suc k) (suc m) (tag ∷ bytes) h g = then_same (unpacked_pieces k) (unpacked_pieces m) (length bytes) (piece_of (tag ∷ bytes)) (piece_within tag bytes)
    (λ rest q. enough k m rest (omega (arith, h, q)) (omega (arith, g, q)))

-- packed bytes stand for the words of their first piece, and then for those of the rest
pub first_piece : (bytes : List ℕ) (p : PackedPiece) → Some p ≡ piece_of bytes → unpacked_bytes bytes ≡ p.0 ++ unpacked_bytes p.1
unfolding unpacked_bytes
first_piece [] p h = absurd (grind (arith, h))
first_piece (tag ∷ bytes) (words, rest) h =
    let w : Within (length bytes) (Some (words, rest)) = subst (λ x. Within (length bytes) x) (sym h) (piece_within tag bytes) in
    ap (then_rest (unpacked_pieces (length bytes))) (sym h) ∙ ap (λ x. words ++ x) (enough (length bytes) (length rest) rest w (omega arith))

pub no_piece : (bytes : List ℕ) → None ≡ piece_of bytes → unpacked_bytes bytes ≡ []
unfolding unpacked_bytes
no_piece [] h = refl
no_piece (tag ∷ bytes) h = ap (then_rest (unpacked_pieces (length bytes))) (sym h)
