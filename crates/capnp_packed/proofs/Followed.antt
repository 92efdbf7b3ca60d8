-- A piece is unpacked alike whatever follows it.
use Rattle.std.proofs.Common.{◌≡◌, ℕ, ◌*◌, ◌-◌, ◌≤◌, ◌==◌, Bool, true, false, cond, nat_lt, List, [], ◌∷◌, ◌++◌, length, take, drop, Option, Some, None, refl, ap, sym, subst, ◌∙◌, arith}
use Rattle.std.specs.Prelude.{⊤}
use Rattle.std.proofs.lemmas.Bool.Decides.{nat_tests}
use Rattle.std.proofs.lemmas.List.{append_assoc, drop_at, length-append, length-take, take-append-drop}
use Rattle.capnp_packed.specs.Unpacking.{PackedPiece, before_rest, byte_under, bytes_under, piece_behind, piece_of, tag_bits, unpacked_bytes, with_byte, word_under, words_counted, zeros_counted}
use Rattle.capnp_packed.proofs.Pieces.{first_piece}
use Rattle.capnp_packed.proofs.RoundTrip.{counted_again}

-- What was read stands before the rest, and is read alike before any other rest.
abbrev ReadsAlike : {A : Type 0} → (List ℕ → Option (A × List ℕ)) → List ℕ → Option (A × List ℕ) → Type 0
ReadsAlike f bytes None = ⊤
ReadsAlike f bytes (Some (x, rest)) = (front : List ℕ) × (bytes ≡ front ++ rest) × ((more : List ℕ) → f (front ++ more) ≡ Some (x, more))

byte_alike : (bit : Bool) (bytes : List ℕ) → ReadsAlike (byte_under bit) bytes (byte_under bit bytes)
byte_alike false bytes = ([], refl, λ more. refl)
byte_alike true [] = tt
byte_alike true (b ∷ bytes) = (b ∷ [], refl, λ more. refl)

with_alike : (bit : Bool) (bits : List Bool) (b : ℕ) (bytes rest : List ℕ) (front : List ℕ) (p : Option PackedPiece) → bytes ≡ front ++ rest
    → ((more : List ℕ) → byte_under bit (front ++ more) ≡ Some (b, more)) → ReadsAlike (bytes_under bits) rest p
    → ReadsAlike (bytes_under (bit ∷ bits)) bytes (with_byte b p)
with_alike bit bits b bytes rest front None e f h = tt
with_alike bit bits b bytes rest front (Some (word, end)) e f h = (
  front ++ h.0,
  e ∙ ap (λ x. front ++ x) h.1 ∙ sym (append_assoc front h.0 end),
  λ more. ap (λ x. before_rest (bytes_under bits) (byte_under bit x)) (append_assoc front h.0 more)
      ∙ ap (before_rest (bytes_under bits)) (f (h.0 ++ more)) ∙ ap (with_byte b) (h.2 more),
)

before_alike : (bit : Bool) (bits : List Bool) (bytes : List ℕ) (p : Option (ℕ × List ℕ)) → ReadsAlike (byte_under bit) bytes p
    → ((rest : List ℕ) → ReadsAlike (bytes_under bits) rest (bytes_under bits rest)) → ReadsAlike (bytes_under (bit ∷ bits)) bytes (before_rest (bytes_under bits) p)
before_alike bit bits bytes None h k = tt
before_alike bit bits bytes (Some (b, rest)) h k = with_alike bit bits b bytes rest h.0 (bytes_under bits rest) h.1 h.2 (k rest)

under_alike : (bits : List Bool) (bytes : List ℕ) → ReadsAlike (bytes_under bits) bytes (bytes_under bits bytes)
under_alike [] bytes = ([], refl, λ more. refl)
under_alike (bit ∷ bits) bytes = before_alike bit bits bytes (byte_under bit bytes) (byte_alike bit bytes) (under_alike bits)

word_alike : (tag : ℕ) (bytes : List ℕ) → ReadsAlike (word_under tag) bytes (word_under tag bytes)
unfolding word_under
word_alike tag bytes = under_alike (tag_bits 8 tag) bytes

zeros_alike : (bytes : List ℕ) → ReadsAlike zeros_counted bytes (zeros_counted bytes)
zeros_alike [] = tt
zeros_alike (n ∷ rest) = (n ∷ [], refl, λ more. refl)

words_alike : (word bytes : List ℕ) → ReadsAlike (words_counted word) bytes (words_counted word bytes)
words_alike word [] = tt
words_alike word (n ∷ rest) = either (nat_lt (length rest) (8 * n)) (λ h. grind (arith, nat_tests, h))
  where
    either : (t : Bool) → (t ≡ false → 8 * n ≤ length rest)
        → ReadsAlike (words_counted word) (n ∷ rest) (cond t None (Some (word ++ take (8 * n) rest, drop (8 * n) rest)))
    either true h = tt
    either false h =
        let l = length-take (8 * n) rest in
        let inside = h refl in (
          n ∷ take (8 * n) rest,
          ap (λ x. n ∷ x) (sym (take-append-drop (8 * n) rest)),
          λ more. counted_again word (take (8 * n) rest) more n (omega (arith, l, inside)),
        )

either_alike : (t : Bool) (f g : List ℕ → Option PackedPiece) (bytes : List ℕ) → ReadsAlike f bytes (f bytes) → ReadsAlike g bytes (g bytes)
    → ReadsAlike (λ x. cond t (f x) (g x)) bytes (cond t (f bytes) (g bytes))
either_alike true f g bytes h k = h
either_alike false f g bytes h k = k

rest_of_piece : ℕ → List ℕ → List ℕ → Option PackedPiece
rest_of_piece tag word rest = cond (tag == 0) (zeros_counted rest) (cond (tag == 255) (words_counted word rest) (Some (word, rest)))

rest_alike : (tag : ℕ) (word rest : List ℕ) → ReadsAlike (rest_of_piece tag word) rest (rest_of_piece tag word rest)
unfolding rest_of_piece
rest_alike tag word rest =
    either_alike (tag == 0) zeros_counted (λ x. cond (tag == 255) (words_counted word x) (Some (word, x))) rest (zeros_alike rest)
    (either_alike (tag == 255) (words_counted word) (λ x. Some (word, x)) rest (words_alike word rest) ([], refl, λ more. refl))

after_word : (tag : ℕ) (word bytes rest front : List ℕ) (p : Option PackedPiece) → bytes ≡ front ++ rest
    → ((more : List ℕ) → word_under tag (front ++ more) ≡ Some (word, more)) → ReadsAlike (rest_of_piece tag word) rest p
    → ReadsAlike piece_of (tag ∷ bytes) p
unfolding rest_of_piece
after_word tag word bytes rest front None e f h = tt
after_word tag word bytes rest front (Some (words, end)) e f h = (
  tag ∷ front ++ h.0,
  ap (λ x. tag ∷ x) (e ∙ ap (λ x. front ++ x) h.1 ∙ sym (append_assoc front h.0 end)),
  λ more. ap (λ x. piece_behind tag (word_under tag x)) (append_assoc front h.0 more)
      ∙ ap (piece_behind tag) (f (h.0 ++ more)) ∙ h.2 more,
)

behind_alike : (tag : ℕ) (bytes : List ℕ) (p : Option PackedPiece) → ReadsAlike (word_under tag) bytes p
    → ReadsAlike piece_of (tag ∷ bytes) (piece_behind tag p)
unfolding rest_of_piece
behind_alike tag bytes None h = tt
behind_alike tag bytes (Some (word, rest)) h = after_word tag word bytes rest h.0 (rest_of_piece tag word rest) h.1 h.2 (rest_alike tag word rest)

piece_alike : (bytes : List ℕ) → ReadsAlike piece_of bytes (piece_of bytes)
piece_alike [] = tt
piece_alike (tag ∷ bytes) = behind_alike tag bytes (word_under tag bytes) (word_alike tag bytes)

alike : (bytes : List ℕ) (p : PackedPiece) → Some p ≡ piece_of bytes → ReadsAlike piece_of bytes (Some p)
alike bytes p h = subst (λ x. ReadsAlike piece_of bytes x) (sym h) (piece_alike bytes)

-- the bytes that follow the first piece
pub piece_rest : (bytes : List ℕ) (p : PackedPiece) → Some p ≡ piece_of bytes → drop (length bytes - length p.1) bytes ≡ p.1
piece_rest bytes (words, rest) h =
    let a = alike bytes (words, rest) h in
    let l = ap length a.1 ∙ length-append a.0 rest in
    ap (drop (length bytes - length rest)) a.1 ∙ drop_at a.0 rest (length bytes - length rest) (omega (arith, l))

-- pieces are unpacked one after another, whatever follows
pub piece_before : (bytes more : List ℕ) (p : PackedPiece) → Some p ≡ piece_of bytes
    → unpacked_bytes (bytes ++ more) ≡ p.0 ++ unpacked_bytes (p.1 ++ more)
piece_before bytes more (words, rest) h =
    let a = alike bytes (words, rest) h in
    let e : bytes ++ more ≡ a.0 ++ (rest ++ more) = ap (λ x. x ++ more) a.1 ∙ append_assoc a.0 rest more in
    first_piece (bytes ++ more) (words, rest ++ more) (sym (ap piece_of e ∙ a.2 (rest ++ more)))
