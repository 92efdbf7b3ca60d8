-- Packed bytes, and the bytes that they stand for (encoding, "Packing"). Packed bytes are a row of pieces. A piece is a
-- tag, then one byte for each bit of the tag that is 1, and behind the tags 0 and 255 the number of the words that follow
-- in the piece: words of zeros behind 0, and words as they are behind 255.
use Rattle.std.specs.Prelude.{ℕ, zero, suc, ◌*◌, ◌/◌, ◌%◌, ◌==◌, Bool, true, false, List, [], ◌∷◌, ◌++◌, take, drop, length, replicate, cond, nat_lt, Option, Some, None}

-- the bytes of the words of a piece, and what follows the piece
abbrev pub PackedPiece : Type 0
PackedPiece = List ℕ × List ℕ

-- so many bits of a tag, lowest first
abbrev pub tag_bits : ℕ → ℕ → List Bool
tag_bits zero tag = []
tag_bits (suc k) tag = (tag % 2 == 1) ∷ tag_bits k (tag / 2)

abbrev pub with_byte : ℕ → Option PackedPiece → Option PackedPiece
with_byte b None = None
with_byte b (Some (word, rest)) = Some (b ∷ word, rest)

-- the byte under a bit, and what is left: the next byte where the bit is 1, else zero; none where no byte is left for it
abbrev pub byte_under : Bool → List ℕ → Option (ℕ × List ℕ)
byte_under false bytes = Some (0, bytes)
byte_under true [] = None
byte_under true (b ∷ bytes) = Some (b, bytes)

abbrev pub before_rest : (List ℕ → Option PackedPiece) → Option (ℕ × List ℕ) → Option PackedPiece
before_rest f None = None
before_rest f (Some (b, rest)) = with_byte b (f rest)

-- the bytes under bits
abbrev pub bytes_under : List Bool → List ℕ → Option PackedPiece
bytes_under [] bytes = Some ([], bytes)
bytes_under (bit ∷ bits) bytes = before_rest (bytes_under bits) (byte_under bit bytes)

-- the first word of a piece, by its tag
unfoldable pub word_under : ℕ → List ℕ → Option PackedPiece
word_under tag bytes = bytes_under (tag_bits 8 tag) bytes

-- a word of zeros, and so many more as the next byte says
abbrev pub zeros_counted : List ℕ → Option PackedPiece
zeros_counted [] = None
zeros_counted (n ∷ rest) = Some (◌++◌ {A = ℕ} (replicate 8 0) (replicate (8 * n) 0), rest)

-- a word, and so many more as the next byte says, as they stand behind it
abbrev pub words_counted : List ℕ → List ℕ → Option PackedPiece
words_counted word [] = None
words_counted word (n ∷ rest) = cond (nat_lt (length rest) (8 * n)) None (Some (word ++ take (8 * n) rest, drop (8 * n) rest))

-- a piece whose first word is read
abbrev pub piece_behind : ℕ → Option PackedPiece → Option PackedPiece
piece_behind tag None = None
piece_behind tag (Some (word, rest)) = cond (tag == 0) (zeros_counted rest) (cond (tag == 255) (words_counted word rest) (Some (word, rest)))

-- the first piece; none where the bytes end within it
abbrev pub piece_of : List ℕ → Option PackedPiece
piece_of [] = None
piece_of (tag ∷ bytes) = piece_behind tag (word_under tag bytes)

abbrev pub then_rest : (List ℕ → List ℕ) → Option PackedPiece → List ℕ
then_rest f None = []
then_rest f (Some (words, rest)) = words ++ f rest

-- the bytes of so many pieces
abbrev pub unpacked_pieces : ℕ → List ℕ → List ℕ
unpacked_pieces zero bytes = []
unpacked_pieces (suc k) bytes = then_rest (unpacked_pieces k) (piece_of bytes)

-- The bytes that packed bytes stand for: those of their whole pieces, of which there are no more than bytes.
unfoldable pub unpacked_bytes : List ℕ → List ℕ
unpacked_bytes bytes = unpacked_pieces (length bytes) bytes
