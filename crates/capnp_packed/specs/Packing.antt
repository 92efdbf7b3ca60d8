-- How bytes are packed, a whole number of words (encoding, "Packing"): the tag of each word, its bytes that are not
-- zero, and behind the tags 0 and 255 the number of the words that follow in the piece, at most 255: as many as are zero
-- behind 0, and as many as have at most one zero byte behind 255.
use Rattle.std.specs.Prelude.{ℕ, zero, suc, ◌+◌, ◌*◌, ◌==◌, ◌&&◌, Bool, true, false, List, [], ◌∷◌, ◌++◌, take, drop, length, cond, nat_lt}

-- the bit of a byte in a tag
abbrev pub bit_of : ℕ → ℕ
bit_of zero = 0
bit_of (suc b) = 1

-- the tag of a word's bytes: the bit of each, lowest first
abbrev pub tag_of : List ℕ → ℕ
tag_of [] = 0
tag_of (b ∷ word) = bit_of b + 2 * tag_of word

abbrev pub unless_zero : ℕ → List ℕ → List ℕ
unless_zero zero bytes = bytes
unless_zero (suc b) bytes = suc b ∷ bytes

-- the bytes that are not zero
abbrev pub nonzero : List ℕ → List ℕ
nonzero [] = []
nonzero (b ∷ bytes) = unless_zero b (nonzero bytes)

abbrev pub is_zero_word : List ℕ → Bool
is_zero_word word = (length word == 8) && (length (nonzero word) == 0)

-- whether a word has at most one zero byte
abbrev pub is_full_word : List ℕ → Bool
is_full_word word = (length word == 8) && nat_lt 6 (length (nonzero word))

-- the words at the beginning that pass a test, so many at most
unfoldable pub words_passing : (List ℕ → Bool) → ℕ → List ℕ → ℕ
words_passing test zero bytes = 0
words_passing test (suc k) bytes = cond (test (take 8 bytes)) (suc (words_passing test k (drop 8 bytes))) 0

-- whether a word goes on with a run of zeros, or else with one of full words
abbrev pub goes_on_packed : Bool → List ℕ → Bool
goes_on_packed true word = is_zero_word word
goes_on_packed false word = is_full_word word

-- the words of a run, which has at most 255
abbrev pub run_length : Bool → List ℕ → ℕ
run_length zeros bytes = words_passing (goes_on_packed zeros) 255 bytes

-- the words that go with a word of a tag into one piece
abbrev pub run_words : ℕ → List ℕ → ℕ
run_words tag rest = cond (tag == 0) (run_length true rest) (cond (tag == 255) (run_length false rest) 0)

-- what stands behind a tag and its bytes: the number of the words that follow, and behind 255 these words
abbrev pub run_bytes : ℕ → ℕ → List ℕ → List ℕ
run_bytes tag n rest = cond (tag == 0) (n ∷ []) (cond (tag == 255) (n ∷ take (8 * n) rest) [])

-- the piece that begins with a word
abbrev pub packed_piece : List ℕ → ℕ → List ℕ → List ℕ
packed_piece word n rest = tag_of word ∷ nonzero word ++ run_bytes (tag_of word) n rest

abbrev pub packed_from : (List ℕ → List ℕ) → List ℕ → List ℕ → List ℕ
packed_from f word rest = packed_piece word (run_words (tag_of word) rest) rest ++ f (drop (8 * run_words (tag_of word) rest) rest)

-- so many pieces of bytes
abbrev pub packed_pieces : ℕ → List ℕ → List ℕ
packed_pieces zero bytes = []
packed_pieces (suc k) [] = []
packed_pieces (suc k) (b ∷ bytes) = packed_from (packed_pieces k) (take 8 (b ∷ bytes)) (drop 8 (b ∷ bytes))

-- The packed form of bytes, which has no more pieces than there are bytes.
unfoldable pub packed_form : List ℕ → List ℕ
packed_form bytes = packed_pieces (length bytes) bytes
