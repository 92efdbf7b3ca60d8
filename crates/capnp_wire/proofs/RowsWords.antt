-- Worked rows: the parts of a pointer word, where a target starts, and the words that a list takes.
use Rattle.std.specs.Prelude.{◌≡◌, refl, [], ◌∷◌, true, false, map, Some, None}
use Rattle.capnp_wire.specs.Slot.{little_endian, word_at}
use Rattle.capnp_wire.specs.Locate.{pointer_kind, offset, data_words, pointer_count, element_size_number, count, is_double, pad_word, pad_segment, start_of, list_words}
use Rattle.capnp_wire.proofs.Rows.{word}

-- eight bytes are a word, lowest first
pub word_of_bytes : little_endian (word 1 2 3 4 5 6 7 8) ≡ 0x0807060504030201
word_of_bytes = refl

-- the words of a run of bytes by their number
pub second_word : word_at (0 ∷ 0 ∷ 0 ∷ 0 ∷ 0 ∷ 0 ∷ 0 ∷ 0 ∷ word 1 0 0 0 0 0 0 2) 1 ≡ 0x0200000000000001
second_word = refl

-- ---- the parts of a word: each part alone is all ones, then all but it ----

-- the low two bits
pub kinds : map pointer_kind (0 ∷ 1 ∷ 2 ∷ 3 ∷ 0xfffffffffffffffc ∷ 0xffffffffffffffff ∷ []) ≡ 0 ∷ 1 ∷ 2 ∷ 3 ∷ 0 ∷ 3 ∷ []
kinds = refl

-- 30 bits of offset
pub offsets : map offset (0xfffffffc ∷ 0xffffffff00000003 ∷ 4 ∷ []) ≡ 1073741823 ∷ 0 ∷ 1 ∷ []
offsets = refl

-- 16 bits of data words
pub data_sizes : map data_words (0x0000ffff00000000 ∷ 0xffff0000ffffffff ∷ 0x0000000100000000 ∷ []) ≡ 65535 ∷ 0 ∷ 1 ∷ []
data_sizes = refl

-- 16 bits of pointers
pub pointer_counts : map pointer_count (0xffff000000000000 ∷ 0x0000ffffffffffff ∷ 0x0001000000000000 ∷ []) ≡ 65535 ∷ 0 ∷ 1 ∷ []
pointer_counts = refl

-- 3 bits of element size
pub element_sizes : map element_size_number (0x0000000700000000 ∷ 0xfffffff8ffffffff ∷ 0x0000000100000000 ∷ []) ≡ 7 ∷ 0 ∷ 1 ∷ []
element_sizes = refl

-- 29 bits of count
pub counts : map count (0xfffffff800000000 ∷ 0x00000007ffffffff ∷ 0x0000000800000000 ∷ []) ≡ 536870911 ∷ 0 ∷ 1 ∷ []
counts = refl

-- the bit of a far pointer that says a pad of two words
pub pad_sizes : map is_double (2 ∷ 6 ∷ 0xfffffffffffffffa ∷ []) ≡ false ∷ true ∷ false ∷ []
pad_sizes = refl

-- 29 bits of a pad's word
pub pad_words : map pad_word (0x00000000fffffff8 ∷ 0xffffffff00000007 ∷ 8 ∷ []) ≡ 536870911 ∷ 0 ∷ 1 ∷ []
pad_words = refl

-- 32 bits of its segment
pub pad_segments : map pad_segment (0xffffffff00000000 ∷ 0x00000000ffffffff ∷ 0x0000000100000000 ∷ []) ≡ 4294967295 ∷ 0 ∷ 1 ∷ []
pad_segments = refl

-- ---- where a target starts ----

-- of a pointer at word 5 with offsets 0, 1, -1, -6, -7, the greatest and the least
pub starts : map (start_of 5) (0 ∷ 4 ∷ 0xfffffffc ∷ 0xffffffe8 ∷ 0xffffffe4 ∷ 0x7ffffffc ∷ 0x80000000 ∷ [])
    ≡ Some 6 ∷ Some 7 ∷ Some 5 ∷ Some 0 ∷ None ∷ Some 536870917 ∷ None ∷ []
starts = refl

-- ---- the words of a list ----

-- elements of nothing
pub words_of_voids : map (list_words 0) (0 ∷ 1 ∷ 536870911 ∷ []) ≡ 0 ∷ 0 ∷ 0 ∷ []
words_of_voids = refl

-- bits
pub words_of_bits : map (list_words 1) (0 ∷ 1 ∷ 64 ∷ 65 ∷ 536870911 ∷ []) ≡ 0 ∷ 1 ∷ 1 ∷ 2 ∷ 8388608 ∷ []
words_of_bits = refl

-- one byte each
pub words_of_bytes : map (list_words 2) (0 ∷ 1 ∷ 8 ∷ 9 ∷ 536870911 ∷ []) ≡ 0 ∷ 1 ∷ 1 ∷ 2 ∷ 67108864 ∷ []
words_of_bytes = refl

-- two bytes each
pub words_of_pairs : map (list_words 3) (0 ∷ 1 ∷ 4 ∷ 5 ∷ []) ≡ 0 ∷ 1 ∷ 1 ∷ 2 ∷ []
words_of_pairs = refl

-- four bytes each
pub words_of_fours : map (list_words 4) (0 ∷ 1 ∷ 2 ∷ 3 ∷ []) ≡ 0 ∷ 1 ∷ 1 ∷ 2 ∷ []
words_of_fours = refl

-- eight bytes each
pub words_of_eights : map (list_words 5) (0 ∷ 1 ∷ 2 ∷ 536870911 ∷ []) ≡ 0 ∷ 1 ∷ 2 ∷ 536870911 ∷ []
words_of_eights = refl

-- pointers
pub words_of_pointers : map (list_words 6) (0 ∷ 1 ∷ 2 ∷ 536870911 ∷ []) ≡ 0 ∷ 1 ∷ 2 ∷ 536870911 ∷ []
words_of_pointers = refl
