-- What a pointer word of one segment leads to, as numbers alone, and the words that it takes.
use Rattle.std.specs.Prelude.{ℕ, suc, ◌+◌, ◌-◌, ◌*◌, ◌/◌, ◌^◌, ◌<◌, ◌≤◌, ◌≡◌, ◌⊎◌, List, [], ◌∷◌, length}
use Rattle.capnp_wire.specs.Encoding.{spelled_number, struct_word, list_word}
use Rattle.capnp_wire.specs.Locate.{Target, NoTarget, BadTarget, StructAt, ListAt, CompositeAt, target_at, list_words, words_past_format}
use Rattle.capnp_wire.specs.Place.{bytes_at}

-- Nothing; a struct, from the word where it starts on; a list that is not composite; a composite list, whose tag stands
-- at a word and whose elements follow it.
pub data Shape : Type 0 where
  NoShape : Shape
  StructIn : (start data_words pointer_count : ℕ) → Shape
  ListIn : (start element_size count : ℕ) → Shape
  CompositeIn : (tag count data_words pointer_count : ℕ) → Shape

abbrev pub shape_of : Target → Shape
shape_of NoTarget = NoShape
shape_of (BadTarget fault) = NoShape
shape_of (StructAt segment start d p) = StructIn start d p
shape_of (ListAt segment start size count) = ListIn start size count
shape_of (CompositeAt segment start count d p) = CompositeIn (start - 1) count d p

-- what the pointer at a word leads to, where these bytes are the one segment
unfoldable pub shape_at : List ℕ → ℕ → Shape
shape_at bytes w = shape_of (target_at (bytes ∷ []) bytes w)

-- the words of bytes
abbrev pub word_count : List ℕ → ℕ
word_count bytes = length bytes / 8

-- ---- the words of a target ----

-- a word lies in it; the tag of a composite list belongs to it
abbrev pub IsWordWithin : Shape → ℕ → Type 0
IsWordWithin NoShape k = ⊥
IsWordWithin (StructIn start d p) k = (start ≤ k) × (k < start + (d + p))
IsWordWithin (ListIn start size count) k = (start ≤ k) × (k < start + list_words size count)
IsWordWithin (CompositeIn tag count d p) k = (tag ≤ k) × (k < tag + 1 + count * (d + p))

-- where it ends
abbrev pub end_of : Shape → ℕ
end_of NoShape = 0
end_of (StructIn start d p) = start + (d + p)
end_of (ListIn start size count) = start + list_words size count
end_of (CompositeIn tag count d p) = tag + 1 + count * (d + p)

-- a word is one of its pointers
abbrev pub IsPointerOf : Shape → ℕ → Type 0
IsPointerOf NoShape k = ⊥
IsPointerOf (StructIn start d p) k = (start + d ≤ k) × (k < start + d + p)
IsPointerOf (ListIn start size count) k = (size ≡ 6) × (start ≤ k) × (k < start + count)
IsPointerOf (CompositeIn tag count d p) k = (i : ℕ) × (i < count) × (tag + 1 + i * (d + p) + d ≤ k) × (k < tag + 1 + i * (d + p) + d + p)

-- a word is its tag
abbrev pub IsTagOf : Shape → ℕ → Type 0
IsTagOf NoShape k = ⊥
IsTagOf (StructIn start d p) k = ⊥
IsTagOf (ListIn start size count) k = ⊥
IsTagOf (CompositeIn tag count d p) k = k ≡ tag

-- ---- pointers as builders write them ----

-- a word is spelled there
abbrev pub IsWordAt : List ℕ → ℕ → ℕ → Type 0
IsWordAt bytes w word = (8 * suc w ≤ length bytes) × (bytes_at bytes w 8 ≡ spelled_number 8 word)

-- The word is the pointer to that target, which lies inside and after it. A struct of size zero lies at its pointer.
abbrev pub Points : List ℕ → ℕ → Shape → Type 0
Points bytes w NoShape = IsWordAt bytes w 0
Points bytes w (StructIn start d p) =
    ((start ≡ w) × (d ≡ 0) × (p ≡ 0) × IsWordAt bytes w (struct_word (2 ^ 30 - 1) 0 0))
    ⊎ ((w < start) × (start - suc w < words_past_format) × (d < 2 ^ 16) × (p < 2 ^ 16) × (0 < d + p) × (start + (d + p) ≤ word_count bytes) × IsWordAt bytes w (struct_word (start - suc w) d p))
Points bytes w (ListIn start size count) =
    (w < start) × (start - suc w < words_past_format) × (size < 7) × (count < words_past_format) × (start + list_words size count ≤ word_count bytes) × IsWordAt bytes w (list_word (start - suc w) size count)
Points bytes w (CompositeIn tag count d p) =
    (w < tag) × (tag - suc w < words_past_format) × (d < 2 ^ 16) × (p < 2 ^ 16) × (count < words_past_format) × (count * (d + p) < words_past_format) × (tag + 1 + count * (d + p) ≤ word_count bytes)
    × IsWordAt bytes w (list_word (tag - suc w) 7 (count * (d + p))) × IsWordAt bytes tag (struct_word count d p)
