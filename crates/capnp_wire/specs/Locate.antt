-- Where a pointer word leads: its target, with far pointers followed and bounds tested, and no level counted.
use Rattle.std.specs.Prelude.{ℕ, ◌+◌, ◌-◌, ◌*◌, ◌/◌, ◌%◌, ◌^◌, List, length, slice_get, Bool, cond, ◌==◌, nat_lt, nat_le, Option, Some, None}
use Rattle.capnp_wire.specs.Slot.{word_at}
use Rattle.capnp_wire.specs.declared.fault.Fault.{Fault}
use Rattle.capnp_wire.specs.declared.fault.Fault.TheVariants.{BadPointer, CapabilityPointer}

-- the first number of words, or of elements of a list, that the format has no room for
abbrev pub words_past_format : ℕ
words_past_format = 2 ^ 29

-- the bytes of each segment of a message
abbrev pub Segments : Type 0
Segments = List (List ℕ)

-- What a pointer leads to, in the segment with these bytes, from this word on. A composite list starts behind its tag.
pub data Target : Type 0 where
  NoTarget : Target
  BadTarget : (fault : Fault) → Target
  StructAt : (segment : List ℕ) → (start data_words pointer_count : ℕ) → Target
  ListAt : (segment : List ℕ) → (start element_size_number count : ℕ) → Target
  CompositeAt : (segment : List ℕ) → (start count data_words pointer_count : ℕ) → Target

-- ---- the parts of a pointer word ----

-- 0 a struct, 1 a list, 2 a far pointer, 3 a capability
abbrev pub pointer_kind : ℕ → ℕ
pointer_kind word = word % 4

-- the 30 bits of an offset, without its sign
abbrev pub offset : ℕ → ℕ
offset word = (word / 4) % 2 ^ 30

-- the words of a struct's data section, and how many pointers it has
abbrev pub data_words : ℕ → ℕ
data_words word = (word / 2 ^ 32) % 2 ^ 16

abbrev pub pointer_count : ℕ → ℕ
pointer_count word = word / 2 ^ 48

-- the number of a list's element size
abbrev pub element_size_number : ℕ → ℕ
element_size_number word = (word / 2 ^ 32) % 8

-- elements, or the words of a composite list behind its tag
abbrev pub count : ℕ → ℕ
count word = word / 2 ^ 35

-- whether a far pointer has a landing pad of two words
abbrev pub is_double : ℕ → Bool
is_double word = (word / 4) % 2 == 1

-- where a far pointer's landing pad stands
abbrev pub pad_word : ℕ → ℕ
pad_word word = (word / 8) % 2 ^ 29

abbrev pub pad_segment : ℕ → ℕ
pad_segment word = word / 2 ^ 32

-- ---- targets ----

-- the words below an end lie in these bytes
abbrev pub lies : List ℕ → ℕ → Bool
lies segment end = nat_le end (length segment / 8)

-- where the target of a pointer at word w starts; none before the segment
abbrev pub start_of : ℕ → ℕ → Option ℕ
start_of w word =
    cond (nat_lt (offset word) (2 ^ 29)) (Some (w + 1 + offset word))
    (cond (nat_lt (w + 1 + offset word) (2 ^ 30)) None (Some (w + 1 + offset word - 2 ^ 30)))

-- the bits of an element of a size from 0 to 6, and the words of a list of these
abbrev pub element_bits : ℕ → ℕ
element_bits size = cond (size == 0) 0 (cond (size == 1) 1 (cond (size == 2) 8 (cond (size == 3) 16 (cond (size == 4) 32 64))))

abbrev pub list_words : ℕ → ℕ → ℕ
list_words size n = (n * element_bits size + 63) / 64

-- a struct lies in its segment, one of size zero too
abbrev pub struct_target : List ℕ → ℕ → ℕ → Target
struct_target segment start word =
    cond (lies segment (start + data_words word + pointer_count word))
    (StructAt segment start (data_words word) (pointer_count word))
    (BadTarget BadPointer)

-- a composite list of so many words, with its tag at the start
abbrev pub tagged_target : List ℕ → ℕ → ℕ → ℕ → Target
tagged_target segment start words tag =
    cond (pointer_kind tag == 0)
    (cond (nat_lt (offset tag) (2 ^ 29))
    (cond (nat_le (offset tag * (data_words tag + pointer_count tag)) words)
    (CompositeAt segment (start + 1) (offset tag) (data_words tag) (pointer_count tag))
    (BadTarget BadPointer))
    (BadTarget BadPointer))
    (BadTarget BadPointer)

-- a list lies in its segment, a composite one with its tag
abbrev pub list_target : List ℕ → ℕ → ℕ → Target
list_target segment start word =
    cond (element_size_number word == 7)
    (cond (lies segment (start + 1 + count word)) (tagged_target segment start (count word) (word_at segment start)) (BadTarget BadPointer))
    (cond (lies segment (start + list_words (element_size_number word) (count word))) (ListAt segment start (element_size_number word) (count word)) (BadTarget BadPointer))

-- of a word that may be no far pointer, whose target starts there
abbrev pub near_target : List ℕ → ℕ → ℕ → Target
near_target segment start word =
    cond (pointer_kind word == 0) (struct_target segment start word)
    (cond (pointer_kind word == 1) (list_target segment start word)
    (cond (pointer_kind word == 2) (BadTarget BadPointer) (BadTarget CapabilityPointer)))

-- the same where the start may lie before the segment
abbrev pub near_target_from : List ℕ → Option ℕ → ℕ → Target
near_target_from segment None word = cond (pointer_kind word == 3) (BadTarget CapabilityPointer) (BadTarget BadPointer)
near_target_from segment (Some start) word = near_target segment start word

-- a landing pad of two words: the first names where the target starts, the second is its tag
abbrev pub tag_target : Option (List ℕ) → ℕ → ℕ → Target
tag_target None first tag = BadTarget BadPointer
tag_target (Some segment) first tag = near_target segment (pad_word first) tag

-- the first word is a far pointer to a pad of one word, whatever the tag says; a tag that is a capability comes before
-- the place that the first word names
abbrev pub double_target : Segments → ℕ → ℕ → Target
double_target segments first tag =
    cond (pointer_kind first == 2)
    (cond (is_double first) (BadTarget BadPointer)
    (cond (pointer_kind tag == 3) (BadTarget CapabilityPointer) (tag_target (slice_get segments (pad_segment first)) first tag)))
    (BadTarget BadPointer)

-- of a far pointer, whose landing pad lies in the segment with these bytes
abbrev pub pad_target : Segments → Option (List ℕ) → ℕ → Target
pad_target segments None word = BadTarget BadPointer
pad_target segments (Some segment) word =
    cond (is_double word)
    (cond (lies segment (pad_word word + 2)) (double_target segments (word_at segment (pad_word word)) (word_at segment (pad_word word + 1))) (BadTarget BadPointer))
    (cond (lies segment (pad_word word + 1)) (near_target_from segment (start_of (pad_word word) (word_at segment (pad_word word))) (word_at segment (pad_word word))) (BadTarget BadPointer))

-- of a pointer word that stands at word w of the segment with these bytes
abbrev pub word_target : Segments → List ℕ → ℕ → ℕ → Target
word_target segments segment w word =
    cond (word == 0) NoTarget
    (cond (pointer_kind word == 2)
    (pad_target segments (slice_get segments (pad_segment word)) word)
    (near_target_from segment (start_of w word) word))

-- of the place: word w of the segment with these bytes
abbrev pub target_at : Segments → List ℕ → ℕ → Target
target_at segments segment w =
    cond (lies segment (w + 1)) (word_target segments segment w (word_at segment w)) (BadTarget BadPointer)
