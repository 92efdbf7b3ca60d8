-- The target of a place lies in its segment.
use Rattle.std.proofs.Common.{◌==◌, nat_lt, nat_le, IfSome, ◌≡◌, ℕ, zero, suc, ◌+◌, ◌*◌, ◌/◌, ◌<◌, ◌≤◌, ◌^◌, List, [], ◌∷◌, length, refl, arith, Bool, true, false, cond, Option, Some, None, slice_get}
use Rattle.std.proofs.lemmas.Bool.Decides.{nat_tests}
use Rattle.capnp_wire.specs.Slot.{word_at}
use Rattle.capnp_wire.specs.Locate.{Segments, Target, NoTarget, BadTarget, StructAt, ListAt, CompositeAt, pointer_kind, offset, data_words, pointer_count, element_size_number, count, is_double, pad_word, pad_segment, lies, start_of, list_words, struct_target, tagged_target, list_target, near_target, near_target_from, tag_target, double_target, pad_target, word_target, target_at}
use Rattle.capnp_wire.specs.WellFormed.{AreBytes, AreSegments}
use Rattle.capnp_wire.specs.Steps.WellFormed.{IsInside}
use Rattle.capnp_wire.specs.declared.fault.Fault.TheVariants.{BadPointer, CapabilityPointer}
use Rattle.capnp_wire.specs.Facts.ByteRuns.{word_at_lt}

-- ---- tests ----

-- what a test of numbers tells
le_from_test : (a b : ℕ) → nat_le a b ≡ true → a ≤ b
le_from_test a b h = grind (arith, nat_tests)

-- the same of a strict test
lt_from_test : (a b : ℕ) → nat_lt a b ≡ true → a < b
lt_from_test a b h = grind (arith, nat_tests)

-- a size of 3 bits that is not 7
below_seven : (n : ℕ) → n < 8 → (n == 7) ≡ false → n < 7
below_seven n b h = grind (arith, nat_tests)

-- a choice of two targets
IsInside_cond : (b : Bool) (s t : Target) → (b ≡ true → IsInside s) → (b ≡ false → IsInside t) → IsInside (cond b s t)
IsInside_cond true s t f g = f refl
IsInside_cond false s t f g = g refl

-- the segment of this number, if it is there
pub AreSegments_slice_get : (segments : Segments) (i : ℕ) → AreSegments segments → IfSome (slice_get segments i) AreBytes
AreSegments_slice_get [] i h = tt
AreSegments_slice_get (s ∷ ss) zero h = h 0
AreSegments_slice_get (s ∷ ss) (suc i) h = AreSegments_slice_get ss i (λ k. h (suc k))

-- ---- targets in a known segment ----

-- a struct ends within its segment
pub IsInside_struct_target : (segment : List ℕ) (start word : ℕ) → AreBytes segment → word < 2 ^ 64 → IsInside (struct_target segment start word)
IsInside_struct_target segment start word h b =
    IsInside_cond (lies segment (start + data_words word + pointer_count word)) (StructAt segment start (data_words word) (pointer_count word)) (BadTarget BadPointer)
    (λ e. (h, le_from_test _ _ e, omega arith, omega arith)) (λ _. tt)

-- a composite list ends within the words that its pointer counts, and these within its segment
pub IsInside_tagged_target : (segment : List ℕ) (start words tag : ℕ) → AreBytes segment → start + 1 + words ≤ length segment / 8 → words < 2 ^ 29 → tag < 2 ^ 64 → IsInside (tagged_target segment start words tag)
IsInside_tagged_target segment start words tag h l w b =
    IsInside_cond (pointer_kind tag == 0) _ (BadTarget BadPointer)
    (λ _. IsInside_cond (nat_lt (offset tag) (2 ^ 29)) _ (BadTarget BadPointer)
    (λ c. IsInside_cond (nat_le (offset tag * (data_words tag + pointer_count tag)) words) (CompositeAt segment (start + 1) (offset tag) (data_words tag) (pointer_count tag)) (BadTarget BadPointer)
    (λ e.
    let fits : offset tag * (data_words tag + pointer_count tag) ≤ words = le_from_test _ _ e in
    (h, omega arith, omega arith, omega arith, lt_from_test _ _ c, omega arith))
    (λ _. tt))
    (λ _. tt))
    (λ _. tt)

-- a list ends within its segment
pub IsInside_list_target : (segment : List ℕ) (start word : ℕ) → AreBytes segment → word < 2 ^ 64 → IsInside (list_target segment start word)
IsInside_list_target segment start word h b =
    IsInside_cond (element_size_number word == 7) _ _
    (λ _. IsInside_cond (lies segment (start + 1 + count word)) (tagged_target segment start (count word) (word_at segment start)) (BadTarget BadPointer)
    (λ e. IsInside_tagged_target segment start (count word) (word_at segment start) h (le_from_test _ _ e) (omega arith) (word_at_lt segment start h))
    (λ _. tt))
    (λ n. IsInside_cond (lies segment (start + list_words (element_size_number word) (count word))) (ListAt segment start (element_size_number word) (count word)) (BadTarget BadPointer)
    (λ e. (h, le_from_test _ _ e, below_seven (element_size_number word) (omega arith) n, omega arith))
    (λ _. tt))

-- a pointer of any kind, from a known start
pub IsInside_near_target : (segment : List ℕ) (start word : ℕ) → AreBytes segment → word < 2 ^ 64 → IsInside (near_target segment start word)
IsInside_near_target segment start word h b =
    IsInside_cond (pointer_kind word == 0) (struct_target segment start word) _
    (λ _. IsInside_struct_target segment start word h b)
    (λ _. IsInside_cond (pointer_kind word == 1) (list_target segment start word) _
    (λ _. IsInside_list_target segment start word h b)
    (λ _. IsInside_cond (pointer_kind word == 2) (BadTarget BadPointer) (BadTarget CapabilityPointer) (λ _. tt) (λ _. tt)))

-- the same where the start may lie before the segment
pub IsInside_near_target_from : (segment : List ℕ) (start : Option ℕ) (word : ℕ) → AreBytes segment → word < 2 ^ 64 → IsInside (near_target_from segment start word)
IsInside_near_target_from segment None word h b = IsInside_cond (pointer_kind word == 3) (BadTarget CapabilityPointer) (BadTarget BadPointer) (λ _. tt) (λ _. tt)
IsInside_near_target_from segment (Some start) word h b = IsInside_near_target segment start word h b

-- ---- through far pointers ----

-- a tag of a landing pad, whose target lies in a segment that may be missing
pub IsInside_tag_target : (o : Option (List ℕ)) (first tag : ℕ) → IfSome o AreBytes → tag < 2 ^ 64 → IsInside (tag_target o first tag)
IsInside_tag_target None first tag h b = tt
IsInside_tag_target (Some segment) first tag h b = IsInside_near_target segment (pad_word first) tag h b

-- a landing pad of two words
pub IsInside_double_target : (segments : Segments) (first tag : ℕ) → AreSegments segments → tag < 2 ^ 64 → IsInside (double_target segments first tag)
IsInside_double_target segments first tag h b =
    IsInside_cond (pointer_kind first == 2) _ (BadTarget BadPointer)
    (λ _. IsInside_cond (is_double first) (BadTarget BadPointer) _ (λ _. tt)
    (λ _. IsInside_cond (pointer_kind tag == 3) (BadTarget CapabilityPointer) (tag_target (slice_get segments (pad_segment first)) first tag) (λ _. tt)
    (λ _. IsInside_tag_target (slice_get segments (pad_segment first)) first tag (AreSegments_slice_get segments (pad_segment first) h) b)))
    (λ _. tt)

-- a far pointer, whose landing pad lies in a segment that may be missing
pub IsInside_pad_target : (segments : Segments) (o : Option (List ℕ)) (word : ℕ) → AreSegments segments → IfSome o AreBytes → IsInside (pad_target segments o word)
IsInside_pad_target segments None word h s = tt
IsInside_pad_target segments (Some segment) word h s =
    IsInside_cond (is_double word) _ _
    (λ _. IsInside_cond (lies segment (pad_word word + 2)) (double_target segments (word_at segment (pad_word word)) (word_at segment (pad_word word + 1))) (BadTarget BadPointer)
    (λ _. IsInside_double_target segments (word_at segment (pad_word word)) (word_at segment (pad_word word + 1)) h (word_at_lt segment (pad_word word + 1) s))
    (λ _. tt))
    (λ _. IsInside_cond (lies segment (pad_word word + 1)) (near_target_from segment (start_of (pad_word word) (word_at segment (pad_word word))) (word_at segment (pad_word word))) (BadTarget BadPointer)
    (λ _. IsInside_near_target_from segment (start_of (pad_word word) (word_at segment (pad_word word))) (word_at segment (pad_word word)) s (word_at_lt segment (pad_word word) s))
    (λ _. tt))

-- ---- a place ----

-- a pointer word, near or far
pub IsInside_word_target : (segments : Segments) (segment : List ℕ) (w word : ℕ) → AreSegments segments → AreBytes segment → word < 2 ^ 64 → IsInside (word_target segments segment w word)
IsInside_word_target segments segment w word h s b =
    IsInside_cond (word == 0) NoTarget _ (λ _. tt)
    (λ _. IsInside_cond (pointer_kind word == 2) (pad_target segments (slice_get segments (pad_segment word)) word) (near_target_from segment (start_of w word) word)
    (λ _. IsInside_pad_target segments (slice_get segments (pad_segment word)) word h (AreSegments_slice_get segments (pad_segment word) h))
    (λ _. IsInside_near_target_from segment (start_of w word) word s b))

-- the word at a place, which may lie past the end of its segment
pub IsInside_target_at : (segments : Segments) (segment : List ℕ) (w : ℕ) → AreSegments segments → AreBytes segment → IsInside (target_at segments segment w)
IsInside_target_at segments segment w h s =
    IsInside_cond (lies segment (w + 1)) (word_target segments segment w (word_at segment w)) (BadTarget BadPointer)
    (λ _. IsInside_word_target segments segment w (word_at segment w) h s (word_at_lt segment w s)) (λ _. tt)
