-- Lists that are new, become lists of structs or are written into are well-formed.
use Rattle.std.proofs.Common.{Some, None, cond, ◌≡◌, ℕ, ◌+◌, ◌*◌, ◌/◌, ◌^◌, ◌<◌, ◌≤◌, refl, sym, ap, subst, arith, Bool, true, false, nat_lt, List, [], ◌∷◌, ◌++◌, length, replicate, length-set}
use Rattle.std.proofs.lemmas.Bool.Decides.{nat_tests}
use Rattle.std.proofs.lemmas.List.{length-append, length-replicate}
use Rattle.capnp_wire.specs.Tree.{Tree, Null, Struct, Voids, Bits, Numbers, Pointers, Composite, FaultLeaf, Structs, StructTree, empty_struct, nth_struct, struct_count, structs_from, tree_count}
use Rattle.capnp_wire.specs.Reading.{element_struct, list_length}
use Rattle.capnp_wire.specs.WellFormed.{AreBytes, IsWellFormed, IsWellFormedStruct, is_width}
use Rattle.capnp_wire.specs.Steps.WellFormed.{IsElement}
use Rattle.capnp_wire.specs.Edits.{extended_struct, with_bytes, with_number, with_pointer_tree, zero_list, zero_struct, zero_structs}
use Rattle.capnp_wire.specs.Elements.{HasNumber, with_bit_element, with_number_element, with_pointer_element, with_struct, with_struct_element}
use Rattle.capnp_wire.specs.StructLists.{as_structs, grown_size, past_format, struct_list, struct_list_refusal}
use Rattle.capnp_wire.specs.declared.size.ElementSize.{ElementSize}
use Rattle.capnp_wire.specs.declared.size.ElementSize.TheVariants.{Void, Bit, Byte, TwoBytes, FourBytes, EightBytes, Pointer, InlineComposite}
use Rattle.capnp_wire.specs.declared.size.StructSize.{StructSize}
use Rattle.capnp_device.specs.declared.error.ErrorKind.TheVariants.{SizePastFormat}
use Rattle.capnp_wire.specs.Facts.Bytes.{AreBytes_append, AreBytes_none, AreBytes_with_number, AreBytes_zeros, length_part_le, length_with_number}
use Rattle.capnp_wire.specs.Facts.Rows.{AreElements_structs_from, AreElements_with_struct, AreWellFormed_nulls, AreWellFormed_with_tree, IsElement_nth_struct, struct_count_structs_from, struct_count_with_struct, tree_count_nulls, tree_count_with_tree}
use Rattle.capnp_wire.specs.Facts.Structs.{IsElement_extended, IsElement_with_number, IsElement_with_pointer_tree, IsElement_zero_struct}
use Rattle.capnp_wire.specs.Facts.Parts.{IsWellFormedStruct_element_struct, list_length_lt, tree_count_only_tree_le, width_bound}

-- ---- new lists ----

IsWellFormed_zeros : (width count : ℕ) → is_width width ≡ true → count < 2 ^ 29 → (width * count) / width ≡ count → IsWellFormed (Numbers width (replicate (width * count) 0))
IsWellFormed_zeros width count h a e =
    let n : length {A = ℕ} (replicate (width * count) 0) ≡ width * count = length-replicate (width * count) 0 in
    (AreBytes_zeros (width * count), h, subst (λ l. l ≡ width * (l / width)) (sym n) (ap (λ m. width * m) (sym e)), subst (λ l. l / width < 2 ^ 29) (sym n) (omega (arith, e, a)))

pub IsWellFormed_zero_list : (size : ElementSize) (count : ℕ) → count < 2 ^ 29 → IsWellFormed (zero_list size count)
IsWellFormed_zero_list Void count a = a
IsWellFormed_zero_list Bit count a = omega (arith, length-replicate count false)
IsWellFormed_zero_list Byte count a =
    let one : 1 * count ≡ count = omega arith in
    subst (λ m. IsWellFormed (Numbers 1 (replicate m 0))) one (IsWellFormed_zeros 1 count refl a (omega arith))
IsWellFormed_zero_list TwoBytes count a = IsWellFormed_zeros 2 count refl a (omega arith)
IsWellFormed_zero_list FourBytes count a = IsWellFormed_zeros 4 count refl a (omega arith)
IsWellFormed_zero_list EightBytes count a = IsWellFormed_zeros 8 count refl a (omega arith)
IsWellFormed_zero_list Pointer count a = (omega (arith, tree_count_nulls count), AreWellFormed_nulls count)
IsWellFormed_zero_list InlineComposite count a = (
  omega arith,
  omega arith,
  omega (arith, struct_count_structs_from (λ _. empty_struct) 0 count),
  omega arith,
  AreElements_structs_from (λ _. empty_struct) 0 0 0 count (λ i b. (AreBytes_none, refl, refl, tt)),
)

-- structs of one size in a row
IsWellFormed_structs_from : (f : ℕ → StructTree) (size : StructSize) (count : ℕ) → size.data_words < 2 ^ 16 → size.pointers < 2 ^ 16 → count < 2 ^ 29 → count * (size.data_words + size.pointers) < 2 ^ 29 → ((i : ℕ) → i < count → IsElement size.data_words size.pointers (f i)) → IsWellFormed (Composite size.data_words size.pointers (structs_from f 0 count))
IsWellFormed_structs_from f size count a b few words each =
    let n : struct_count (structs_from f 0 count) ≡ count = struct_count_structs_from f 0 count in
    (a, b, omega (arith, n), subst (λ m. m * (size.data_words + size.pointers) < 2 ^ 29) (sym n) words, AreElements_structs_from f size.data_words size.pointers 0 count (λ i h. each i (omega (arith, h))))

pub IsWellFormed_zero_structs : (size : StructSize) (count : ℕ) → size.data_words < 2 ^ 16 → size.pointers < 2 ^ 16 → count < 2 ^ 29 → count * (size.data_words + size.pointers) < 2 ^ 29 → IsWellFormed (zero_structs size count)
IsWellFormed_zero_structs size count a b few words = IsWellFormed_structs_from (λ _. zero_struct size) size count a b few words (λ i h. IsElement_zero_struct size)

-- ---- data and texts ----

pub IsWellFormed_data : (bytes : List ℕ) → AreBytes bytes → length bytes < 2 ^ 29 → IsWellFormed (Numbers 1 bytes)
IsWellFormed_data bytes h a = (h, refl, omega arith, omega arith)

pub IsWellFormed_text : (bytes : List ℕ) → AreBytes bytes → length bytes + 1 < 2 ^ 29 → IsWellFormed (Numbers 1 (bytes ++ 0 ∷ []))
IsWellFormed_text bytes h a = IsWellFormed_data (bytes ++ 0 ∷ []) (AreBytes_append bytes (0 ∷ []) h (AreBytes_zeros 1)) (omega (arith, length-append bytes (0 ∷ [])))

pub IsWellFormed_new_text : (count : ℕ) → count + 1 < 2 ^ 29 → IsWellFormed (Numbers 1 (replicate count 0 ++ 0 ∷ []))
IsWellFormed_new_text count h = IsWellFormed_text (replicate count 0) (AreBytes_zeros count) (omega (arith, length-replicate {A = ℕ} count 0))

-- ---- lists that become lists of structs ----

few_words : (count : ℕ) (size : StructSize) → past_format count size ≡ None → count * (size.data_words + size.pointers) < 2 ^ 29
few_words count size h = by_test (nat_lt (count * (size.data_words + size.pointers)) (2 ^ 29)) refl h
  where
    by_test : (test : Bool) → nat_lt (count * (size.data_words + size.pointers)) (2 ^ 29) ≡ test → cond test None (Some SizePastFormat) ≡ None → count * (size.data_words + size.pointers) < 2 ^ 29
    by_test true e q = grind (arith, nat_tests)
    by_test false e q = cc

-- an element is no larger than the size
abbrev IsWithin : StructSize → StructTree → Type 0
IsWithin size s = (length s.bytes ≤ 8 * size.data_words) × (tree_count s.pointers ≤ size.pointers)

IsWellFormed_as_structs : (size : StructSize) (t : Tree) → IsWellFormed t → size.data_words < 2 ^ 16 → size.pointers < 2 ^ 16 → ((i : ℕ) → i < list_length t → IsWithin size (element_struct t i)) → past_format (list_length t) size ≡ None → IsWellFormed (as_structs size t)
IsWellFormed_as_structs size t h a b within room =
    IsWellFormed_structs_from (λ i. extended_struct size (element_struct t i)) size (list_length t) a b (list_length_lt t h) (few_words (list_length t) size room)
    (λ i c. IsElement_extended size (element_struct t i) (IsWellFormedStruct_element_struct t i h) (within i c).0 (within i c).1)

pub IsWellFormed_struct_list : (size : StructSize) (t : Tree) → size.data_words < 2 ^ 16 → size.pointers < 2 ^ 16 → struct_list_refusal size t ≡ None → IsWellFormed t → IsWellFormed (struct_list size t)
IsWellFormed_struct_list size Null a b r h = tt
IsWellFormed_struct_list size (Struct bytes ps) a b r h = h
IsWellFormed_struct_list size (Voids n) a b r h = IsWellFormed_as_structs (grown_size size (Voids n)) (Voids n) h (omega arith) (omega arith) (λ i c. (omega arith, omega arith)) r
IsWellFormed_struct_list size (Bits bs) a b r h = h
IsWellFormed_struct_list size (Numbers w bytes) a b r h =
    IsWellFormed_as_structs (grown_size size (Numbers w bytes)) (Numbers w bytes) h (omega arith) (omega arith) (λ i c. (omega (arith, length_part_le w (i * w) bytes, width_bound w h.1), omega arith)) r
IsWellFormed_struct_list size (Pointers ps) a b r h =
    IsWellFormed_as_structs (grown_size size (Pointers ps)) (Pointers ps) h (omega arith) (omega arith) (λ i c. (omega arith, omega (arith, tree_count_only_tree_le ps i))) r
IsWellFormed_struct_list size (Composite d p es) a b r h =
    IsWellFormed_as_structs (grown_size size (Composite d p es)) (Composite d p es) h (omega (arith, h.0)) (omega (arith, h.1))
    (λ i c. let e : IsElement d p (nth_struct es i) = IsElement_nth_struct d p es i h.4 c in (omega (arith, e.1), omega (arith, e.2))) r
IsWellFormed_struct_list size (FaultLeaf k) a b r h = h

-- ---- lists with another element ----

pub IsWellFormed_with_struct : (d p : ℕ) (es : Structs) (i : ℕ) (s : StructTree) → IsWellFormed (Composite d p es) → (i < struct_count es → IsElement d p s) → IsWellFormed (Composite d p (with_struct es i s))
IsWellFormed_with_struct d p es i s h k =
    let n : struct_count (with_struct es i s) ≡ struct_count es = struct_count_with_struct es i s in
    (h.0, h.1, omega (arith, n, h.2), subst (λ m. m * (d + p) < 2 ^ 29) (sym n) h.3, AreElements_with_struct d p es i s h.4 k)

pub IsWellFormed_with_bit_element : (i : ℕ) (bit : Bool) (t : Tree) → IsWellFormed t → IsWellFormed (with_bit_element i bit t)
IsWellFormed_with_bit_element i bit Null h = h
IsWellFormed_with_bit_element i bit (Struct bytes ps) h = h
IsWellFormed_with_bit_element i bit (Voids n) h = h
IsWellFormed_with_bit_element i bit (Bits bs) h = omega (arith, length-set bs i bit)
IsWellFormed_with_bit_element i bit (Numbers w bytes) h = h
IsWellFormed_with_bit_element i bit (Pointers ps) h = h
IsWellFormed_with_bit_element i bit (Composite d p es) h = h
IsWellFormed_with_bit_element i bit (FaultLeaf k) h = h

pub IsWellFormed_with_number_element : (width i n : ℕ) (t : Tree) → HasNumber width t i → IsWellFormed t → IsWellFormed (with_number_element width i n t)
IsWellFormed_with_number_element width i n (Numbers w bytes) there h =
    let same : length (with_number width i n bytes) ≡ length bytes = length_with_number width i n bytes there in
    (AreBytes_with_number width i n bytes h.0, h.1, subst (λ l. l ≡ w * (l / w)) (sym same) h.2, subst (λ l. l / w < 2 ^ 29) (sym same) h.3)
IsWellFormed_with_number_element width i n (Composite d p es) there h =
    IsWellFormed_with_struct d p es i (with_bytes (nth_struct es i) (with_number width 0 n (nth_struct es i).bytes)) h
    (λ a. IsElement_with_number d p (nth_struct es i) width 0 n (omega (arith, there.1)) (IsElement_nth_struct d p es i h.4 a))
IsWellFormed_with_number_element width i n t there h = absurd there

pub IsWellFormed_with_pointer_element : (i : ℕ) (p t : Tree) → IsWellFormed p → IsWellFormed t → IsWellFormed (with_pointer_element i p t)
IsWellFormed_with_pointer_element i x Null k h = h
IsWellFormed_with_pointer_element i x (Struct bytes ps) k h = h
IsWellFormed_with_pointer_element i x (Voids n) k h = h
IsWellFormed_with_pointer_element i x (Bits bs) k h = h
IsWellFormed_with_pointer_element i x (Numbers w bytes) k h = h
IsWellFormed_with_pointer_element i x (Pointers ps) k h = (omega (arith, tree_count_with_tree ps i x, h.0), AreWellFormed_with_tree ps i x h.1 k)
IsWellFormed_with_pointer_element i x (Composite d p es) k h =
    IsWellFormed_with_struct d p es i (with_pointer_tree (nth_struct es i) 0 x) h
    (λ a. IsElement_with_pointer_tree d p (nth_struct es i) 0 x (IsElement_nth_struct d p es i h.4 a) k)
IsWellFormed_with_pointer_element i x (FaultLeaf f) k h = h

-- another struct has the size of the one in whose place it stands
pub IsWellFormed_with_struct_element : (i : ℕ) (s : StructTree) (t : Tree) → length s.bytes ≡ length (element_struct t i).bytes → tree_count s.pointers ≡ tree_count (element_struct t i).pointers → IsWellFormedStruct s → IsWellFormed t → IsWellFormed (with_struct_element i s t)
IsWellFormed_with_struct_element i s Null a b k h = h
IsWellFormed_with_struct_element i s (Struct bytes ps) a b k h = h
IsWellFormed_with_struct_element i s (Voids n) a b k h = h
IsWellFormed_with_struct_element i s (Bits bs) a b k h = h
IsWellFormed_with_struct_element i s (Numbers w bytes) a b k h = h
IsWellFormed_with_struct_element i s (Pointers ps) a b k h = h
IsWellFormed_with_struct_element i s (Composite d p es) a b k h = IsWellFormed_with_struct d p es i s h (λ c.
    let e : IsElement d p (nth_struct es i) = IsElement_nth_struct d p es i h.4 c in
    (k.0, omega (arith, a, e.1), omega (arith, b, e.2), k.3))
IsWellFormed_with_struct_element i s (FaultLeaf f) a b k h = h

-- ---- elements of a list of structs ----
