-- Spliced lists whose first elements are there.
use Rattle.std.proofs.Common.{◌≡◌, ℕ, ◌+◌, ◌*◌, ◌<◌, ◌≤◌, Bool, false, not, nat_lt, None, Some, replicate, length, sym, ap, ap₂, subst, ◌∙◌, arith}
use Rattle.std.specs.Prelude.{option_map}
use Rattle.std.proofs.Common.{◌-◌, ◌&&◌, below_more}
use Rattle.std.proofs.lemmas.List.{length-replicate}
use Rattle.capnp_wire.specs.Edits.{nulls}
use Rattle.capnp_wire.specs.Facts.Rows.{nth_struct_start, struct_count_structs_from, tree_count_nulls, tree_count_trees_from}
use Rattle.capnp_wire.specs.StructLists.{element_pointers, element_words}
use Rattle.capnp_wire.specs.WellFormed.{IsWellFormed}
use Rattle.capnp_device.specs.declared.error.ErrorKind.{ErrorKind}
use Rattle.capnp_wire.specs.Edits.{fitted_struct, zero_list, zero_struct, zero_structs}
use Rattle.capnp_wire.specs.Elements.{HasBit, HasNumber, HasPointer, HasStruct, with_bit_element, with_number_element, with_pointer_element, with_struct_element}
use Rattle.capnp_wire.specs.Locate.{words_past_format}
use Rattle.capnp_wire.specs.Reading.{element_struct, refusal}
use Rattle.capnp_wire.specs.Tree.{Tree, Bits, Composite, Null, Numbers, Pointers, StructTree, structs_from, tree_count, trees_from}
use Rattle.capnp_wire.specs.Words.{first_fault, first_fault_of_all}
use Rattle.capnp_wire.specs.declared.size.ElementSize.TheVariants.{Bit, Pointer}
use Rattle.capnp_wire.specs.declared.size.StructSize.{StructSize}
use Rattle.capnp_arena.specs.Message.{IsMessage, message_tree}
use Rattle.capnp_arena.specs.declared.arena.Arena.{Arena}
use Rattle.capnp_splices.specs.Splices.{Element, HasRoomFor, Splice, bit_of, bits_by, bytes_by, is_past_format, number_of, picked, pointer_of, spliced_bits, spliced_count, spliced_numbers, spliced_pointers, spliced_structs, struct_of_size}
use Rattle.capnp_splices.proofs.Filled.{fault_appended, fault_in_structs, fault_in_trees, filled_from, filled_to, fitted_whole, no_faults, no_faults_of, trees_all, trees_more, trees_none, structs_all, structs_more, structs_none}
use Rattle.capnp_splices.proofs.Sized.{element_sized, bits_all, bits_more, bits_none, bytes_all, bytes_more, bytes_none, length_bits, length_bytes}

abbrev pub pointers_of : Splice → ℕ → Tree
pointers_of s i = pointer_of (picked s i)

pub record PointersTo (arena : Arena) (s : Splice) (n : ℕ) : Type 0 where
  pub message : IsMessage arena
  pub tree : message_tree arena ≡ Pointers (trees_from (filled_to n (pointers_of s) Null) 0 (spliced_count s))
  pub sound : (k : ℕ) → k < n → first_fault (pointers_of s k) ≡ None

pub record StructsTo (arena : Arena) (size : StructSize) (s : Splice) (n : ℕ) : Type 0 where
  pub message : IsMessage arena
  pub tree : message_tree arena ≡ Composite size.data_words size.pointers (structs_from (filled_to n (λ i. struct_of_size size (picked s i)) (zero_struct size)) 0 (spliced_count s))
  pub sound : (k : ℕ) → k < n → first_fault_of_all (struct_of_size size (picked s k)).pointers ≡ None

pub record BitsTo (arena : Arena) (s : Splice) (n : ℕ) : Type 0 where
  pub message : IsMessage arena
  pub tree : message_tree arena ≡ Bits (bits_by (filled_to n (λ i. bit_of (picked s i)) false) 0 (spliced_count s))

pub record NumbersTo (arena : Arena) (width : ℕ) (s : Splice) (n : ℕ) : Type 0 where
  pub message : IsMessage arena
  pub tree : message_tree arena ≡ Numbers width (bytes_by width (filled_to n (λ i. number_of width (picked s i)) 0) 0 (spliced_count s))

-- ---- bits ----

pub bits_start : (a : Arena) (s : Splice) (n : ℕ) → n ≡ spliced_count s → IsMessage a → message_tree a ≡ zero_list Bit n → BitsTo a s 0
bits_start a s n count message tree = record {
  message = message;
  tree = tree ∙ ap Bits (ap (λ k. replicate k false) count ∙ sym (bits_none (λ i. bit_of (picked s i)) (spliced_count s)));
}

bits_element : (s : Splice) (j : ℕ) (v : Bool) (t : Tree) → t ≡ Bits (bits_by (filled_to j (λ i. bit_of (picked s i)) false) 0 (spliced_count s)) → v ≡ bit_of (picked s j)
    → with_bit_element j v t ≡ Bits (bits_by (filled_to (j + 1) (λ i. bit_of (picked s i)) false) 0 (spliced_count s))
bits_element s j v t is e =
    ap₂ (with_bit_element j) e is ∙ ap Bits (bits_more (λ i. bit_of (picked s i)) (spliced_count s) j)

pub bits_next : (a b : Arena) (s : Splice) (j : ℕ) (v : Bool) (p : Element) → BitsTo a s j → v ≡ bit_of p → p ≡ picked s j → IsMessage b → message_tree b ≡ with_bit_element j v (message_tree a) → BitsTo b s (j + 1)
bits_next a b s j v p so_far e is message tree = record {
  message = message;
  tree = tree ∙ bits_element s j v (message_tree a) so_far.tree (e ∙ ap bit_of is);
}

pub bit_there : (a : Arena) (s : Splice) (j : ℕ) → BitsTo a s j → j < spliced_count s → HasBit (message_tree a) j
bit_there a s j so_far h =
    subst (λ t. HasBit t j) (sym so_far.tree) (omega (arith, h, length_bits (filled_to j (λ i. bit_of (picked s i)) false) 0 (spliced_count s)))

pub bits_end : (a : Arena) (s : Splice) (n : ℕ) → BitsTo a s n → n ≡ spliced_count s → message_tree a ≡ spliced_bits s
bits_end a s n so_far e = so_far.tree ∙ (ap (λ k. Bits (bits_by (filled_to k (λ i. bit_of (picked s i)) false) 0 (spliced_count s))) e ∙ ap Bits (bits_all (λ i. bit_of (picked s i)) (spliced_count s)))

pub bits_past : (s : Splice) → is_past_format (spliced_bits s) ≡ not (nat_lt (spliced_count s) words_past_format)
bits_past s = ap (λ n. not (nat_lt n words_past_format)) (length_bits (λ i. bit_of (picked s i)) 0 (spliced_count s))

-- ---- pointers ----

pub pointers_start : (a : Arena) (s : Splice) (n : ℕ) → n ≡ spliced_count s → IsMessage a → message_tree a ≡ zero_list Pointer n → PointersTo a s 0
pointers_start a s n count message tree = record {
  message = message;
  tree = tree ∙ ap Pointers (ap nulls count ∙ sym (trees_none (pointers_of s) (spliced_count s)));
  sound = λ k h. absurd (omega (arith, h));
}

pub pointer_there : (a : Arena) (s : Splice) (j : ℕ) → PointersTo a s j → j < spliced_count s → HasPointer (message_tree a) j
pointer_there a s j so_far h =
    subst (λ t. HasPointer t j) (sym so_far.tree) (omega (arith, h, tree_count_trees_from (filled_to j (pointers_of s) Null) 0 (spliced_count s)))

pointer_put : (s : Splice) (j : ℕ) (v : Tree) (t : Tree) → t ≡ Pointers (trees_from (filled_to j (pointers_of s) Null) 0 (spliced_count s)) → v ≡ pointers_of s j
    → with_pointer_element j v t ≡ Pointers (trees_from (filled_to (j + 1) (pointers_of s) Null) 0 (spliced_count s))
pointer_put s j v t is e = ap₂ (with_pointer_element j) e is ∙ ap Pointers (trees_more (pointers_of s) (spliced_count s) j)

-- one element more has no fault
one_more : (P : ℕ → Type 0) (j : ℕ) → ((k : ℕ) → k < j → P k) → P j → (k : ℕ) → k < j + 1 → P k
one_more P j before here k h = below_more P j before here k h

pub pointers_next : (a b : Arena) (s : Splice) (j : ℕ) (v : Tree) → PointersTo a s j → v ≡ pointers_of s j → IsMessage b → message_tree b ≡ with_pointer_element j v (message_tree a) → first_fault v ≡ None → PointersTo b s (j + 1)
pointers_next a b s j v so_far e message tree sound = record {
  message = message;
  tree = tree ∙ pointer_put s j v (message_tree a) so_far.tree e;
  sound = one_more (λ k. first_fault (pointers_of s k) ≡ None) j so_far.sound (ap first_fault (sym e) ∙ sound);
}

pub pointers_end : (a : Arena) (s : Splice) (n : ℕ) → PointersTo a s n → n ≡ spliced_count s → message_tree a ≡ spliced_pointers s
pointers_end a s n so_far e = so_far.tree ∙ (ap (λ k. Pointers (trees_from (filled_to k (pointers_of s) Null) 0 (spliced_count s))) e ∙ ap Pointers (trees_all (pointers_of s) (spliced_count s)))

pub pointers_past : (s : Splice) → is_past_format (spliced_pointers s) ≡ not (nat_lt (spliced_count s) words_past_format)
pointers_past s = ap (λ n. not (nat_lt n words_past_format)) (tree_count_trees_from (pointers_of s) 0 (spliced_count s))

pub pointers_sound : (a : Arena) (s : Splice) (n : ℕ) → PointersTo a s n → n ≡ spliced_count s → option_map refusal (first_fault (spliced_pointers s)) ≡ None
pointers_sound a s n so_far e = ap (option_map refusal) (no_faults (pointers_of s) 0 (spliced_count s) (λ i h. so_far.sound (0 + i) (omega (arith, h, e))))

-- the first fault is that of the first element that has one
pub pointer_fault : (a : Arena) (s : Splice) (j : ℕ) (v : Tree) (kind : ErrorKind) → PointersTo a s j → j < spliced_count s → v ≡ pointers_of s j → option_map refusal (first_fault v) ≡ Some kind → option_map refusal (first_fault (spliced_pointers s)) ≡ Some kind
pointer_fault a s j v kind so_far h e fault =
    fault_in_trees (pointers_of s) kind 0 (spliced_count s) j h (λ i b. so_far.sound (0 + i) (omega (arith, b)))
    (ap (λ k. option_map refusal (first_fault (pointers_of s k))) {x = 0 + j} {y = j} (omega arith) ∙ (ap (λ t. option_map refusal (first_fault t)) (sym e) ∙ fault))

-- ---- structs ----

pub structs_start : (a : Arena) (size : StructSize) (s : Splice) (n : ℕ) → n ≡ spliced_count s → IsMessage a → message_tree a ≡ zero_structs size n → StructsTo a size s 0
structs_start a size s n count message tree = record {
  message = message;
  tree = tree ∙ ap (Composite size.data_words size.pointers) (ap (structs_from (λ _. zero_struct size) 0) count ∙ sym (structs_none (λ i. struct_of_size size (picked s i)) (zero_struct size) (spliced_count s)));
  sound = λ k h. absurd (omega (arith, h));
}

abbrev structs_at : StructSize → Splice → ℕ → Tree
structs_at size s j = Composite size.data_words size.pointers (structs_from (filled_to j (λ i. struct_of_size size (picked s i)) (zero_struct size)) 0 (spliced_count s))

pub struct_there : (a : Arena) (size : StructSize) (s : Splice) (j : ℕ) → StructsTo a size s j → j < spliced_count s → HasStruct (message_tree a) j
struct_there a size s j so_far h =
    subst (λ t. HasStruct t j) (sym so_far.tree) (omega (arith, h, struct_count_structs_from (filled_to j (λ i. struct_of_size size (picked s i)) (zero_struct size)) 0 (spliced_count s)))

-- the element that is next is still all zero
blank : (size : StructSize) (s : Splice) (j : ℕ) → j < spliced_count s → element_struct (structs_at size s j) j ≡ zero_struct size
blank size s j h =
    nth_struct_start (filled_to j (λ i. struct_of_size size (picked s i)) (zero_struct size)) (spliced_count s) j h
    ∙ filled_from (λ i. struct_of_size size (picked s i)) (zero_struct size) j

-- so what fits of a struct is all of it
struct_put : (size : StructSize) (s : Splice) (j : ℕ) (v : StructTree) (e : Element) → j < spliced_count s → v ≡ element_struct e.list e.index → e ≡ picked s j → IsWellFormed e.list → HasRoomFor size e.list
    → with_struct_element j (fitted_struct (length (element_struct (structs_at size s j) j).bytes) (tree_count (element_struct (structs_at size s j) j).pointers) v) (structs_at size s j) ≡ structs_at size s (j + 1)
struct_put size s j v e h is at formed room =
    ap (λ (b : StructTree). with_struct_element j (fitted_struct (length b.bytes) (tree_count b.pointers) v) (structs_at size s j)) (blank size s j h)
    ∙ (ap₂ (λ m n. with_struct_element j (fitted_struct m n v) (structs_at size s j)) (length-replicate (8 * size.data_words) 0) (tree_count_nulls size.pointers)
    ∙ (ap (λ b. with_struct_element j b (structs_at size s j)) whole
    ∙ ap (Composite size.data_words size.pointers) (structs_more (λ i. struct_of_size size (picked s i)) (zero_struct size) (spliced_count s) j)))
  where
    sized : (length (element_struct e.list e.index).bytes ≤ 8 * element_words e.list) × (tree_count (element_struct e.list e.index).pointers ≤ element_pointers e.list)
    sized = element_sized e.list e.index formed

    whole : fitted_struct (8 * size.data_words) size.pointers v ≡ struct_of_size size (picked s j)
    whole =
        ap (fitted_struct (8 * size.data_words) size.pointers) is
        ∙ (fitted_whole size (element_struct e.list e.index) (omega (arith, sized.0, room.words)) (omega (arith, sized.1, room.pointers))
        ∙ ap (struct_of_size size) at)

-- a struct with nulls behind its pointers has its faults
same_fault : (size : StructSize) (s : Splice) (j : ℕ) (v : StructTree) (e : Element) → v ≡ element_struct e.list e.index → e ≡ picked s j → first_fault_of_all v.pointers ≡ first_fault_of_all (struct_of_size size (picked s j)).pointers
same_fault size s j v e is at =
    ap (λ (x : StructTree). first_fault_of_all x.pointers) is
    ∙ (sym (fault_appended (element_struct e.list e.index).pointers (size.pointers - tree_count (element_struct e.list e.index).pointers))
    ∙ ap (λ x. first_fault_of_all (struct_of_size size x).pointers) at)

-- a struct without faults was put at a place of a message's list
pub record IsPutAt (a b : Arena) (j : ℕ) (v : StructTree) : Type 0 where
  pub message : IsMessage b
  pub tree : message_tree b ≡ with_struct_element j (fitted_struct (length (element_struct (message_tree a) j).bytes) (tree_count (element_struct (message_tree a) j).pointers) v) (message_tree a)
  pub sound : first_fault_of_all v.pointers ≡ None

pub structs_next : (a b : Arena) (size : StructSize) (s : Splice) (j : ℕ) (v : StructTree) (e : Element) → StructsTo a size s j → j < spliced_count s → v ≡ element_struct e.list e.index → e ≡ picked s j → IsWellFormed e.list → HasRoomFor size e.list
    → IsPutAt a b j v → StructsTo b size s (j + 1)
structs_next a b size s j v e so_far h is at formed room put = record {
  message = put.message;
  tree = put.tree ∙ (ap (λ t. with_struct_element j (fitted_struct (length (element_struct t j).bytes) (tree_count (element_struct t j).pointers) v) t) so_far.tree ∙ struct_put size s j v e h is at formed room);
  sound = one_more (λ k. first_fault_of_all (struct_of_size size (picked s k)).pointers ≡ None) j so_far.sound (sym (same_fault size s j v e is at) ∙ put.sound);
}

pub structs_end : (a : Arena) (size : StructSize) (s : Splice) (n : ℕ) → StructsTo a size s n → n ≡ spliced_count s → message_tree a ≡ spliced_structs size s
structs_end a size s n so_far e = so_far.tree ∙ (ap (structs_at size s) e ∙ ap (Composite size.data_words size.pointers) (structs_all (λ i. struct_of_size size (picked s i)) (zero_struct size) (spliced_count s)))

pub structs_past : (size : StructSize) (s : Splice) → is_past_format (spliced_structs size s) ≡ not (nat_lt (spliced_count s) words_past_format && nat_lt (spliced_count s * (size.data_words + size.pointers)) words_past_format)
structs_past size s = ap (λ n. not (nat_lt n words_past_format && nat_lt (n * (size.data_words + size.pointers)) words_past_format)) (struct_count_structs_from (λ i. struct_of_size size (picked s i)) 0 (spliced_count s))

pub structs_sound : (a : Arena) (size : StructSize) (s : Splice) (n : ℕ) → StructsTo a size s n → n ≡ spliced_count s → option_map refusal (first_fault (spliced_structs size s)) ≡ None
structs_sound a size s n so_far e = ap (option_map refusal) (no_faults_of (λ i. struct_of_size size (picked s i)) 0 (spliced_count s) (λ i h. so_far.sound (0 + i) (omega (arith, h, e))))

pub struct_fault : (a : Arena) (size : StructSize) (s : Splice) (j : ℕ) (v : StructTree) (e : Element) (kind : ErrorKind) → StructsTo a size s j → j < spliced_count s → v ≡ element_struct e.list e.index → e ≡ picked s j
    → option_map refusal (first_fault_of_all v.pointers) ≡ Some kind → option_map refusal (first_fault (spliced_structs size s)) ≡ Some kind
struct_fault a size s j v e kind so_far h is at fault =
    fault_in_structs (λ i. struct_of_size size (picked s i)) kind 0 (spliced_count s) j h (λ i b. so_far.sound (0 + i) (omega (arith, b)))
    (ap (λ k. option_map refusal (first_fault_of_all (struct_of_size size (picked s k)).pointers)) {x = 0 + j} {y = j} (omega arith) ∙ (ap (option_map refusal) (sym (same_fault size s j v e is at)) ∙ fault))

-- ---- numbers ----

pub numbers_start : (a : Arena) (w : ℕ) (s : Splice) (n : ℕ) → n ≡ spliced_count s → IsMessage a → message_tree a ≡ Numbers w (replicate (w * n) 0) → NumbersTo a w s 0
numbers_start a w s n count message tree = record {
  message = message;
  tree = tree ∙ ap (Numbers w) (ap (λ k. replicate (w * k) 0) count ∙ sym (bytes_none w (λ i. number_of w (picked s i)) (spliced_count s)));
}

pub number_there : (a : Arena) (w : ℕ) (s : Splice) (j : ℕ) → NumbersTo a w s j → j < spliced_count s → HasNumber w (message_tree a) j
number_there a w s j so_far h =
    let e = length_bytes w (filled_to j (λ i. number_of w (picked s i)) 0) 0 (spliced_count s) in
    let m = mul_le (j + 1) (spliced_count s) w (omega (arith, h)) in
    subst (λ t. HasNumber w t j) (sym so_far.tree) (omega (arith, e, m))
  where
    mul_le : (i n k : ℕ) → i ≤ n → i * k ≤ k * n
    mul_le i n k h = grind arith

number_put : (w : ℕ) (s : Splice) (j v : ℕ) (t : Tree) → j < spliced_count s → t ≡ Numbers w (bytes_by w (filled_to j (λ i. number_of w (picked s i)) 0) 0 (spliced_count s)) → v ≡ number_of w (picked s j)
    → with_number_element w j v t ≡ Numbers w (bytes_by w (filled_to (j + 1) (λ i. number_of w (picked s i)) 0) 0 (spliced_count s))
number_put w s j v t h is e = ap₂ (with_number_element w j) e is ∙ ap (Numbers w) (bytes_more w (λ i. number_of w (picked s i)) (spliced_count s) j h)

pub numbers_next : (a b : Arena) (w : ℕ) (s : Splice) (j v : ℕ) (p : Element) → NumbersTo a w s j → j < spliced_count s → v ≡ number_of w p → p ≡ picked s j → IsMessage b → message_tree b ≡ with_number_element w j v (message_tree a) → NumbersTo b w s (j + 1)
numbers_next a b w s j v p so_far h e is message tree = record {
  message = message;
  tree = tree ∙ number_put w s j v (message_tree a) h so_far.tree (e ∙ ap (number_of w) is);
}

pub numbers_end : (a : Arena) (w : ℕ) (s : Splice) (n : ℕ) → NumbersTo a w s n → n ≡ spliced_count s → message_tree a ≡ spliced_numbers w s
numbers_end a w s n so_far e = so_far.tree ∙ (ap (λ k. Numbers w (bytes_by w (filled_to k (λ i. number_of w (picked s i)) 0) 0 (spliced_count s))) e ∙ ap (Numbers w) (bytes_all w (λ i. number_of w (picked s i)) (spliced_count s)))
