-- How long lists and structs are, once they are new, extended or written into.
use Rattle.std.proofs.Common.{◌≡◌, ℕ, ◌*◌, ◌<◌, refl, arith, false}
use Rattle.std.proofs.lemmas.List.{length-replicate}
use Rattle.capnp_wire.specs.Tree.{Tree, Null, Voids, Numbers, Pointers, Composite, StructTree, empty_struct, nth_struct}
use Rattle.capnp_wire.specs.Reading.{element_struct, list_length}
use Rattle.capnp_wire.specs.Edits.{HasAtLeast, extended_struct, zero_list, zero_struct}
use Rattle.capnp_wire.specs.Elements.{HasStruct, with_struct_element}
use Rattle.capnp_wire.specs.StructLists.{HoldsStructs, as_structs, grown_size, struct_list}
use Rattle.capnp_wire.specs.WellFormed.{IsWellFormed}
use Rattle.capnp_wire.specs.Steps.WellFormed.{IsElement}
use Rattle.capnp_wire.specs.declared.size.ElementSize.{ElementSize}
use Rattle.capnp_wire.specs.declared.size.ElementSize.TheVariants.{Void, Bit, Byte, TwoBytes, FourBytes, EightBytes, Pointer, InlineComposite}
use Rattle.capnp_wire.specs.declared.size.StructSize.{StructSize}
use Rattle.capnp_wire.specs.Facts.Rows.{IsElement_nth_struct, struct_count_structs_from, tree_count_nulls}
use Rattle.capnp_wire.specs.Facts.Structs.{length_extended, tree_count_extended}

-- ---- structs ----

-- a new struct has its size
pub HasAtLeast_zero_struct : (size : StructSize) → HasAtLeast size (zero_struct size)
HasAtLeast_zero_struct size = (omega (arith, length-replicate {A = ℕ} (8 * size.data_words) 0), omega (arith, tree_count_nulls size.pointers))

-- an extended one has the size to which it was, and what it had before
pub HasAtLeast_extended : (size : StructSize) (s : StructTree) → HasAtLeast size (extended_struct size s)
HasAtLeast_extended size s = (omega (arith, length_extended size s), omega (arith, tree_count_extended size s))

-- ---- new lists ----

pub list_length_zero_list : (size : ElementSize) (count : ℕ) → list_length (zero_list size count) ≡ count
list_length_zero_list Void count = refl
list_length_zero_list Bit count = length-replicate count false
list_length_zero_list Byte count = omega (arith, length-replicate {A = ℕ} count 0)
list_length_zero_list TwoBytes count = omega (arith, length-replicate {A = ℕ} (2 * count) 0)
list_length_zero_list FourBytes count = omega (arith, length-replicate {A = ℕ} (4 * count) 0)
list_length_zero_list EightBytes count = omega (arith, length-replicate {A = ℕ} (8 * count) 0)
list_length_zero_list Pointer count = tree_count_nulls count
list_length_zero_list InlineComposite count = struct_count_structs_from (λ _. empty_struct) 0 count

-- ---- lists that become lists of structs ----

length_as_structs : (size : StructSize) (t : Tree) → list_length (as_structs size t) ≡ list_length t
length_as_structs size t = struct_count_structs_from (λ i. extended_struct size (element_struct t i)) 0 (list_length t)

pub list_length_struct_list : (size : StructSize) (t : Tree) → list_length (struct_list size t) ≡ list_length t
list_length_struct_list size (Voids n) = length_as_structs (grown_size size (Voids n)) (Voids n)
list_length_struct_list size (Numbers w bytes) = length_as_structs (grown_size size (Numbers w bytes)) (Numbers w bytes)
list_length_struct_list size (Pointers ps) = length_as_structs (grown_size size (Pointers ps)) (Pointers ps)
list_length_struct_list size (Composite d p es) = length_as_structs (grown_size size (Composite d p es)) (Composite d p es)
list_length_struct_list size t = refl

pub HasStruct_there : (size : StructSize) (t : Tree) (i : ℕ) → HoldsStructs size t → i < list_length t → HasStruct t i
HasStruct_there size Null i h a = absurd (omega arith)
HasStruct_there size (Composite d p es) i h a = a
HasStruct_there size t i h a = absurd h

pub HasAtLeast_element_struct : (size : StructSize) (t : Tree) (i : ℕ) → HoldsStructs size t → IsWellFormed t → i < list_length t → HasAtLeast size (element_struct t i)
HasAtLeast_element_struct size Null i h f a = absurd (omega arith)
HasAtLeast_element_struct size (Composite d p es) i h f a =
    let e : IsElement d p (nth_struct es i) = IsElement_nth_struct d p es i f.4 a in
    (omega (arith, e.1, h.0), omega (arith, e.2, h.1))
HasAtLeast_element_struct size t i h f a = absurd h

-- and a struct that is written changes nothing of that
pub HoldsStructs_with_struct_element : (size : StructSize) (i : ℕ) (s : StructTree) (t : Tree) → HoldsStructs size t → HoldsStructs size (with_struct_element i s t)
HoldsStructs_with_struct_element size i s Null h = h
HoldsStructs_with_struct_element size i s (Composite d p es) h = h
HoldsStructs_with_struct_element size i s t h = absurd h
