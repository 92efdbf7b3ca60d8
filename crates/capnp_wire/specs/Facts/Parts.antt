-- Parts of well-formed trees are well-formed.
use Rattle.std.proofs.Common.{◌==◌, IsTrue, ℕ, zero, suc, ◌*◌, ◌<◌, ◌≤◌, ◌^◌, refl, arith, Bool, true, false, cond}
use Rattle.std.proofs.lemmas.Bool.Decides.{nat_tests}
use Rattle.capnp_wire.specs.Tree.{Tree, Null, Struct, Voids, Bits, Numbers, Pointers, Composite, FaultLeaf, Trees, NoTrees, MoreTrees, Structs, NoStructs, MoreStructs, empty_struct, nth_tree, only_tree, nth_struct, tree_count}
use Rattle.capnp_wire.specs.Reading.{is_null_tree, empty_list, list_length, cut_pointer, element_pointer, element_struct}
use Rattle.capnp_wire.specs.WellFormed.{is_width, IsWellFormed, AreWellFormed, AreElements, IsWellFormedStruct}
use Rattle.capnp_wire.specs.declared.size.ElementSize.{ElementSize}
use Rattle.capnp_wire.specs.declared.size.ElementSize.TheVariants.{Void, Bit, Byte, TwoBytes, FourBytes, EightBytes, Pointer, InlineComposite}
use Rattle.capnp_wire.specs.declared.fault.Fault.TheVariants as fault
use Rattle.capnp_wire.specs.Facts.Bytes.{AreBytes_none, AreBytes_part, length_part_le}

-- ---- what is empty ----

-- a struct of size zero
pub IsWellFormedStruct_empty_struct : IsWellFormedStruct empty_struct
IsWellFormedStruct_empty_struct = (AreBytes_none, omega arith, omega arith, tt)

-- an empty list of any element size
pub IsWellFormed_empty_list : (size : ElementSize) → IsWellFormed (empty_list size)
IsWellFormed_empty_list Void = omega arith
IsWellFormed_empty_list Bit = omega arith
IsWellFormed_empty_list Byte = (AreBytes_none, refl, refl, omega arith)
IsWellFormed_empty_list TwoBytes = (AreBytes_none, refl, refl, omega arith)
IsWellFormed_empty_list FourBytes = (AreBytes_none, refl, refl, omega arith)
IsWellFormed_empty_list EightBytes = (AreBytes_none, refl, refl, omega arith)
IsWellFormed_empty_list Pointer = (omega arith, tt)
IsWellFormed_empty_list InlineComposite = (omega arith, omega arith, omega arith, omega arith, tt)

-- ---- one of a row ----

-- a tree of a row, null past the end
pub IsWellFormed_nth_tree : (ps : Trees) (i : ℕ) → AreWellFormed ps → IsWellFormed (nth_tree ps i)
IsWellFormed_nth_tree NoTrees i h = tt
IsWellFormed_nth_tree (MoreTrees t ts) zero h = h.0
IsWellFormed_nth_tree (MoreTrees t ts) (suc i) h = IsWellFormed_nth_tree ts i h.1

-- a tree of a row alone
pub AreWellFormed_only_tree : (ps : Trees) (i : ℕ) → AreWellFormed ps → AreWellFormed (only_tree ps i)
AreWellFormed_only_tree NoTrees i h = tt
AreWellFormed_only_tree (MoreTrees t ts) zero h = (h.0, tt)
AreWellFormed_only_tree (MoreTrees t ts) (suc i) h = AreWellFormed_only_tree ts i h.1

-- it is one tree at most
pub tree_count_only_tree_le : (ps : Trees) (i : ℕ) → tree_count (only_tree ps i) ≤ 1
tree_count_only_tree_le NoTrees i = omega arith
tree_count_only_tree_le (MoreTrees t ts) zero = omega arith
tree_count_only_tree_le (MoreTrees t ts) (suc i) = tree_count_only_tree_le ts i

-- an element of a composite list, of size zero past the end
pub IsWellFormedStruct_nth_struct : (d p : ℕ) (es : Structs) (i : ℕ) → AreElements d p es → d < 2 ^ 16 → p < 2 ^ 16 → IsWellFormedStruct (nth_struct es i)
IsWellFormedStruct_nth_struct d p NoStructs i h b c = IsWellFormedStruct_empty_struct
IsWellFormedStruct_nth_struct d p (MoreStructs bytes ps es) zero h b c = (h.0, omega (arith, h.1), omega (arith, h.2), h.3)
IsWellFormedStruct_nth_struct d p (MoreStructs bytes ps es) (suc i) h b c = IsWellFormedStruct_nth_struct d p es i h.4 b c

-- ---- elements of a list ----

-- a number takes at most 8 bytes
pub width_bound : (width : ℕ) → IsTrue (is_width width) → width ≤ 8
width_bound width h = grind (arith, nat_tests)

-- an element of any list, read as a struct
pub IsWellFormedStruct_element_struct : (t : Tree) (i : ℕ) → IsWellFormed t → IsWellFormedStruct (element_struct t i)
IsWellFormedStruct_element_struct Null i h = IsWellFormedStruct_empty_struct
IsWellFormedStruct_element_struct (Struct bytes ps) i h = IsWellFormedStruct_empty_struct
IsWellFormedStruct_element_struct (Voids n) i h = IsWellFormedStruct_empty_struct
IsWellFormedStruct_element_struct (Bits bs) i h = IsWellFormedStruct_empty_struct
IsWellFormedStruct_element_struct (Numbers width bytes) i h =
    (AreBytes_part width (i * width) bytes h.0, omega (arith, width_bound width h.1, length_part_le width (i * width) bytes), omega arith, tt)
IsWellFormedStruct_element_struct (Pointers ps) i h = (AreBytes_none, omega arith, omega (arith, tree_count_only_tree_le ps i), AreWellFormed_only_tree ps i h.1)
IsWellFormedStruct_element_struct (Composite d p es) i h = IsWellFormedStruct_nth_struct d p es i h.4 h.0 h.1
IsWellFormedStruct_element_struct (FaultLeaf k) i h = IsWellFormedStruct_empty_struct

-- a pointer that may be cut off
cut_by : (null deep : Bool) (t : Tree) → IsWellFormed t → IsWellFormed (cond null Null (cond deep (FaultLeaf fault.TooDeep) t))
cut_by true deep t h = tt
cut_by false true t h = tt
cut_by false false t h = h

-- a pointer out of a composite list
pub IsWellFormed_cut_pointer : (levels : ℕ) (t : Tree) → IsWellFormed t → IsWellFormed (cut_pointer levels t)
IsWellFormed_cut_pointer levels t h = cut_by (is_null_tree t) (levels == 0) t h

-- an element of any list, read as a pointer
pub IsWellFormed_element_pointer : (t : Tree) (i levels : ℕ) → IsWellFormed t → IsWellFormed (element_pointer t i levels)
IsWellFormed_element_pointer Null i levels h = tt
IsWellFormed_element_pointer (Struct bytes ps) i levels h = tt
IsWellFormed_element_pointer (Voids n) i levels h = tt
IsWellFormed_element_pointer (Bits bs) i levels h = tt
IsWellFormed_element_pointer (Numbers width bytes) i levels h = tt
IsWellFormed_element_pointer (Pointers ps) i levels h = IsWellFormed_nth_tree ps i h.1
IsWellFormed_element_pointer (Composite d p es) i levels h =
    let s : IsWellFormedStruct (nth_struct es i) = IsWellFormedStruct_nth_struct d p es i h.4 h.0 h.1 in
    IsWellFormed_cut_pointer levels (nth_tree (nth_struct es i).pointers 0) (IsWellFormed_nth_tree (nth_struct es i).pointers 0 s.3)
IsWellFormed_element_pointer (FaultLeaf k) i levels h = tt

-- a list has fewer than 2 ^ 29 elements
pub list_length_lt : (t : Tree) → IsWellFormed t → list_length t < 2 ^ 29
list_length_lt Null h = omega arith
list_length_lt (Struct bytes ps) h = omega arith
list_length_lt (Voids n) h = h
list_length_lt (Bits bs) h = h
list_length_lt (Numbers width bytes) h = h.3
list_length_lt (Pointers ps) h = h.0
list_length_lt (Composite d p es) h = h.2
list_length_lt (FaultLeaf k) h = omega arith
