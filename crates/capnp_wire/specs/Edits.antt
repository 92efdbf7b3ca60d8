-- What writes make of trees.
use Rattle.std.specs.Prelude.{ℕ, zero, suc, ◌+◌, ◌/◌, ◌%◌, ◌^◌, take, drop, slice_set, slice_index, bit_or, bit_and, Bool, true, false, ◌*◌, ◌-◌, ◌≡◌, ◌≢◌, ◌≤◌, List, ◌++◌, length, replicate, Option, Some, None, option_map}
use Rattle.capnp_wire.specs.Tree.{Tree, Null, Struct, FaultLeaf, Voids, Bits, Numbers, Pointers, Composite, Trees, NoTrees, MoreTrees, StructTree, empty_struct, trees_from, structs_from, tree_count}
use Rattle.capnp_wire.specs.Words.{byte_words}
use Rattle.capnp_wire.specs.Encoding.{spelled_number}
use Rattle.capnp_wire.specs.Reading.{refusal}
use Rattle.capnp_wire.specs.declared.size.StructSize.{StructSize}
use Rattle.capnp_wire.specs.declared.size.ElementSize.{ElementSize}
use Rattle.capnp_wire.specs.declared.size.ElementSize.TheVariants.{Void, Bit, Byte, TwoBytes, FourBytes, EightBytes, Pointer, InlineComposite}
use Rattle.capnp_wire.specs.declared.fault.Fault.{Fault}
use Rattle.capnp_device.specs.declared.error.Error.{Error}
use Rattle.capnp_device.specs.declared.error.ErrorKind.{ErrorKind}
use Rattle.capnp_device.specs.declared.error.ErrorKind.TheVariants.{OutOfMemory, SizePastFormat, WrongPointerKind}

-- bytes, and zeros up to a whole word
abbrev pub whole_words : List ℕ → List ℕ
whole_words bytes = bytes ++ replicate (8 * byte_words (length bytes) - length bytes) 0

-- a struct, with its data rounded up to whole words
abbrev pub rounded_struct : StructTree → StructTree
rounded_struct s = record { bytes = whole_words s.bytes; pointers = s.pointers }

-- why what has this first fault is not copied: for the want of memory, or for the fault
abbrev pub IsCopyRefusal : Error → Option Fault → Type 0
IsCopyRefusal error fault = error.kind ≢ OutOfMemory → option_map refusal fault ≡ Some error.kind

-- why there is no room for what is new: the format has none, which is said wherever it has none, and else memory was
-- refused
abbrev pub IsRoomRefusal : Error → Type 0 → Type 0
IsRoomRefusal error past = (error.kind ≢ SizePastFormat → error.kind ≡ OutOfMemory) × (error.kind ≡ SizePastFormat → past) × (past → error.kind ≡ SizePastFormat)

-- a call is refused by what is due wherever something is, and else for want of memory
abbrev pub IsDueRefusal : Error → Option ErrorKind → Type 0
IsDueRefusal error due = (error.kind ≢ OutOfMemory → due ≡ Some error.kind) × ((kind : ErrorKind) → due ≡ Some kind → error.kind ≡ kind)

-- ---- bytes ----

-- bytes with a number written over so many of them, at an offset in units of that width
abbrev pub with_number : ℕ → ℕ → ℕ → List ℕ → List ℕ
with_number width offset n bytes = take (offset * width) bytes ++ (spelled_number width n ++ drop (offset * width + width) bytes)

-- a byte with another bit
abbrev pub byte_with_bit : ℕ → Bool → ℕ → ℕ
byte_with_bit j true byte = bit_or byte (2 ^ j)
byte_with_bit j false byte = bit_and byte (255 - 2 ^ j)

-- bytes with another bit
abbrev pub with_bit : ℕ → Bool → List ℕ → List ℕ
with_bit i bit bytes = slice_set bytes (i / 8) (byte_with_bit (i % 8) bit (slice_index bytes (i / 8)))

-- ---- what is new is zero ----

abbrev pub nulls : ℕ → Trees
nulls count = trees_from (λ _. Null) 0 count

abbrev pub zero_struct : StructSize → StructTree
zero_struct size = record { bytes = replicate (8 * size.data_words) 0; pointers = nulls size.pointers }

abbrev pub zero_structs : StructSize → ℕ → Tree
zero_structs size count = Composite size.data_words size.pointers (structs_from (λ _. zero_struct size) 0 count)

-- a list of elements of a size that is not composite
abbrev pub zero_list : ElementSize → ℕ → Tree
zero_list Void count = Voids count
zero_list Bit count = Bits (replicate count false)
zero_list Byte count = Numbers 1 (replicate count 0)
zero_list TwoBytes count = Numbers 2 (replicate (2 * count) 0)
zero_list FourBytes count = Numbers 4 (replicate (4 * count) 0)
zero_list EightBytes count = Numbers 8 (replicate (8 * count) 0)
zero_list Pointer count = Pointers (nulls count)
zero_list InlineComposite count = Composite 0 0 (structs_from (λ _. empty_struct) 0 count)

-- ---- parts ----

-- a row of trees with another one at an index
abbrev pub with_tree : Trees → ℕ → Tree → Trees
with_tree NoTrees i t = NoTrees
with_tree (MoreTrees u us) zero t = MoreTrees t us
with_tree (MoreTrees u us) (suc i) t = MoreTrees u (with_tree us i t)

-- a struct with other bytes, and with another pointer
abbrev pub with_bytes : StructTree → List ℕ → StructTree
with_bytes s bytes = record { bytes = bytes; pointers = s.pointers }

abbrev pub with_pointer_tree : StructTree → ℕ → Tree → StructTree
with_pointer_tree s i t = record { bytes = s.bytes; pointers = with_tree s.pointers i t }

-- ---- a struct with at least a size ----

abbrev pub append_trees : Trees → Trees → Trees
append_trees NoTrees us = us
append_trees (MoreTrees t ts) us = MoreTrees t (append_trees ts us)

-- sections that are too short are filled up with zeros and nulls
abbrev pub extended_struct : StructSize → StructTree → StructTree
extended_struct size s = record { bytes = s.bytes ++ replicate (8 * size.data_words - length s.bytes) 0; pointers = append_trees s.pointers (nulls (size.pointers - tree_count s.pointers)) }

-- a struct has at least a size, so that nothing has to be filled up
abbrev pub HasAtLeast : StructSize → StructTree → Type 0
HasAtLeast size s = (8 * size.data_words ≤ length s.bytes) × (size.pointers ≤ tree_count s.pointers)

-- ---- a struct with just a size ----

-- the first so many trees of a row, all where it has no more
abbrev pub first_trees : ℕ → Trees → Trees
first_trees zero ts = NoTrees
first_trees (suc n) NoTrees = NoTrees
first_trees (suc n) (MoreTrees t ts) = MoreTrees t (first_trees n ts)

-- so many bytes and pointers of a struct: what fits of it, and zeros and nulls after that
abbrev pub fitted_struct : ℕ → ℕ → StructTree → StructTree
fitted_struct bytes pointers s = record { bytes = take bytes s.bytes ++ replicate (bytes - length s.bytes) 0; pointers = append_trees (first_trees pointers s.pointers) (nulls (pointers - tree_count s.pointers)) }

-- ---- what stands at a pointer ----

abbrev pub is_struct : Tree → Bool
is_struct Null = false
is_struct (Struct bytes ps) = true
is_struct (Voids n) = false
is_struct (Bits bs) = false
is_struct (Numbers w bytes) = false
is_struct (Pointers ps) = false
is_struct (Composite d p es) = false
is_struct (FaultLeaf k) = false

-- the struct that stands at a pointer, of size zero where there is none
abbrev pub struct_in : Tree → StructTree
struct_in Null = empty_struct
struct_in (Struct bytes ps) = record { bytes = bytes; pointers = ps }
struct_in (Voids n) = empty_struct
struct_in (Bits bs) = empty_struct
struct_in (Numbers w bytes) = empty_struct
struct_in (Pointers ps) = empty_struct
struct_in (Composite d p es) = empty_struct
struct_in (FaultLeaf k) = empty_struct

-- a struct of at least a size stands at a pointer
abbrev pub HoldsStruct : StructSize → Tree → Type 0
HoldsStruct size Null = ⊥
HoldsStruct size (Struct bytes ps) = HasAtLeast size (record { bytes = bytes; pointers = ps })
HoldsStruct size (Voids n) = ⊥
HoldsStruct size (Bits bs) = ⊥
HoldsStruct size (Numbers w bytes) = ⊥
HoldsStruct size (Pointers ps) = ⊥
HoldsStruct size (Composite d p es) = ⊥
HoldsStruct size (FaultLeaf k) = ⊥

-- what a struct at a pointer is refused with, memory aside: a list stands there
abbrev pub struct_refusal : Tree → Option ErrorKind
struct_refusal Null = None
struct_refusal (Struct bytes ps) = None
struct_refusal (Voids n) = Some WrongPointerKind
struct_refusal (Bits bs) = Some WrongPointerKind
struct_refusal (Numbers w bytes) = Some WrongPointerKind
struct_refusal (Pointers ps) = Some WrongPointerKind
struct_refusal (Composite d p es) = Some WrongPointerKind
struct_refusal (FaultLeaf k) = None

-- why there is no struct at a pointer
abbrev pub IsStructRefusal : Error → Tree → Type 0
IsStructRefusal error t = IsDueRefusal error (struct_refusal t)
