-- Elements of a list: where they are, and the list with another one.
use Rattle.std.specs.Prelude.{ℕ, zero, suc, ◌+◌, ◌*◌, ◌<◌, ◌≤◌, Bool, false, cond, length, slice_set}
use Rattle.capnp_wire.specs.Tree.{Tree, Null, Struct, Voids, Bits, Numbers, Pointers, Composite, FaultLeaf, Structs, NoStructs, MoreStructs, StructTree, nth_struct, tree_count, struct_count}
use Rattle.capnp_wire.specs.Reading.{empty_list, is_null_tree, reads_bits, reads_numbers, reads_pointers, reads_structs, reads_voids}
use Rattle.capnp_wire.specs.declared.size.ElementSize.{ElementSize}
use Rattle.capnp_wire.specs.Edits.{with_bytes, with_number, with_pointer_tree, with_tree}

-- ---- what a list reads as ----

-- a null as the list of nothing that it is read as, by the size of elements that is asked
abbrev pub or_empty : ElementSize → Tree → Tree
or_empty size t = cond (is_null_tree t) (empty_list size) t

-- whether a list is read as one of elements of a size
abbrev pub reads_list : ElementSize → Tree → Bool
reads_list size Null = false
reads_list size (Struct bytes ps) = false
reads_list size (Voids n) = reads_voids size
reads_list size (Bits bs) = reads_bits size
reads_list size (Numbers w bytes) = reads_numbers size w
reads_list size (Pointers ps) = reads_pointers size
reads_list size (Composite d p es) = reads_structs size d p
reads_list size (FaultLeaf k) = false

-- ---- where elements are ----

-- a bit stands at the index
abbrev pub HasBit : Tree → ℕ → Type 0
HasBit Null i = ⊥
HasBit (Struct bytes ps) i = ⊥
HasBit (Voids n) i = ⊥
HasBit (Bits bs) i = i < length bs
HasBit (Numbers w bytes) i = ⊥
HasBit (Pointers ps) i = ⊥
HasBit (Composite d p es) i = ⊥
HasBit (FaultLeaf k) i = ⊥

-- a number of so many bytes does: of structs, at the start of one
abbrev pub HasNumber : ℕ → Tree → ℕ → Type 0
HasNumber width Null i = ⊥
HasNumber width (Struct bytes ps) i = ⊥
HasNumber width (Voids n) i = ⊥
HasNumber width (Bits bs) i = ⊥
HasNumber width (Numbers w bytes) i = (i + 1) * width ≤ length bytes
HasNumber width (Pointers ps) i = ⊥
HasNumber width (Composite d p es) i = (i < struct_count es) × (width ≤ length (nth_struct es i).bytes)
HasNumber width (FaultLeaf k) i = ⊥

-- a pointer does: of structs, the first of one
abbrev pub HasPointer : Tree → ℕ → Type 0
HasPointer Null i = ⊥
HasPointer (Struct bytes ps) i = ⊥
HasPointer (Voids n) i = ⊥
HasPointer (Bits bs) i = ⊥
HasPointer (Numbers w bytes) i = ⊥
HasPointer (Pointers ps) i = i < tree_count ps
HasPointer (Composite d p es) i = (i < struct_count es) × (0 < tree_count (nth_struct es i).pointers)
HasPointer (FaultLeaf k) i = ⊥

-- a struct does
abbrev pub HasStruct : Tree → ℕ → Type 0
HasStruct Null i = ⊥
HasStruct (Struct bytes ps) i = ⊥
HasStruct (Voids n) i = ⊥
HasStruct (Bits bs) i = ⊥
HasStruct (Numbers w bytes) i = ⊥
HasStruct (Pointers ps) i = ⊥
HasStruct (Composite d p es) i = i < struct_count es
HasStruct (FaultLeaf k) i = ⊥

-- ---- with another element ----

-- structs in a row with another one at an index
abbrev pub with_struct : Structs → ℕ → StructTree → Structs
with_struct NoStructs i s = NoStructs
with_struct (MoreStructs bytes ps es) zero s = MoreStructs s.bytes s.pointers es
with_struct (MoreStructs bytes ps es) (suc i) s = MoreStructs bytes ps (with_struct es i s)

-- a list with another bit at an index
abbrev pub with_bit_element : ℕ → Bool → Tree → Tree
with_bit_element i bit Null = Null
with_bit_element i bit (Struct bytes ps) = Struct bytes ps
with_bit_element i bit (Voids n) = Voids n
with_bit_element i bit (Bits bs) = Bits (slice_set bs i bit)
with_bit_element i bit (Numbers w bytes) = Numbers w bytes
with_bit_element i bit (Pointers ps) = Pointers ps
with_bit_element i bit (Composite d p es) = Composite d p es
with_bit_element i bit (FaultLeaf k) = FaultLeaf k

-- with another number of so many bytes
abbrev pub with_number_element : ℕ → ℕ → ℕ → Tree → Tree
with_number_element width i n Null = Null
with_number_element width i n (Struct bytes ps) = Struct bytes ps
with_number_element width i n (Voids count) = Voids count
with_number_element width i n (Bits bs) = Bits bs
with_number_element width i n (Numbers w bytes) = Numbers w (with_number width i n bytes)
with_number_element width i n (Pointers ps) = Pointers ps
with_number_element width i n (Composite d p es) = Composite d p (with_struct es i (with_bytes (nth_struct es i) (with_number width 0 n (nth_struct es i).bytes)))
with_number_element width i n (FaultLeaf k) = FaultLeaf k

-- with another pointer
abbrev pub with_pointer_element : ℕ → Tree → Tree → Tree
with_pointer_element i t Null = Null
with_pointer_element i t (Struct bytes ps) = Struct bytes ps
with_pointer_element i t (Voids n) = Voids n
with_pointer_element i t (Bits bs) = Bits bs
with_pointer_element i t (Numbers w bytes) = Numbers w bytes
with_pointer_element i t (Pointers ps) = Pointers (with_tree ps i t)
with_pointer_element i t (Composite d p es) = Composite d p (with_struct es i (with_pointer_tree (nth_struct es i) 0 t))
with_pointer_element i t (FaultLeaf k) = FaultLeaf k

-- and with another struct
abbrev pub with_struct_element : ℕ → StructTree → Tree → Tree
with_struct_element i s Null = Null
with_struct_element i s (Struct bytes ps) = Struct bytes ps
with_struct_element i s (Voids n) = Voids n
with_struct_element i s (Bits bs) = Bits bs
with_struct_element i s (Numbers w bytes) = Numbers w bytes
with_struct_element i s (Pointers ps) = Pointers ps
with_struct_element i s (Composite d p es) = Composite d p (with_struct es i s)
with_struct_element i s (FaultLeaf k) = FaultLeaf k
