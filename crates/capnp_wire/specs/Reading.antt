-- How a tree reads as a struct, a list, a text or data, with the levels that are left.
use Rattle.std.specs.Prelude.{ℕ, ◌-◌, ◌*◌, ◌/◌, List, [], take, drop, length, get_or, Bool, true, false, cond, ◌==◌, nat_lt, Result, Ok, Err}
use Rattle.capnp_wire.specs.Tree.{Tree, Null, Struct, Voids, Bits, Numbers, Pointers, Composite, FaultLeaf, NoTrees, NoStructs, StructTree, empty_struct, nth_tree, only_tree, nth_struct, tree_count, struct_count}
use Rattle.capnp_wire.specs.Slot.{number_at}
use Rattle.capnp_wire.specs.declared.size.ElementSize.{ElementSize}
use Rattle.capnp_wire.specs.declared.size.ElementSize.TheVariants.{Void, Bit, Byte, TwoBytes, FourBytes, EightBytes, Pointer, InlineComposite}
use Rattle.capnp_wire.specs.declared.fault.Fault.{Fault}
use Rattle.capnp_wire.specs.declared.fault.Fault.TheVariants as fault
use Rattle.capnp_device.specs.declared.error.ErrorKind.{ErrorKind}
use Rattle.capnp_device.specs.declared.error.ErrorKind.TheVariants as kind

-- what a read of a fault leaf is refused with
abbrev pub refusal : Fault → ErrorKind
refusal fault.BadPointer = kind.BadPointer
refusal fault.TooDeep = kind.TooDeep
refusal fault.CapabilityPointer = kind.CapabilityPointer

-- what entering a struct or list answers where a level is left for it
abbrev pub with_level : {A : Type 0} → ℕ → Result A ErrorKind → Result A ErrorKind
with_level levels r = cond (levels == 0) (Err kind.TooDeep) r

-- whether a pointer is null; one that can't be followed is not
abbrev pub is_null_tree : Tree → Bool
is_null_tree Null = true
is_null_tree (Struct bytes ps) = false
is_null_tree (Voids n) = false
is_null_tree (Bits bs) = false
is_null_tree (Numbers w bytes) = false
is_null_tree (Pointers ps) = false
is_null_tree (Composite d p es) = false
is_null_tree (FaultLeaf k) = false

-- whether a pointer leads to a list
abbrev pub is_list : Tree → Bool
is_list Null = false
is_list (Struct bytes ps) = false
is_list (Voids n) = true
is_list (Bits bs) = true
is_list (Numbers w bytes) = true
is_list (Pointers ps) = true
is_list (Composite d p es) = true
is_list (FaultLeaf k) = false

-- ---- structs ----

-- entering a struct, with the levels that are left; a null is one of size zero
abbrev pub as_struct : Tree → ℕ → Result StructTree ErrorKind
as_struct Null levels = with_level levels (Ok empty_struct)
as_struct (Struct bytes ps) levels = with_level levels (Ok (record { bytes = bytes; pointers = ps }))
as_struct (Voids n) levels = with_level levels (Err kind.WrongPointerKind)
as_struct (Bits bs) levels = with_level levels (Err kind.WrongPointerKind)
as_struct (Numbers w bytes) levels = with_level levels (Err kind.WrongPointerKind)
as_struct (Pointers ps) levels = with_level levels (Err kind.WrongPointerKind)
as_struct (Composite d p es) levels = with_level levels (Err kind.WrongPointerKind)
as_struct (FaultLeaf k) levels = Err (refusal k)

-- ---- data and text, which take no level ----

-- the bytes of a list of bytes, none for a null
abbrev pub as_data : Tree → Result (List ℕ) ErrorKind
as_data Null = Ok []
as_data (Struct bytes ps) = Err kind.WrongPointerKind
as_data (Voids n) = Err kind.WrongElementSize
as_data (Bits bs) = Err kind.WrongElementSize
as_data (Numbers w bytes) = cond (w == 1) (Ok bytes) (Err kind.WrongElementSize)
as_data (Pointers ps) = Err kind.WrongElementSize
as_data (Composite d p es) = Err kind.WrongElementSize
as_data (FaultLeaf k) = Err (refusal k)

-- the bytes of a text: those of a byte list without the last, which is there and is zero
abbrev pub terminated_text : List ℕ → Result (List ℕ) ErrorKind
terminated_text bytes = cond (get_or bytes (length bytes - 1) 1 == 0) (Ok (take (length bytes - 1) bytes)) (Err kind.TextNotTerminated)

-- the bytes of a text, none for a null
abbrev pub as_text : Tree → Result (List ℕ) ErrorKind
as_text Null = Ok []
as_text (Struct bytes ps) = Err kind.WrongPointerKind
as_text (Voids n) = Err kind.WrongElementSize
as_text (Bits bs) = Err kind.WrongElementSize
as_text (Numbers w bytes) = cond (w == 1) (terminated_text bytes) (Err kind.WrongElementSize)
as_text (Pointers ps) = Err kind.WrongElementSize
as_text (Composite d p es) = Err kind.WrongElementSize
as_text (FaultLeaf k) = Err (refusal k)

-- ---- lists, by the element size that is asked ----

-- what a null reads as
abbrev pub empty_list : ElementSize → Tree
empty_list Void = Voids 0
empty_list Bit = Bits []
empty_list Byte = Numbers 1 []
empty_list TwoBytes = Numbers 2 []
empty_list FourBytes = Numbers 4 []
empty_list EightBytes = Numbers 8 []
empty_list Pointer = Pointers NoTrees
empty_list InlineComposite = Composite 0 0 NoStructs

-- whether numbers of so many bytes are read as this size
abbrev pub reads_numbers : ElementSize → ℕ → Bool
reads_numbers Void width = true
reads_numbers Bit width = false
reads_numbers Byte width = width == 1
reads_numbers TwoBytes width = width == 2
reads_numbers FourBytes width = width == 4
reads_numbers EightBytes width = width == 8
reads_numbers Pointer width = false
reads_numbers InlineComposite width = true

-- whether structs of these sizes are: as numbers by their first data word, as pointers by their first pointer
abbrev pub reads_structs : ElementSize → ℕ → ℕ → Bool
reads_structs Void d p = true
reads_structs Bit d p = false
reads_structs Byte d p = nat_lt 0 d
reads_structs TwoBytes d p = nat_lt 0 d
reads_structs FourBytes d p = nat_lt 0 d
reads_structs EightBytes d p = nat_lt 0 d
reads_structs Pointer d p = nat_lt 0 p
reads_structs InlineComposite d p = true

-- whether elements of nothing, bits and pointers are
abbrev pub reads_voids : ElementSize → Bool
reads_voids Void = true
reads_voids InlineComposite = true
reads_voids Bit = false
reads_voids Byte = false
reads_voids TwoBytes = false
reads_voids FourBytes = false
reads_voids EightBytes = false
reads_voids Pointer = false

abbrev pub reads_bits : ElementSize → Bool
reads_bits Void = true
reads_bits Bit = true
reads_bits Byte = false
reads_bits TwoBytes = false
reads_bits FourBytes = false
reads_bits EightBytes = false
reads_bits Pointer = false
reads_bits InlineComposite = false

abbrev pub reads_pointers : ElementSize → Bool
reads_pointers Void = true
reads_pointers Pointer = true
reads_pointers InlineComposite = true
reads_pointers Bit = false
reads_pointers Byte = false
reads_pointers TwoBytes = false
reads_pointers FourBytes = false
reads_pointers EightBytes = false

-- a list where it is read as the size that is asked
abbrev pub list_if : Bool → Tree → ℕ → Result Tree ErrorKind
list_if reads t levels = with_level levels (cond reads (Ok t) (Err kind.WrongElementSize))

-- entering a list as one of elements of a size, with the levels that are left
abbrev pub as_list : ElementSize → Tree → ℕ → Result Tree ErrorKind
as_list size Null levels = with_level levels (Ok (empty_list size))
as_list size (Struct bytes ps) levels = with_level levels (Err kind.WrongPointerKind)
as_list size (Voids n) levels = list_if (reads_voids size) (Voids n) levels
as_list size (Bits bs) levels = list_if (reads_bits size) (Bits bs) levels
as_list size (Numbers w bytes) levels = list_if (reads_numbers size w) (Numbers w bytes) levels
as_list size (Pointers ps) levels = list_if (reads_pointers size) (Pointers ps) levels
as_list size (Composite d p es) levels = list_if (reads_structs size d p) (Composite d p es) levels
as_list size (FaultLeaf k) levels = Err (refusal k)

-- ---- elements of a list, whatever it was read as; past its end zero, null and a struct of size zero ----

-- how many elements a list has; what is no list has none
abbrev pub list_length : Tree → ℕ
list_length Null = 0
list_length (Struct bytes ps) = 0
list_length (Voids n) = n
list_length (Bits bs) = length bs
list_length (Numbers w bytes) = length bytes / w
list_length (Pointers ps) = tree_count ps
list_length (Composite d p es) = struct_count es
list_length (FaultLeaf k) = 0

-- an element as a bit, false where the elements are none
abbrev pub element_bit : Tree → ℕ → Bool
element_bit Null i = false
element_bit (Struct bytes ps) i = false
element_bit (Voids n) i = false
element_bit (Bits bs) i = get_or bs i false
element_bit (Numbers w bytes) i = false
element_bit (Pointers ps) i = false
element_bit (Composite d p es) i = false
element_bit (FaultLeaf k) i = false

-- the number of so many bytes at an element; of a struct, at its start
abbrev pub element_number : ℕ → Tree → ℕ → ℕ
element_number width Null i = 0
element_number width (Struct bytes ps) i = 0
element_number width (Voids n) i = 0
element_number width (Bits bs) i = 0
element_number width (Numbers w bytes) i = number_at width i bytes
element_number width (Pointers ps) i = 0
element_number width (Composite d p es) i = number_at width 0 (nth_struct es i).bytes
element_number width (FaultLeaf k) i = 0

-- a pointer out of a composite list, with the levels that are left to the list
abbrev pub cut_pointer : ℕ → Tree → Tree
cut_pointer levels t = cond (is_null_tree t) Null (cond (levels == 0) (FaultLeaf fault.TooDeep) t)

-- an element as a pointer: of a struct, its first
abbrev pub element_pointer : Tree → ℕ → ℕ → Tree
element_pointer Null i levels = Null
element_pointer (Struct bytes ps) i levels = Null
element_pointer (Voids n) i levels = Null
element_pointer (Bits bs) i levels = Null
element_pointer (Numbers w bytes) i levels = Null
element_pointer (Pointers ps) i levels = nth_tree ps i
element_pointer (Composite d p es) i levels = cut_pointer levels (nth_tree (nth_struct es i).pointers 0)
element_pointer (FaultLeaf k) i levels = Null

-- the levels of that pointer: it is entered through its struct
abbrev pub element_levels : Tree → ℕ → ℕ
element_levels Null levels = levels
element_levels (Struct bytes ps) levels = levels
element_levels (Voids n) levels = levels
element_levels (Bits bs) levels = levels
element_levels (Numbers w bytes) levels = levels
element_levels (Pointers ps) levels = levels
element_levels (Composite d p es) levels = levels - 1
element_levels (FaultLeaf k) levels = levels

-- the bytes of a number are a data section, and a pointer is a pointer section of one
abbrev pub element_struct : Tree → ℕ → StructTree
element_struct Null i = empty_struct
element_struct (Struct bytes ps) i = empty_struct
element_struct (Voids n) i = empty_struct
element_struct (Bits bs) i = empty_struct
element_struct (Numbers w bytes) i = record { bytes = take w (drop (i * w) bytes); pointers = NoTrees }
element_struct (Pointers ps) i = record { bytes = []; pointers = only_tree ps i }
element_struct (Composite d p es) i = nth_struct es i
element_struct (FaultLeaf k) i = empty_struct
