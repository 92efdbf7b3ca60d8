-- Worked rows: how trees read as structs, lists, text and data.
use Rattle.std.specs.Prelude.{◌≡◌, refl, ℕ, List, [], ◌∷◌, ◌++◌, true, Result, Ok, Err, map}
use Rattle.capnp_wire.specs.Tree.{Tree, Null, Struct, Voids, Bits, Numbers, Pointers, Composite, StructTree, NoTrees, NoStructs, nth_tree}
use Rattle.capnp_wire.specs.Place.{tree_at}
use Rattle.capnp_wire.specs.Reading.{as_struct, as_list, as_text, as_data}
use Rattle.capnp_wire.specs.declared.size.ElementSize.{ElementSize}
use Rattle.capnp_wire.specs.declared.size.ElementSize.TheVariants.{Void, Bit, Byte, TwoBytes, FourBytes, EightBytes, Pointer, InlineComposite}
use Rattle.capnp_device.specs.declared.error.ErrorKind.{ErrorKind}
use Rattle.capnp_device.specs.declared.error.ErrorKind.TheVariants.{BadPointer, WrongPointerKind, WrongElementSize, TextNotTerminated, TooDeep, CapabilityPointer}
use Rattle.capnp_wire.proofs.Rows.{word, zero_word, root_of, trees, bad, too_deep, capability}

-- one list of each kind
abbrev pub each_list : List Tree
each_list = Voids 2 ∷ Bits (true ∷ []) ∷ Numbers 1 (7 ∷ 0 ∷ []) ∷ Numbers 2 (7 ∷ 0 ∷ []) ∷ Numbers 4 [] ∷ Numbers 8 [] ∷ Pointers NoTrees ∷ Composite 1 0 NoStructs ∷ []

-- the three fault leaves
abbrev pub each_fault : List Tree
each_fault = bad ∷ too_deep ∷ capability ∷ []

-- the element sizes that can be asked
abbrev pub each_size : List ElementSize
each_size = Void ∷ Bit ∷ Byte ∷ TwoBytes ∷ FourBytes ∷ EightBytes ∷ Pointer ∷ InlineComposite ∷ []

-- ---- structs ----

-- each tree read as a struct
abbrev pub structs_of : ℕ → List Tree → List (Result StructTree ErrorKind)
structs_of levels = map (λ t. as_struct t levels)

-- a struct reads where one level is left, and a null as a struct of size zero
pub struct_reads : structs_of 1 (Struct (word 5 0 0 0 0 0 0 0) (trees (Null ∷ [])) ∷ Struct [] NoTrees ∷ Null ∷ [])
    ≡ Ok (record { bytes = word 5 0 0 0 0 0 0 0; pointers = trees (Null ∷ []) }) ∷ Ok (record { bytes = []; pointers = NoTrees }) ∷ Ok (record { bytes = []; pointers = NoTrees }) ∷ []
struct_reads = refl

-- with none left both are refused, the null too
pub struct_too_deep : structs_of 0 (Struct (word 5 0 0 0 0 0 0 0) NoTrees ∷ Null ∷ []) ≡ Err TooDeep ∷ Err TooDeep ∷ []
struct_too_deep = refl

-- a list is no struct, whatever its elements
pub list_is_no_struct : structs_of 1 each_list
    ≡ Err WrongPointerKind ∷ Err WrongPointerKind ∷ Err WrongPointerKind ∷ Err WrongPointerKind ∷ Err WrongPointerKind ∷ Err WrongPointerKind ∷ Err WrongPointerKind ∷ Err WrongPointerKind ∷ []
list_is_no_struct = refl

-- want of levels comes before that
pub list_is_no_struct_too_deep : structs_of 0 each_list
    ≡ Err TooDeep ∷ Err TooDeep ∷ Err TooDeep ∷ Err TooDeep ∷ Err TooDeep ∷ Err TooDeep ∷ Err TooDeep ∷ Err TooDeep ∷ []
list_is_no_struct_too_deep = refl

-- and a fault leaf's own refusal before want of levels
pub struct_of_fault : structs_of 1 each_fault ≡ Err BadPointer ∷ Err TooDeep ∷ Err CapabilityPointer ∷ []
struct_of_fault = refl

-- also with no level left
pub struct_of_fault_too_deep : structs_of 0 each_fault ≡ Err BadPointer ∷ Err TooDeep ∷ Err CapabilityPointer ∷ []
struct_of_fault_too_deep = refl

-- ---- lists ----

-- a tree read as a list of each element size
abbrev pub asked_each : Tree → ℕ → List (Result Tree ErrorKind)
asked_each t levels = map (λ size. as_list size t levels) each_size

-- a null is an empty list of the size that is asked
pub null_list : asked_each Null 1
    ≡ Ok (Voids 0) ∷ Ok (Bits []) ∷ Ok (Numbers 1 []) ∷ Ok (Numbers 2 []) ∷ Ok (Numbers 4 []) ∷ Ok (Numbers 8 []) ∷ Ok (Pointers NoTrees) ∷ Ok (Composite 0 0 NoStructs) ∷ []
null_list = refl

-- with no level left it is refused
pub null_list_too_deep : asked_each Null 0
    ≡ Err TooDeep ∷ Err TooDeep ∷ Err TooDeep ∷ Err TooDeep ∷ Err TooDeep ∷ Err TooDeep ∷ Err TooDeep ∷ Err TooDeep ∷ []
null_list_too_deep = refl

-- a struct is no list
pub struct_is_no_list : asked_each (Struct [] NoTrees) 1
    ≡ Err WrongPointerKind ∷ Err WrongPointerKind ∷ Err WrongPointerKind ∷ Err WrongPointerKind ∷ Err WrongPointerKind ∷ Err WrongPointerKind ∷ Err WrongPointerKind ∷ Err WrongPointerKind ∷ []
struct_is_no_list = refl

-- want of levels comes before that
pub struct_is_no_list_too_deep : asked_each (Struct [] NoTrees) 0
    ≡ Err TooDeep ∷ Err TooDeep ∷ Err TooDeep ∷ Err TooDeep ∷ Err TooDeep ∷ Err TooDeep ∷ Err TooDeep ∷ Err TooDeep ∷ []
struct_is_no_list_too_deep = refl

-- a byte list takes a level as a list, and want of it comes before a wrong element size
pub byte_list_too_deep : asked_each (Numbers 1 (7 ∷ [])) 0
    ≡ Err TooDeep ∷ Err TooDeep ∷ Err TooDeep ∷ Err TooDeep ∷ Err TooDeep ∷ Err TooDeep ∷ Err TooDeep ∷ Err TooDeep ∷ []
byte_list_too_deep = refl

-- a fault leaf is refused with its own number
pub list_of_fault : map (λ t. as_list Byte t 1) each_fault ≡ Err BadPointer ∷ Err TooDeep ∷ Err CapabilityPointer ∷ []
list_of_fault = refl

-- also with no level left
pub list_of_fault_too_deep : map (λ t. as_list Byte t 0) each_fault ≡ Err BadPointer ∷ Err TooDeep ∷ Err CapabilityPointer ∷ []
list_of_fault_too_deep = refl

-- ---- data, which takes no level ----

-- the bytes of a byte list; of a null none
pub data_reads : map as_data (Numbers 1 (7 ∷ 0 ∷ []) ∷ Numbers 1 [] ∷ Null ∷ []) ≡ Ok (7 ∷ 0 ∷ []) ∷ Ok [] ∷ Ok [] ∷ []
data_reads = refl

-- no list is data but a list of bytes, not even an empty one
pub list_is_no_data : map as_data each_list
    ≡ Err WrongElementSize ∷ Err WrongElementSize ∷ Ok (7 ∷ 0 ∷ []) ∷ Err WrongElementSize ∷ Err WrongElementSize ∷ Err WrongElementSize ∷ Err WrongElementSize ∷ Err WrongElementSize ∷ []
list_is_no_data = refl

-- a struct is no data
pub struct_is_no_data : as_data (Struct [] NoTrees) ≡ Err WrongPointerKind
struct_is_no_data = refl

-- a fault leaf is refused with its own number
pub data_of_fault : map as_data each_fault ≡ Err BadPointer ∷ Err TooDeep ∷ Err CapabilityPointer ∷ []
data_of_fault = refl

-- ---- text, which takes none either ----

-- without its closing zero; zeros before it stay
pub text_reads : map as_text (Numbers 1 (0x68 ∷ 0x69 ∷ 0 ∷ []) ∷ Numbers 1 (0 ∷ []) ∷ Numbers 1 (0x61 ∷ 0 ∷ 0 ∷ []) ∷ Null ∷ []) ≡ Ok (0x68 ∷ 0x69 ∷ []) ∷ Ok [] ∷ Ok (0x61 ∷ 0 ∷ []) ∷ Ok [] ∷ []
text_reads = refl

-- without a closing zero, and without any byte
pub text_not_terminated : map as_text (Numbers 1 (0x61 ∷ 0x62 ∷ []) ∷ Numbers 1 (0 ∷ 0x62 ∷ []) ∷ Numbers 1 [] ∷ []) ≡ Err TextNotTerminated ∷ Err TextNotTerminated ∷ Err TextNotTerminated ∷ []
text_not_terminated = refl

-- no list is text but a list of bytes
pub list_is_no_text : map as_text each_list
    ≡ Err WrongElementSize ∷ Err WrongElementSize ∷ Ok (7 ∷ []) ∷ Err WrongElementSize ∷ Err WrongElementSize ∷ Err WrongElementSize ∷ Err WrongElementSize ∷ Err WrongElementSize ∷ []
list_is_no_text = refl

-- a struct is no text
pub struct_is_no_text : as_text (Struct [] NoTrees) ≡ Err WrongPointerKind
struct_is_no_text = refl

-- a fault leaf is refused with its own number
pub text_of_fault : map as_text each_fault ≡ Err BadPointer ∷ Err TooDeep ∷ Err CapabilityPointer ∷ []
text_of_fault = refl

-- ---- from bytes ----

-- a text at the root
pub root_text : as_text (root_of (word 1 0 0 0 0x42 0 0 0 ++ word 0x61 0x62 0x63 0x64 0x65 0x66 0x67 0)) ≡ Ok (0x61 ∷ 0x62 ∷ 0x63 ∷ 0x64 ∷ 0x65 ∷ 0x66 ∷ 0x67 ∷ [])
unfolding tree_at
root_text = refl

-- the first three pointers of a struct
abbrev pub pointers_of : Tree → List Tree
pointers_of (Struct bytes ps) = nth_tree ps 0 ∷ nth_tree ps 1 ∷ nth_tree ps 2 ∷ []
pointers_of t = []

-- null, a capability, bytes without a closing zero, null
abbrev pub broken_fields : Tree
broken_fields = root_of (word 0 0 0 0 0 0 4 0 ++ zero_word ++ word 3 0 0 0 0 0 0 0 ++ word 5 0 0 0 0x12 0 0 0 ++ zero_word ++ word 0x61 0x62 0 0 0 0 0 0)

-- each as a list of bytes
pub broken_fields_as_lists : map (λ t. as_list Byte t 63) (pointers_of broken_fields) ≡ Ok (Numbers 1 []) ∷ Err CapabilityPointer ∷ Ok (Numbers 1 (0x61 ∷ 0x62 ∷ [])) ∷ []
unfolding tree_at
broken_fields_as_lists = refl

-- each as data
pub broken_fields_as_data : map as_data (pointers_of broken_fields) ≡ Ok [] ∷ Err CapabilityPointer ∷ Ok (0x61 ∷ 0x62 ∷ []) ∷ []
unfolding tree_at
broken_fields_as_data = refl

-- each as text
pub broken_fields_as_text : map as_text (pointers_of broken_fields) ≡ Ok [] ∷ Err CapabilityPointer ∷ Err TextNotTerminated ∷ []
unfolding tree_at
broken_fields_as_text = refl
