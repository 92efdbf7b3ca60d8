-- A list that becomes one of structs of at least a size.
use Rattle.std.specs.Prelude.{ℕ, ◌+◌, ◌*◌, ◌≤◌, ⊤, cond, nat_lt, max, Option, Some, None}
use Rattle.capnp_wire.specs.Tree.{Tree, Null, Struct, Voids, Bits, Numbers, Pointers, Composite, FaultLeaf, structs_from}
use Rattle.capnp_wire.specs.Reading.{element_struct, list_length}
pub use Rattle.capnp_wire.specs.Edits.{IsDueRefusal}
use Rattle.capnp_wire.specs.Edits.{extended_struct}
use Rattle.capnp_wire.specs.declared.size.StructSize.{StructSize}
use Rattle.capnp_device.specs.declared.error.ErrorKind.{ErrorKind}
use Rattle.capnp_device.specs.declared.error.ErrorKind.TheVariants.{SizePastFormat, WrongElementSize, WrongPointerKind}
use Rattle.capnp_wire.specs.Locate.{words_past_format}

-- the data words and the pointers that an element takes as a struct
abbrev pub element_words : Tree → ℕ
element_words Null = 0
element_words (Struct bytes ps) = 0
element_words (Voids n) = 0
element_words (Bits bs) = 0
element_words (Numbers w bytes) = 1
element_words (Pointers ps) = 0
element_words (Composite d p es) = d
element_words (FaultLeaf k) = 0

abbrev pub element_pointers : Tree → ℕ
element_pointers Null = 0
element_pointers (Struct bytes ps) = 0
element_pointers (Voids n) = 0
element_pointers (Bits bs) = 0
element_pointers (Numbers w bytes) = 0
element_pointers (Pointers ps) = 1
element_pointers (Composite d p es) = p
element_pointers (FaultLeaf k) = 0

-- at least a size, and what an element takes
abbrev pub grown_size : StructSize → Tree → StructSize
grown_size size t = record { data_words = max size.data_words (element_words t); pointers = max size.pointers (element_pointers t) }

-- each element as a struct that lost nothing, with zeros and nulls up to the size
abbrev pub as_structs : StructSize → Tree → Tree
as_structs size t = Composite size.data_words size.pointers (structs_from (λ i. extended_struct size (element_struct t i)) 0 (list_length t))

-- a null stays, and so does what can't be read as structs
abbrev pub struct_list : StructSize → Tree → Tree
struct_list size Null = Null
struct_list size (Struct bytes ps) = Struct bytes ps
struct_list size (Voids n) = as_structs (grown_size size (Voids n)) (Voids n)
struct_list size (Bits bs) = Bits bs
struct_list size (Numbers w bytes) = as_structs (grown_size size (Numbers w bytes)) (Numbers w bytes)
struct_list size (Pointers ps) = as_structs (grown_size size (Pointers ps)) (Pointers ps)
struct_list size (Composite d p es) = as_structs (grown_size size (Composite d p es)) (Composite d p es)
struct_list size (FaultLeaf k) = FaultLeaf k

-- whether so many structs of a size are past the format
abbrev pub past_format : ℕ → StructSize → Option ErrorKind
past_format count size = cond (nat_lt (count * (size.data_words + size.pointers)) words_past_format) None (Some SizePastFormat)

-- what it is refused with, memory aside
abbrev pub struct_list_refusal : StructSize → Tree → Option ErrorKind
struct_list_refusal size Null = None
struct_list_refusal size (Struct bytes ps) = Some WrongPointerKind
struct_list_refusal size (Voids n) = past_format n (grown_size size (Voids n))
struct_list_refusal size (Bits bs) = Some WrongElementSize
struct_list_refusal size (Numbers w bytes) = past_format (list_length (Numbers w bytes)) (grown_size size (Numbers w bytes))
struct_list_refusal size (Pointers ps) = past_format (list_length (Pointers ps)) (grown_size size (Pointers ps))
struct_list_refusal size (Composite d p es) = past_format (list_length (Composite d p es)) (grown_size size (Composite d p es))
struct_list_refusal size (FaultLeaf k) = None

-- a list of structs that have at least a size, or the list of nothing that a null is read as: no element has to grow
abbrev pub HoldsStructs : StructSize → Tree → Type 0
HoldsStructs size Null = ⊤
HoldsStructs size (Struct bytes ps) = ⊥
HoldsStructs size (Voids n) = ⊥
HoldsStructs size (Bits bs) = ⊥
HoldsStructs size (Numbers w bytes) = ⊥
HoldsStructs size (Pointers ps) = ⊥
HoldsStructs size (Composite d p es) = (size.data_words ≤ d) × (size.pointers ≤ p)
HoldsStructs size (FaultLeaf k) = ⊥
