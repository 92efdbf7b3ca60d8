-- Worked rows: what is written.
use Rattle.std.specs.Prelude.{◌≡◌, refl, [], ◌∷◌, ◌++◌, true, false}
use Rattle.capnp_wire.specs.Tree.{Null, Struct, Voids, Bits, Numbers, Pointers, Composite, NoTrees, NoStructs}
use Rattle.capnp_wire.specs.Encoding.{message_of}
use Rattle.capnp_wire.proofs.Rows.{word, zero_word, trees, flat_structs, pointer_structs}

-- ---- structs ----

-- of a data word and a null pointer
pub struct_written :
    message_of (Struct (word 5 0 1 0 9 0 0 0) (trees (Null ∷ [])))
    ≡ word 0 0 0 0 3 0 0 0 ++ word 0 0 0 0 1 0 1 0 ++ word 5 0 1 0 9 0 0 0
    ++ zero_word
struct_written = refl

-- of size zero: its pointer is no null
pub empty_struct_written :
    message_of (Struct [] NoTrees)
    ≡ word 0 0 0 0 1 0 0 0 ++ word 0xfc 0xff 0xff 0xff 0 0 0 0
empty_struct_written = refl

-- a null root
pub null_written :
    message_of Null
    ≡ word 0 0 0 0 1 0 0 0 ++ zero_word
null_written = refl

-- ---- lists ----

-- a text, with zeros up to a whole word
pub text_written :
    message_of (Numbers 1 (0x48 ∷ 0x65 ∷ 0x6c ∷ 0x6c ∷ 0x6f ∷ 0x2c ∷ 0x20 ∷ 0x57 ∷ 0x6f ∷ 0x72 ∷ 0x6c ∷ 0x64 ∷ 0x21 ∷ 0 ∷ []))
    ≡ word 0 0 0 0 3 0 0 0 ++ word 1 0 0 0 0x72 0 0 0 ++ word 0x48 0x65 0x6c 0x6c 0x6f 0x2c 0x20 0x57
    ++ word 0x6f 0x72 0x6c 0x64 0x21 0 0 0
text_written = refl

-- a text that ends with its word
pub whole_word_written :
    message_of (Numbers 1 (word 0x61 0x62 0x63 0x64 0x65 0x66 0x67 0))
    ≡ word 0 0 0 0 2 0 0 0 ++ word 1 0 0 0 0x42 0 0 0 ++ word 0x61 0x62 0x63 0x64 0x65 0x66 0x67 0
whole_word_written = refl

-- numbers of two bytes
pub numbers_written :
    message_of (Numbers 2 (1 ∷ 0 ∷ 2 ∷ 0 ∷ 3 ∷ 0 ∷ []))
    ≡ word 0 0 0 0 2 0 0 0 ++ word 1 0 0 0 0x1b 0 0 0 ++ word 1 0 2 0 3 0 0 0
numbers_written = refl

-- numbers of four and of eight bytes
pub wide_numbers_written :
    message_of (Struct [] (trees (Numbers 4 (1 ∷ 0 ∷ 0 ∷ 0 ∷ []) ∷ Numbers 8 (word 2 0 0 0 0 0 0 0) ∷ [])))
    ≡ word 0 0 0 0 5 0 0 0 ++ word 0 0 0 0 0 0 2 0 ++ word 5 0 0 0 0x0c 0 0 0
    ++ word 5 0 0 0 0x0d 0 0 0 ++ word 1 0 0 0 0 0 0 0 ++ word 2 0 0 0 0 0 0 0
wide_numbers_written = refl

-- bits, lowest first, past the first byte
pub bits_written :
    message_of (Bits (false ∷ false ∷ false ∷ false ∷ false ∷ false ∷ false ∷ true ∷ true ∷ false ∷ true ∷ []))
    ≡ word 0 0 0 0 2 0 0 0 ++ word 1 0 0 0 0x59 0 0 0 ++ word 0x80 5 0 0 0 0 0 0
bits_written = refl

-- pointers, with a null and a list of nothing
pub pointers_written :
    message_of (Pointers (trees (Null ∷ Voids 3 ∷ [])))
    ≡ word 0 0 0 0 3 0 0 0 ++ word 1 0 0 0 0x16 0 0 0 ++ zero_word
    ++ word 1 0 0 0 0x18 0 0 0
pointers_written = refl

-- ---- composite lists ----

-- the tag: the count of the elements, and the size of each
pub composite_written :
    message_of (Composite 1 0 (flat_structs (word 1 0 0 0 0 0 0 0 ∷ word 2 0 0 0 0 0 0 0 ∷ word 3 0 0 0 0 0 0 0 ∷ [])))
    ≡ word 0 0 0 0 5 0 0 0 ++ word 1 0 0 0 0x1f 0 0 0 ++ word 0x0c 0 0 0 1 0 0 0
    ++ word 1 0 0 0 0 0 0 0 ++ word 2 0 0 0 0 0 0 0 ++ word 3 0 0 0 0 0 0 0
composite_written = refl

-- no elements, whose size stands in the tag all the same
pub no_elements_written :
    message_of (Composite 2 3 NoStructs)
    ≡ word 0 0 0 0 2 0 0 0 ++ word 1 0 0 0 7 0 0 0 ++ word 0 0 0 0 2 0 3 0
no_elements_written = refl

-- in the last of four pointers
pub last_field_written :
    message_of (Struct [] (trees (Null ∷ Null ∷ Null ∷ Composite 1 0 (flat_structs (word 1 0 0 0 0 0 0 0 ∷ word 2 0 0 0 0 0 0 0 ∷ [])) ∷ [])))
    ≡ word 0 0 0 0 8 0 0 0 ++ word 0 0 0 0 0 0 4 0 ++ zero_word
    ++ zero_word ++ zero_word ++ word 1 0 0 0 0x17 0 0 0
    ++ word 8 0 0 0 1 0 0 0 ++ word 1 0 0 0 0 0 0 0 ++ word 2 0 0 0 0 0 0 0
last_field_written = refl

-- the same of other elements
pub from_bytes_written :
    message_of (Struct [] (trees (Null ∷ Null ∷ Null ∷ Composite 1 0 (flat_structs (word 5 0 0 0 0 0 0 0 ∷ word 0xff 0 0 0 0 0 0 0 ∷ [])) ∷ [])))
    ≡ word 0 0 0 0 8 0 0 0 ++ word 0 0 0 0 0 0 4 0 ++ zero_word
    ++ zero_word ++ zero_word ++ word 1 0 0 0 0x17 0 0 0
    ++ word 8 0 0 0 1 0 0 0 ++ word 5 0 0 0 0 0 0 0 ++ word 0xff 0 0 0 0 0 0 0
from_bytes_written = refl

-- what the elements lead to stands after the last of them
pub elements_written :
    message_of (Composite 0 1 (pointer_structs ((Bits (true ∷ false ∷ true ∷ []) ∷ []) ∷ (Bits (true ∷ []) ∷ []) ∷ [])))
    ≡ word 0 0 0 0 6 0 0 0 ++ word 1 0 0 0 0x17 0 0 0 ++ word 8 0 0 0 0 0 1 0
    ++ word 5 0 0 0 0x19 0 0 0 ++ word 5 0 0 0 9 0 0 0 ++ word 5 0 0 0 0 0 0 0
    ++ word 1 0 0 0 0 0 0 0
elements_written = refl

-- ---- order ----

-- what a pointer leads to stands right after its struct
pub field_written :
    message_of (Struct (word 5 0 1 0 9 0 0 0) (trees (Numbers 1 (0x68 ∷ 0x69 ∷ 0 ∷ []) ∷ [])))
    ≡ word 0 0 0 0 4 0 0 0 ++ word 0 0 0 0 1 0 1 0 ++ word 5 0 1 0 9 0 0 0
    ++ word 1 0 0 0 0x1a 0 0 0 ++ word 0x68 0x69 0 0 0 0 0 0
field_written = refl

-- what the first pointer leads to stands whole before what the second does
pub fields_written :
    message_of (Struct [] (trees (Struct [] (trees (Numbers 1 (0x61 ∷ []) ∷ [])) ∷ Numbers 1 (0x62 ∷ []) ∷ [])))
    ≡ word 0 0 0 0 6 0 0 0 ++ word 0 0 0 0 0 0 2 0 ++ word 4 0 0 0 0 0 1 0
    ++ word 9 0 0 0 0x0a 0 0 0 ++ word 1 0 0 0 0x0a 0 0 0 ++ word 0x61 0 0 0 0 0 0 0
    ++ word 0x62 0 0 0 0 0 0 0
fields_written = refl
