-- Lists of which some elements are taken out, with others in their place.
use Rattle.std.specs.Prelude.{ℕ, zero, suc, ◌+◌, ◌-◌, ◌*◌, ◌≡◌, ◌≤◌, ◌==◌, ◌||◌, ◌&&◌, List, [], ◌∷◌, ◌++◌, Bool, cond, nat_lt, not, Option, Some, option_map}
use Rattle.capnp_device.specs.declared.error.ErrorKind.{ErrorKind}
use Rattle.capnp_device.specs.declared.error.ErrorKind.TheVariants.{SizePastFormat, WrongElementSize}
use Rattle.capnp_wire.specs.Edits.{extended_struct}
use Rattle.capnp_wire.specs.ElementSizes.{element_size_of}
use Rattle.capnp_wire.specs.Encoding.{spelled_number}
use Rattle.capnp_wire.specs.Locate.{words_past_format}
use Rattle.capnp_wire.specs.Reading.{element_bit, element_number, element_pointer, element_struct, list_length, refusal}
use Rattle.capnp_wire.specs.StructLists.{element_pointers, element_words, grown_size}
use Rattle.capnp_wire.specs.Tree.{Tree, Bits, Composite, Numbers, Pointers, StructTree, Voids, struct_count, structs_from, trees_from}
use Rattle.capnp_wire.specs.WellFormed.{IsWellFormed}
use Rattle.capnp_wire.specs.Words.{first_fault}
use Rattle.capnp_wire.specs.declared.size.ElementSize.{ElementSize}
use Rattle.capnp_wire.specs.declared.size.ElementSize.TheVariants.{Void, Bit, Byte, TwoBytes, FourBytes, EightBytes, Pointer, InlineComposite}
use Rattle.capnp_wire.specs.declared.size.StructSize.{StructSize}
use Rattle.capnp_arena.specs.Made.{size_number}

-- ---- which element stands where ----

-- two lists, and where the elements of the second come into the first, in the place of so many of it
pub record Splice : Type 0 where
  pub old : Tree
  pub added : Tree
  pub at : ℕ
  pub removed : ℕ

-- two lists that stand in a message, and elements that lie in the first
pub record IsSplice (s : Splice) : Type 0 where
  pub within : s.at + s.removed ≤ list_length s.old
  pub old : IsWellFormed s.old
  pub added : IsWellFormed s.added

-- an element of a list
pub record Element : Type 0 where
  pub list : Tree
  pub index : ℕ

-- The element that comes to stand at an index: the first list's up to the place, then those of the second, then what is left
-- of the first behind those that are taken out.
abbrev pub picked : Splice → ℕ → Element
picked s i =
    cond (nat_lt i s.at) (record { list = s.old; index = i })
    (cond (nat_lt (i - s.at) (list_length s.added)) (record { list = s.added; index = i - s.at })
    (record { list = s.old; index = i - list_length s.added + s.removed }))

abbrev pub spliced_count : Splice → ℕ
spliced_count s = list_length s.old - s.removed + list_length s.added

-- ---- what is carried of an element ----

abbrev pub bit_of : Element → Bool
bit_of e = element_bit e.list e.index

abbrev pub number_of : ℕ → Element → ℕ
number_of width e = element_number width e.list e.index

-- a pointer with all that it leads to
abbrev pub pointer_of : Element → Tree
pointer_of e = element_pointer e.list e.index 1

-- a struct with all that it has, and zeros and nulls up to a size
abbrev pub struct_of_size : StructSize → Element → StructTree
struct_of_size size e = extended_struct size (element_struct e.list e.index)

-- ---- the spliced list ----

-- what a function gives at so many numbers, from the first on; and the bytes of such numbers, so many of each
abbrev pub bits_by : (ℕ → Bool) → ℕ → ℕ → List Bool
bits_by f first zero = []
bits_by f first (suc count) = f first ∷ bits_by f (suc first) count

abbrev pub bytes_by : ℕ → (ℕ → ℕ) → ℕ → ℕ → List ℕ
bytes_by width f first zero = []
bytes_by width f first (suc count) = spelled_number width (f first) ++ bytes_by width f (suc first) count

abbrev pub spliced_bits : Splice → Tree
spliced_bits s = Bits (bits_by (λ i. bit_of (picked s i)) 0 (spliced_count s))

abbrev pub spliced_numbers : ℕ → Splice → Tree
spliced_numbers width s = Numbers width (bytes_by width (λ i. number_of width (picked s i)) 0 (spliced_count s))

abbrev pub spliced_pointers : Splice → Tree
spliced_pointers s = Pointers (trees_from (λ i. pointer_of (picked s i)) 0 (spliced_count s))

abbrev pub spliced_structs : StructSize → Splice → Tree
spliced_structs size s = Composite size.data_words size.pointers (structs_from (λ i. struct_of_size size (picked s i)) 0 (spliced_count s))

-- structs of a size have room for all that a list's elements have
pub record HasRoomFor (size : StructSize) (t : Tree) : Type 0 where
  pub words : element_words t ≤ size.data_words
  pub pointers : element_pointers t ≤ size.pointers

-- at least a size, and what the elements of both lists take
abbrev pub spliced_size : StructSize → Splice → StructSize
spliced_size size s = grown_size (grown_size size s.old) s.added

abbrev pub spliced_as : ElementSize → StructSize → Splice → Tree
spliced_as Void size s = Voids (spliced_count s)
spliced_as Bit size s = spliced_bits s
spliced_as Byte size s = spliced_numbers 1 s
spliced_as TwoBytes size s = spliced_numbers 2 s
spliced_as FourBytes size s = spliced_numbers 4 s
spliced_as EightBytes size s = spliced_numbers 8 s
spliced_as Pointer size s = spliced_pointers s
spliced_as InlineComposite size s = spliced_structs (spliced_size size s) s

-- elements stay as they are asked where both lists have them so, and else all become structs
abbrev pub common_size : (asked a b : ElementSize) → ElementSize
common_size asked a b = cond ((size_number a == size_number asked) && (size_number b == size_number asked)) asked InlineComposite

abbrev pub size_of_both : ElementSize → Splice → ElementSize
size_of_both asked s = common_size asked (element_size_of s.old) (element_size_of s.added)

-- the spliced list, of elements that a type asks as this size, structs with at least a size
abbrev pub spliced_list : ElementSize → StructSize → Splice → Tree
spliced_list asked size s = spliced_as (size_of_both asked s) size s

-- ---- why two lists are not spliced, memory aside ----

-- the most elements that the format counts, and for structs the most words
abbrev pub is_past_format : Tree → Bool
is_past_format (Composite d p es) = not (nat_lt (struct_count es) words_past_format && nat_lt (struct_count es * (d + p)) words_past_format)
is_past_format t = not (nat_lt (list_length t) words_past_format)

-- why a list is not made of copies: it is past the format, or has a pointer that can't be followed, by the first in preorder
abbrev pub made_refusal : Tree → Option ErrorKind
made_refusal t = cond (is_past_format t) (Some SizePastFormat) (option_map refusal (first_fault t))

-- bits are no structs
abbrev pub has_bits : Tree → Bool
has_bits t = size_number (element_size_of t) == 1

abbrev pub mixes_bits : ElementSize → Splice → Bool
mixes_bits asked s = (size_number (size_of_both asked s) == 7) && (has_bits s.old || has_bits s.added)

-- elements of bits and of others don't stand in one list
abbrev pub splice_refusal : ElementSize → StructSize → Splice → Option ErrorKind
splice_refusal asked size s = cond (mixes_bits asked s) (Some WrongElementSize) (made_refusal (spliced_list asked size s))
