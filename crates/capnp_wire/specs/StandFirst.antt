-- Elements of a list, and the same elements read as structs.
use Rattle.std.specs.Prelude.{ℕ, ◌<◌, ◌≡◌, true}
use Rattle.capnp_wire.specs.Elements.{reads_list}
use Rattle.capnp_wire.specs.Reading.{element_number, element_pointer, element_struct}
use Rattle.capnp_wire.specs.Slot.{number_at}
use Rattle.capnp_wire.specs.Tree.{Tree, nth_tree}
use Rattle.capnp_wire.specs.declared.size.ElementSize.{ElementSize}
use Rattle.capnp_wire.specs.declared.size.ElementSize.TheVariants.{Byte, TwoBytes, FourBytes, EightBytes, Pointer}

-- how many bytes a number of a size has; no other element is a number
abbrev pub number_width : ElementSize → ℕ
number_width Byte = 1
number_width TwoBytes = 2
number_width FourBytes = 4
number_width EightBytes = 8
number_width size = 0

-- in a list that is read as numbers an element is the first bits of that element read as a struct
abbrev pub NumbersStandFirst : Type 0
NumbersStandFirst =
    (size : ElementSize) (list : Tree) → reads_list size list ≡ true → (i : ℕ) →
    element_number (number_width size) list i ≡ number_at (number_width size) 0 (element_struct list i).bytes

-- and in one that is read as pointers its first pointer, where a level is left
abbrev pub PointersStandFirst : Type 0
PointersStandFirst =
    (list : Tree) → reads_list Pointer list ≡ true → (i levels : ℕ) → 0 < levels →
    element_pointer list i levels ≡ nth_tree (element_struct list i).pointers 0
