-- What is made at the end of a segment.
use Rattle.std.specs.Prelude.{ℕ}
use Rattle.capnp_wire.specs.declared.size.ElementSize.{ElementSize}
use Rattle.capnp_wire.specs.declared.size.ElementSize.TheVariants.{Void, Bit, Byte, TwoBytes, FourBytes, EightBytes, Pointer, InlineComposite}

-- the number of an element size
abbrev pub size_number : ElementSize → ℕ
size_number Void = 0
size_number Bit = 1
size_number Byte = 2
size_number TwoBytes = 3
size_number FourBytes = 4
size_number EightBytes = 5
size_number Pointer = 6
size_number InlineComposite = 7

-- the bytes of a number, by the number of its element size; no other element is one
abbrev pub width_of : ElementSize → ℕ
width_of Byte = 1
width_of TwoBytes = 2
width_of FourBytes = 4
width_of EightBytes = 8
width_of Void = 0
width_of Bit = 0
width_of Pointer = 0
width_of InlineComposite = 0
