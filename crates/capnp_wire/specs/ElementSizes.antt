-- The size of a list's elements.
use Rattle.std.specs.Prelude.{ℕ, cond, ◌==◌}
use Rattle.capnp_wire.specs.Tree.{Tree, Null, Struct, Voids, Bits, Numbers, Pointers, Composite, FaultLeaf}
use Rattle.capnp_wire.specs.declared.size.ElementSize.{ElementSize}
use Rattle.capnp_wire.specs.declared.size.ElementSize.TheVariants as size

-- the size of a number of so many bytes
abbrev pub size_of_width : ℕ → ElementSize
size_of_width width = cond (width == 1) size.Byte (cond (width == 2) size.TwoBytes (cond (width == 4) size.FourBytes size.EightBytes))

-- the size of a list's elements; of what is no list, nothing
abbrev pub element_size_of : Tree → ElementSize
element_size_of Null = size.Void
element_size_of (Struct bytes ps) = size.Void
element_size_of (Voids n) = size.Void
element_size_of (Bits bs) = size.Bit
element_size_of (Numbers w bytes) = size_of_width w
element_size_of (Pointers ps) = size.Pointer
element_size_of (Composite d p es) = size.InlineComposite
element_size_of (FaultLeaf k) = size.Void
