-- How a tree reads as a struct, a list, a text or data, with the levels that are left: steps of the code.
use Rattle.std.specs.Prelude.{Bool, true, false}
use Rattle.capnp_wire.specs.Tree.{Tree, Null, Struct, Voids, Bits, Numbers, Pointers, Composite, FaultLeaf}

-- whether a pointer can't be followed
abbrev pub is_fault_leaf : Tree → Bool
is_fault_leaf Null = false
is_fault_leaf (Struct bytes ps) = false
is_fault_leaf (Voids n) = false
is_fault_leaf (Bits bs) = false
is_fault_leaf (Numbers w bytes) = false
is_fault_leaf (Pointers ps) = false
is_fault_leaf (Composite d p es) = false
is_fault_leaf (FaultLeaf k) = true
