-- The structs that a row builds: two words of data and two pointers each.
use Rattle.std.specs.Prelude.{ℕ, ◌≡◌}
use Rattle.capnp_wire.specs.Tree.{Tree, Null, Struct, Voids, Bits, Numbers, Pointers, Composite, FaultLeaf, struct_count}
use Rattle.capnp_wire.specs.WellFormed.{IsWellFormed}

-- a list of so many of them
abbrev pub AreItems : ℕ → Tree → Type 0
AreItems count Null = ⊥
AreItems count (Struct bytes ps) = ⊥
AreItems count (Voids n) = ⊥
AreItems count (Bits bs) = ⊥
AreItems count (Numbers w bytes) = ⊥
AreItems count (Pointers ps) = ⊥
AreItems count (Composite d p es) = IsWellFormed (Composite d p es) × (d ≡ 2) × (p ≡ 2) × (struct_count es ≡ count)
AreItems count (FaultLeaf k) = ⊥
