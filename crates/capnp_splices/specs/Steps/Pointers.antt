-- Splices of lists of pointers.
use Rattle.std.specs.Prelude.{◌≡◌}
use Rattle.capnp_wire.specs.ElementSizes.{element_size_of}
use Rattle.capnp_wire.specs.declared.size.ElementSize.{ElementSize}
use Rattle.capnp_wire.specs.declared.size.ElementSize.TheVariants.{Pointer}
use Rattle.capnp_splices.specs.Splices.{Splice}

-- where pointers stay pointers, both lists are of such
abbrev pub ArePointers : ElementSize → Splice → Type 0
ArePointers kind s = kind ≡ Pointer → (element_size_of s.old ≡ Pointer) × (element_size_of s.added ≡ Pointer)
