-- Worked rows: the levels that it takes to read a tree in full, and one fewer, which don't do.
use Rattle.std.proofs.Common.{[], ◌∷◌, true, arith}
use Rattle.capnp_wire.specs.Tree.{Null, Struct, Voids, Bits, Numbers, Pointers, Composite, NoTrees, MoreTrees, NoStructs, MoreStructs}
use Rattle.capnp_wire.specs.Depth.{IsBelow, IsWithin}

-- a null takes none, not even where a level is lacking
pub null_below : IsBelow 0 Null
null_below = tt

-- bytes take none, but none may be lacking
pub bytes_within : IsWithin 0 (Numbers 1 (7 ∷ []))
bytes_within = omega arith

pub bytes_deep : IsBelow 0 (Numbers 1 (7 ∷ [])) → ⊥
bytes_deep h = omega arith

-- any other list takes one, with elements or without
pub bits_within : IsWithin 1 (Bits (true ∷ []))
bits_within = omega arith

pub bits_deep : IsWithin 0 (Bits []) → ⊥
bits_deep h = omega arith

pub numbers_deep : IsWithin 0 (Numbers 2 []) → ⊥
numbers_deep h = omega arith

-- a struct of size zero takes one
pub empty_struct_within : IsWithin 1 (Struct [] NoTrees)
empty_struct_within = (omega arith, tt)

pub empty_struct_deep : IsWithin 0 (Struct [] NoTrees) → ⊥
empty_struct_deep h = omega (arith, h.0)

-- what a struct's pointers lead to has one level less
pub struct_within : IsWithin 1 (Struct [] (MoreTrees (Numbers 1 []) NoTrees))
struct_within = (omega arith, (omega arith, tt))

pub struct_deep : IsWithin 1 (Struct [] (MoreTrees (Voids 0) NoTrees)) → ⊥
struct_deep h = omega (arith, h.1.0)

-- what a composite list's elements lead to has two less: with one level, these are null
pub nulls_within : IsWithin 1 (Composite 0 1 (MoreStructs [] (MoreTrees Null NoTrees) NoStructs))
nulls_within = (omega arith, ((tt, tt), tt))

pub elements_deep : IsWithin 1 (Composite 0 1 (MoreStructs [] (MoreTrees (Numbers 1 []) NoTrees) NoStructs)) → ⊥
elements_deep h = omega (arith, h.1.0.0)

pub elements_within : IsWithin 2 (Composite 0 1 (MoreStructs [] (MoreTrees (Numbers 1 []) NoTrees) NoStructs))
elements_within = (omega arith, ((omega arith, tt), tt))

-- a list of pointers takes one
pub pointers_within : IsWithin 2 (Pointers (MoreTrees (Voids 1) NoTrees))
pointers_within = (omega arith, (omega arith, tt))

pub pointers_deep : IsWithin 1 (Pointers (MoreTrees (Voids 1) NoTrees)) → ⊥
pointers_deep h = omega (arith, h.1.0)
