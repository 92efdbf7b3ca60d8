-- Worked rows: how much there is of what a pointer leads to.
use Rattle.std.specs.Prelude.{◌≡◌, refl, [], ◌∷◌, true}
use Rattle.capnp_wire.specs.Tree.{Tree, Null, Struct, Voids, Bits, Numbers, Pointers, Composite, Trees, NoTrees, MoreTrees, NoStructs, MoreStructs}
use Rattle.capnp_wire.specs.Unfolded.{unfolded}

-- a list of three bytes
abbrev bytes : Tree
bytes = Numbers 1 (1 ∷ 2 ∷ 3 ∷ [])

-- two pointers to it
abbrev both : Trees
both = MoreTrees bytes (MoreTrees bytes NoTrees)

pub of_null : unfolded Null ≡ 1
of_null = refl

-- 1 for the pointer, and 1 for each byte
pub of_bytes : unfolded bytes ≡ 4
of_bytes = refl

-- a target counts as often as it is led to
pub of_shared : unfolded (Pointers both) ≡ 9
of_shared = refl

-- a struct of 2 bytes of data
pub of_struct : unfolded (Struct (0 ∷ 7 ∷ []) both) ≡ 11
of_struct = refl

-- what takes no bytes counts too
pub of_voids : unfolded (Voids 5) ≡ 6
of_voids = refl

pub of_bits : unfolded (Bits (true ∷ true ∷ [])) ≡ 3
of_bits = refl

-- two elements, of which one has the two pointers
pub of_elements : unfolded (Composite 0 2 (MoreStructs [] NoTrees (MoreStructs [] both NoStructs))) ≡ 11
of_elements = refl
