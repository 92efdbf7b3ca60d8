-- Short forms for the worked rows.
use Rattle.std.specs.Prelude.{ℕ, List, [], ◌∷◌}
use Rattle.capnp_wire.specs.Tree.{Tree, FaultLeaf, Trees, NoTrees, MoreTrees, Structs, NoStructs, MoreStructs}
use Rattle.capnp_wire.specs.Place.{root_tree}
use Rattle.capnp_wire.specs.declared.fault.Fault.TheVariants as fault

-- the eight bytes of a word, in their order
abbrev pub word : (a b c d e f g h : ℕ) → List ℕ
word a b c d e f g h = a ∷ b ∷ c ∷ d ∷ e ∷ f ∷ g ∷ h ∷ []

-- a word of zeros
abbrev pub zero_word : List ℕ
zero_word = word 0 0 0 0 0 0 0 0

-- the tree of a message of one segment
abbrev pub root_of : List ℕ → Tree
root_of segment = root_tree (segment ∷ [])

-- a row of trees
abbrev pub trees : List Tree → Trees
trees [] = NoTrees
trees (t ∷ ts) = MoreTrees t (trees ts)

-- structs without pointers, by their data
abbrev pub flat_structs : List (List ℕ) → Structs
flat_structs [] = NoStructs
flat_structs (bytes ∷ rest) = MoreStructs bytes NoTrees (flat_structs rest)

-- structs without data, by their pointers
abbrev pub pointer_structs : List (List Tree) → Structs
pointer_structs [] = NoStructs
pointer_structs (ts ∷ rest) = MoreStructs [] (trees ts) (pointer_structs rest)

-- the fault leaf of a broken pointer
abbrev pub bad : Tree
bad = FaultLeaf fault.BadPointer

-- of too few levels
abbrev pub too_deep : Tree
too_deep = FaultLeaf fault.TooDeep

-- of a capability pointer
abbrev pub capability : Tree
capability = FaultLeaf fault.CapabilityPointer
