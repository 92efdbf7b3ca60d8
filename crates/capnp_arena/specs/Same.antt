-- Trees that are the same as far down as so many levels go.
use Rattle.std.specs.Prelude.{ℕ, zero, suc, ◌≡◌, ⊤}
use Rattle.capnp_wire.specs.Tree.{Tree, Null, Struct, Voids, Bits, Numbers, Pointers, Composite, FaultLeaf, Trees, Structs, StructTree, nth_struct, nth_tree, struct_count, tree_count}

-- rows of pointers, where R relates what two of them lead to
abbrev pub SameRow : (Tree → Tree → Type 0) → Trees → Trees → Type 0
SameRow R ps qs = (tree_count qs ≡ tree_count ps) × ((i : ℕ) → R (nth_tree ps i) (nth_tree qs i))

-- two structs
abbrev pub SameParts : (Tree → Tree → Type 0) → StructTree → StructTree → Type 0
SameParts R s t = (t.bytes ≡ s.bytes) × SameRow R s.pointers t.pointers

abbrev pub SameElements : (Tree → Tree → Type 0) → Structs → Structs → Type 0
SameElements R es fs = (struct_count fs ≡ struct_count es) × ((i : ℕ) → SameParts R (nth_struct es i) (nth_struct fs i))

abbrev pub SameTo : ℕ → Tree → Tree → Type 0
SameTo zero x y = ⊤
SameTo (suc n) Null y = y ≡ Null
SameTo (suc n) (Struct bytes ps) y = (qs : Trees) × (y ≡ Struct bytes qs) × SameRow (SameTo n) ps qs
SameTo (suc n) (Voids k) y = y ≡ Voids k
SameTo (suc n) (Bits bits) y = y ≡ Bits bits
SameTo (suc n) (Numbers width bytes) y = y ≡ Numbers width bytes
SameTo (suc n) (Pointers ps) y = (qs : Trees) × (y ≡ Pointers qs) × SameRow (SameTo n) ps qs
SameTo (suc n) (Composite d p es) y = (fs : Structs) × (y ≡ Composite d p fs) × SameElements (SameTo n) es fs
SameTo (suc n) (FaultLeaf fault) y = y ≡ FaultLeaf fault

-- a tree, and a struct, as a reader stands on it: the first 65 levels are those of the other one, where a composite list
-- is one level with its elements
unfoldable pub IsCutOf : Tree → Tree → Type 0
IsCutOf x t = SameTo 65 x t

unfoldable pub IsStructCutOf : StructTree → StructTree → Type 0
IsStructCutOf x s = SameParts (SameTo 65) x s
