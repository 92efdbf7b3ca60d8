-- Trees and structs in a row: how many there are, and that they are well-formed, also with another one, lengthened or cut.
use Rattle.std.proofs.Common.{◌≡◌, ℕ, zero, suc, ◌+◌, ◌-◌, ◌<◌, refl, ap, ◌∙◌, arith}
use Rattle.capnp_wire.specs.Tree.{Tree, Null, Trees, NoTrees, MoreTrees, Structs, NoStructs, MoreStructs, StructTree, nth_struct, struct_count, structs_from, tree_count, trees_from}
use Rattle.capnp_wire.specs.WellFormed.{AreElements, AreWellFormed, IsWellFormed}
use Rattle.capnp_wire.specs.Steps.WellFormed.{IsElement}
use Rattle.capnp_wire.specs.Edits.{append_trees, first_trees, nulls, with_tree}
use Rattle.capnp_wire.specs.Elements.{with_struct}

-- ---- by their index ----

-- a row has as many trees as were asked for
pub tree_count_trees_from : (f : ℕ → Tree) (first count : ℕ) → tree_count (trees_from f first count) ≡ count
tree_count_trees_from f first zero = refl
tree_count_trees_from f first (suc count) = ap suc (tree_count_trees_from f (suc first) count)

-- the same of structs
pub struct_count_structs_from : (f : ℕ → StructTree) (first count : ℕ) → struct_count (structs_from f first count) ≡ count
struct_count_structs_from f first zero = refl
struct_count_structs_from f first (suc count) = ap suc (struct_count_structs_from f (suc first) count)

pub nth_struct_from : (f : ℕ → StructTree) (a n i : ℕ) → i < n → nth_struct (structs_from f a n) i ≡ f (a + i)
nth_struct_from f a zero i h = absurd (omega arith)
nth_struct_from f a (suc n) zero h = ap f (omega arith)
nth_struct_from f a (suc n) (suc i) h = nth_struct_from f (suc a) n i (omega arith) ∙ ap f (omega arith)

pub nth_struct_start : (f : ℕ → StructTree) (n i : ℕ) → i < n → nth_struct (structs_from f 0 n) i ≡ f i
nth_struct_start f n i h = nth_struct_from f 0 n i h ∙ ap f (omega arith)

-- a row of well-formed trees
pub AreWellFormed_trees_from : (f : ℕ → Tree) (first count : ℕ) → ((w : ℕ) → IsWellFormed (f w)) → AreWellFormed (trees_from f first count)
AreWellFormed_trees_from f first zero h = tt
AreWellFormed_trees_from f first (suc count) h = (h first, AreWellFormed_trees_from f (suc first) count h)

-- a row of structs of one size
pub AreElements_structs_from : (f : ℕ → StructTree) (d p first count : ℕ) → ((i : ℕ) → i < first + count → IsElement d p (f i)) → AreElements d p (structs_from f first count)
AreElements_structs_from f d p first zero h = tt
AreElements_structs_from f d p first (suc count) h =
    let here : IsElement d p (f first) = h first (omega arith) in
    (here.0, here.1, here.2, here.3, AreElements_structs_from f d p (suc first) count (λ i b. h i (omega (arith, b))))

-- ---- trees ----

pub AreWellFormed_with_tree : (ts : Trees) (i : ℕ) (t : Tree) → AreWellFormed ts → IsWellFormed t → AreWellFormed (with_tree ts i t)
AreWellFormed_with_tree NoTrees i t h k = tt
AreWellFormed_with_tree (MoreTrees u us) zero t h k = (k, h.1)
AreWellFormed_with_tree (MoreTrees u us) (suc i) t h k = (h.0, AreWellFormed_with_tree us i t h.1 k)

pub tree_count_with_tree : (ts : Trees) (i : ℕ) (t : Tree) → tree_count (with_tree ts i t) ≡ tree_count ts
tree_count_with_tree NoTrees i t = refl
tree_count_with_tree (MoreTrees u us) zero t = refl
tree_count_with_tree (MoreTrees u us) (suc i) t = ap suc (tree_count_with_tree us i t)

pub AreWellFormed_nulls : (n : ℕ) → AreWellFormed (nulls n)
AreWellFormed_nulls n = AreWellFormed_trees_from (λ _. Null) 0 n (λ w. tt)

pub tree_count_nulls : (n : ℕ) → tree_count (nulls n) ≡ n
tree_count_nulls n = tree_count_trees_from (λ _. Null) 0 n

pub AreWellFormed_append_trees : (ts us : Trees) → AreWellFormed ts → AreWellFormed us → AreWellFormed (append_trees ts us)
AreWellFormed_append_trees NoTrees us h k = k
AreWellFormed_append_trees (MoreTrees t ts) us h k = (h.0, AreWellFormed_append_trees ts us h.1 k)

pub tree_count_append_trees : (ts us : Trees) → tree_count (append_trees ts us) ≡ tree_count ts + tree_count us
tree_count_append_trees NoTrees us = omega arith
tree_count_append_trees (MoreTrees t ts) us = omega (arith, tree_count_append_trees ts us)

pub AreWellFormed_first_trees : (n : ℕ) (ts : Trees) → AreWellFormed ts → AreWellFormed (first_trees n ts)
AreWellFormed_first_trees zero ts h = tt
AreWellFormed_first_trees (suc n) NoTrees h = tt
AreWellFormed_first_trees (suc n) (MoreTrees t ts) h = (h.0, AreWellFormed_first_trees n ts h.1)

-- with as many more as are missing
pub tree_count_first_trees : (n : ℕ) (ts : Trees) → tree_count (first_trees n ts) + (n - tree_count ts) ≡ n
tree_count_first_trees zero ts = omega arith
tree_count_first_trees (suc n) NoTrees = omega arith
tree_count_first_trees (suc n) (MoreTrees t ts) = omega (arith, tree_count_first_trees n ts)

-- ---- structs ----

pub struct_count_with_struct : (es : Structs) (i : ℕ) (s : StructTree) → struct_count (with_struct es i s) ≡ struct_count es
struct_count_with_struct NoStructs i s = refl
struct_count_with_struct (MoreStructs bytes ps es) zero s = refl
struct_count_with_struct (MoreStructs bytes ps es) (suc i) s = ap suc (struct_count_with_struct es i s)

pub IsElement_nth_struct : (d p : ℕ) (es : Structs) (i : ℕ) → AreElements d p es → i < struct_count es → IsElement d p (nth_struct es i)
IsElement_nth_struct d p NoStructs i h a = absurd (omega (arith, a))
IsElement_nth_struct d p (MoreStructs bytes ps es) zero h a = (h.0, h.1, h.2, h.3)
IsElement_nth_struct d p (MoreStructs bytes ps es) (suc i) h a = IsElement_nth_struct d p es i h.4 (omega (arith, a))

-- past the end nothing is written
pub AreElements_with_struct : (d p : ℕ) (es : Structs) (i : ℕ) (s : StructTree) → AreElements d p es → (i < struct_count es → IsElement d p s) → AreElements d p (with_struct es i s)
AreElements_with_struct d p NoStructs i s h k = tt
AreElements_with_struct d p (MoreStructs bytes ps es) zero s h k =
    let e : IsElement d p s = k (omega arith) in
    (e.0, e.1, e.2, e.3, h.4)
AreElements_with_struct d p (MoreStructs bytes ps es) (suc i) s h k = (h.0, h.1, h.2, h.3, AreElements_with_struct d p es i s h.4 (λ a. k (omega (arith, a))))
