-- Lists of structs of size zero: each struct in them is empty, and with an empty struct in the place of another one they
-- stay as they are.
use Rattle.std.proofs.Common.{◌≡◌, ℕ, List, [], ◌∷◌, length, refl, ap, ◌∙◌, arith}
use Rattle.capnp_wire.specs.Tree.{Trees, NoTrees, MoreTrees, StructTree, empty_struct, empty_structs, struct_count, tree_count}
use Rattle.capnp_wire.specs.Facts.Rows.{struct_count_structs_from}

-- ---- a struct without sections ----

no_bytes : (bytes : List ℕ) → length bytes ≡ 0 → bytes ≡ []
no_bytes [] h = refl
no_bytes (b ∷ bytes) h = absurd (omega (arith, h))

no_trees : (ts : Trees) → tree_count ts ≡ 0 → ts ≡ NoTrees
no_trees NoTrees h = refl
no_trees (MoreTrees t ts) h = absurd (omega (arith, h))

pub no_sections : (s : StructTree) → length s.bytes ≡ 0 → tree_count s.pointers ≡ 0 → s ≡ empty_struct
no_sections s b p =
    ap (λ (bytes : List ℕ). record { bytes = bytes; pointers = s.pointers }) (no_bytes s.bytes b)
    ∙ ap (λ (ts : Trees). record { bytes = []; pointers = ts }) (no_trees s.pointers p)

-- ---- structs of size zero ----

pub struct_count_empty_structs : (count : ℕ) → struct_count (empty_structs count) ≡ count
struct_count_empty_structs count = struct_count_structs_from (λ _. empty_struct) 0 count
