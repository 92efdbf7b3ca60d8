-- The words of a struct where it stands.
use Rattle.std.proofs.Common.{◌≡◌, ℕ, ◌+◌, ◌*◌, ◌≤◌, arith, List, length}
use Rattle.capnp_wire.specs.Facts.Rows.{tree_count_trees_from}
use Rattle.capnp_wire.specs.Place.{bytes_at}
use Rattle.capnp_wire.specs.Tree.{trees_from}
use Rattle.capnp_wire.specs.Words.{words_of_all, words_of_struct}
use Rattle.capnp_arena.specs.Forest.{struct_from, tree}
use Rattle.capnp_arena.specs.Shape.{word_count}
use Rattle.capnp_arena.proofs.Written.{length_part}

pub struct_words : (bytes : List ℕ) (a d p : ℕ) → a + (d + p) ≤ word_count bytes → words_of_struct (struct_from bytes a d p) ≡ d + p + words_of_all (trees_from (tree bytes) (a + d) p)
struct_words bytes a d p l =
    let n : length (bytes_at bytes a (8 * d)) ≡ 8 * d = length_part bytes a (8 * d) (omega (arith, l)) in
    omega (arith, n, tree_count_trees_from (tree bytes) (a + d) p)
