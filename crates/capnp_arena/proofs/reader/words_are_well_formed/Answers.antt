-- Words are bytes, so any tree read from them is well formed, and so is a struct whose data ends inside them.
use Rattle.std.proofs.Common.{[], ◌∷◌, List, ℕ}
use Rattle.capnp_wire.specs.WellFormed.{AreBytes, IsWellFormed}
use Rattle.capnp_wire.specs.Facts.ByteRuns.{AreBytes_fits}
use Rattle.capnp_wire.specs.Facts.Bytes.{AreSegments_one}
use Rattle.capnp_wire.specs.Facts.Places.{IsWellFormed_tree_at}
use Rattle.capnp_wire.specs.Facts.WellFormedRows.{IsWellFormed_struct_tree}
use Rattle.capnp_arena.specs.Forest.{tree}
use Rattle.capnp_arena.specs.Shape.{word_count}
use Rattle.capnp_arena.proofs.reader.words_are_well_formed.Goals as goal

formed : (bytes : List ℕ) → AreBytes bytes → (w : ℕ) → IsWellFormed (tree bytes w)
unfolding tree
formed bytes h w = IsWellFormed_tree_at (word_count bytes) (bytes ∷ []) bytes w (AreSegments_one bytes h) h

pub returns : goal.returns
returns c =
    let bytes = c.args._words.now in
    let h : AreBytes bytes = AreBytes_fits bytes c.type_inv._words in
    record {
      trees = formed bytes h;
      structs = λ a d p x y z. IsWellFormed_struct_tree (tree bytes) bytes d p a h z x y (formed bytes h);
    }
