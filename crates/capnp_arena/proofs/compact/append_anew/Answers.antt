-- The pointer word, then the tree behind it: the two appended in turn are the encoding of the tree.
use Rattle.std.proofs.Common.{◌≡◌, ◌++◌, ◌∙◌, ap}
use Rattle.capnp_wire.specs.Encoding.{pointer_word, spelled_number}
use Rattle.capnp_wire.specs.Facts.Appending.{append_two}
use Rattle.capnp_arena.specs.Steps.Encoded.{pointer_to}
use Rattle.capnp_arena.specs.Forest.{tree}
use Rattle.capnp_arena.proofs.Encodings.{pointer_is}
use Rattle.capnp_arena.proofs.compact.append_anew.Goals as goal

pub returns : goal.returns
returns c =
    let w : c.append_word.new.out.items ≡ c.args.out.now.items ++ spelled_number 8 (pointer_word 0 (tree c.args.bytes.now 0)) = c.in_ok-append_word.ensures ∙ ap (λ n. c.args.out.now.items ++ spelled_number 8 n) (c.make_pointer.ensures ∙ ap (pointer_to 0) c.look-target.ensures.shape ∙ pointer_is c.args.bytes.now 0 0 c.requires.forest) in
    append_two _ _ _ _ _ w c.in_ok-append_tree.ensures
