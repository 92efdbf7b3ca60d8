-- When the copied list of structs cannot grow, cutting back and the null word take the copy away, for only a null stood there.
use Rattle.std.proofs.Common.{◌*◌, ◌∙◌, ap, arith, length, take}
use Rattle.capnp_wire.specs.Encoding.{spelled_number}
use Rattle.capnp_wire.specs.Steps.Filling.{bytes_with}
use Rattle.capnp_arena.specs.Facts.Forests.{points}
use Rattle.capnp_arena.specs.Facts.Shapes.{itself_inside}
use Rattle.capnp_arena.proofs.Restored.{taken_back}
use Rattle.capnp_arena.proofs.arena.Arena.put_structs.Goals as goal

pub restore-requires : goal.restore-requires
restore-requires c =
    let l = itself_inside _ _ _ (points _ _ c.requires.forest) in
    (omega (arith, l, c.count_words-words.ensures.count), omega (arith, c.count_words-words.ensures.count, c.in_ok-copy_from.ensures.changes.longer, ap length c.in-Err.ensures.refused))

pub returns-in-Err-clause-refused : goal.returns-in-Err-clause-refused
returns-in-Err-clause-refused c =
    c.restore.ensures
    ∙ ap (λ b. bytes_with (8 * c.args.at) (spelled_number 8 0) (take (8 * c.count_words-words.result) b)) c.in-Err.ensures.refused
    ∙ taken_back _ _ c.args.at _ c.count_words-words.ensures.whole c.requires.forest c.requires.null c.in_ok-copy_from.ensures.changes
