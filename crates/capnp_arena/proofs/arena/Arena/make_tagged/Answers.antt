use Rattle.std.proofs.Common.{rules, arith, ◌*◌, ◌≤◌, length}
use Rattle.capnp_wire.specs.Encoding.{spelled_number}
use Rattle.capnp_wire.specs.Facts.Bytes.{length_spelled}
use Rattle.capnp_arena.proofs.NewLists.{made_with}
use Rattle.capnp_arena.proofs.arena.Arena.make_tagged.Goals as goal

pub returns-clause-made : goal.returns-clause-made
returns-clause-made c =
    let room : length (spelled_number 8 c.args.tag) ≤ 8 * c.args.words = omega (arith, length_spelled 8 c.args.tag, c.requires.few.0) in
    made_with _ _ _ _ (spelled_number 8 c.args.tag) _ _ _ _ c.args.self.now.whole c.requires.inside c.in_ok-grow.ensures.few room (search rules) c.in_ok-grow.ensures.longer c.put_word.ensures.put c.put_word-2.ensures.put
