use Rattle.std.proofs.Common.{rules}
use Rattle.capnp_arena.proofs.NewLists.{made_with}
use Rattle.capnp_arena.proofs.arena.Arena.make_with.Goals as goal

pub returns-clause-made : goal.returns-clause-made
returns-clause-made c = made_with _ _ _ _ _ _ _ _ _ c.args.self.now.whole c.requires.inside c.in_ok-grow.ensures.few c.requires.room (search rules) c.in_ok-grow.ensures.longer c.put_bytes.ensures.put c.put_word.ensures.put
