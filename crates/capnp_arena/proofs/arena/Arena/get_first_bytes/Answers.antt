use Rattle.capnp_arena.proofs.ElementsRead.{past_bytes}
use Rattle.capnp_arena.proofs.arena.Arena.get_first_bytes.Goals as goal

pub returns-then-index-list : goal.returns-then-index-list
returns-then-index-list c = past_bytes _ _ c.requires.forest _ _ _ _ c.requires.there c.args.index c.if-index-list.true
