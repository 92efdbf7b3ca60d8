use Rattle.capnp_compatible.proofs.Lists.{adds_more}
use Rattle.capnp_compatible.proofs.pairs.Pairs.add.Goals as goal

pub returns-clause-only : goal.returns-clause-only
returns-clause-only c = rw c.in_ok-push.ensures.more (adds_more _ c.args.pair)
