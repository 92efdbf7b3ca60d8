use Rattle.std.proofs.Common.{sym}
use Rattle.capnp_differences.proofs.Adding.{adds_listed, adds_new}
use Rattle.capnp_differences.proofs.pairs.Pairs.add.Goals as goal

pub returns-then-has-clause-added : goal.returns-then-has-clause-added
returns-then-has-clause-added c = adds_listed _ c.args.pair (sym c.if-has.ensures)

pub returns-clause-added : goal.returns-clause-added
returns-clause-added c = rw c.in_ok-push.ensures.more (adds_new _ c.args.pair (sym c.if-has.ensures))
