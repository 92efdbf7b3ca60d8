use Rattle.capnp_differences.proofs.Adding.{adds_no_pair, adds_some}
use Rattle.capnp_differences.proofs.named.add_some.Goals as goal

pub returns-in_ok-add-in-Some-clause-added : goal.returns-in_ok-add-in-Some-clause-added
returns-in_ok-add-in-Some-clause-added c = adds_some c.args.pairs.now c.add.new.self c.args.pair c.in-Some.found c.in-Some.is c.in_ok-add-in-Some.ensures.added

pub returns-in-None-clause-added : goal.returns-in-None-clause-added
returns-in-None-clause-added c = adds_no_pair c.args.pairs.now c.args.pair c.in-None.is
