use Rattle.capnp_base.specs.IndexIter.{source, to_come}
use Rattle.capnp_base.proofs.Runs.{gives_in_order, gives_all}
use Rattle.capnp_base.proofs.traits.iterators.laws.items_come_in_order.Goals as goal

pub returns-clause-run : goal.returns-clause-run
returns-clause-run g c = gives_in_order source to_come g.T.IndexMove.answers c.args.items.now

pub returns-clause-whole : goal.returns-clause-whole
returns-clause-whole g c = gives_all source to_come g.T.IndexMove.answers c.args.items.now
