use Rattle.capnp_base.specs.IndexIter.{source, to_come}
use Rattle.capnp_base.proofs.Runs.{gives_each_once}
use Rattle.capnp_base.proofs.traits.iterators.laws.items_come_once.Goals as goal

pub returns : goal.returns
returns g c = gives_each_once source to_come g.T.IndexMove.answers c.args.items.now
