use Rattle.capnp_base.specs.IndexIter.{source, to_come}
use Rattle.capnp_base.proofs.Runs.{nth_along}
use Rattle.capnp_base.proofs.traits.iterators.IndexIter.nth_item.Goals as goal

pub returns : goal.returns
returns g c = nth_along source to_come g.T.IndexMove.answers c.args.skipped c.args.self.now c.nth.result c.nth.new.self c.nth.ensures.ran
