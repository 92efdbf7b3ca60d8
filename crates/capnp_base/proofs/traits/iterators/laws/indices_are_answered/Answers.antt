use Rattle.capnp_base.specs.IndexIter.{source, to_come}
use Rattle.capnp_base.proofs.Indices.{indices_below}
use Rattle.capnp_base.proofs.traits.iterators.laws.indices_are_answered.Goals as goal

pub returns : goal.returns
unfolding source to_come
returns g c =
    let s = c.args.items.now in
    indices_below s.index s.size (g.T.IndexMove.count s.list) s.answered
