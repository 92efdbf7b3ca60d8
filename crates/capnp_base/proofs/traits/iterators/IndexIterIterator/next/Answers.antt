-- Where the index is below the size, the item there is the first of those to come; at the size none is to come.
use Rattle.std.proofs.Common.{ℕ, refl, subst}
use Rattle.capnp_base.specs.IndexIter.{source, to_come}
use Rattle.capnp_base.proofs.Indices.{indices_first, indices_none, progress_first}
use Rattle.capnp_base.proofs.traits.iterators.IndexIterIterator.next.Goals as goal

pub returns-then-self-clause-steps : goal.returns-then-self-clause-steps
unfolding source to_come
returns-then-self-clause-steps g c =
    let s = c.args.self.now in
    let answers : ℕ → Type 0 = λ i. g.T.IndexMove.answers s.list i c.index_move-item.result in
    (s.index, indices_first s.index s.size c.if-self.true, subst answers c.from_number.ensures c.index_move-item.ensures, refl)

pub returns-then-self-clause-goes : goal.returns-then-self-clause-goes
unfolding source to_come
returns-then-self-clause-goes g c =
    progress_first source to_come g.T.IndexMove.answers _ _ _ (returns-then-self-clause-steps g c)

pub returns-else-self-clause-steps : goal.returns-else-self-clause-steps
unfolding to_come
returns-else-self-clause-steps g c = (indices_none c.args.self.now.index c.args.self.now.size c.if-self.false, refl)
