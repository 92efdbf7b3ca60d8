-- Below the size the item at the last index is the last of those to come; with none below it, none is to come.
use Rattle.std.proofs.Common.{◌-◌, ℕ, refl, subst, arith}
use Rattle.capnp_base.specs.IndexIter.{source, to_come}
use Rattle.capnp_base.proofs.Indices.{indices_last, indices_none, progress_last}
use Rattle.capnp_base.proofs.traits.iterators.IndexIterDoubleEndedIterator.next_back.Goals as goal

pub returns-then-self-clause-steps : goal.returns-then-self-clause-steps
unfolding source to_come
returns-then-self-clause-steps g c =
    let i = c.args.self.now.index in
    let n = c.args.self.now.size in
    let answers : ℕ → Type 0 = λ k. g.T.IndexMove.answers c.args.self.now.list k c.index_move.result in
    (n - 1, indices_last i n (n - 1) c.if-self.true (omega (arith, c.if-self.true)), subst answers c.from_number.ensures c.index_move.ensures, refl)

pub returns-then-self-clause-goes : goal.returns-then-self-clause-goes
unfolding source to_come
returns-then-self-clause-goes g c =
    progress_last source to_come g.T.IndexMove.answers _ _ _ (returns-then-self-clause-steps g c)

pub returns-else-self-clause-steps : goal.returns-else-self-clause-steps
unfolding to_come
returns-else-self-clause-steps g c = (indices_none c.args.self.now.index c.args.self.now.size c.if-self.false, refl)
