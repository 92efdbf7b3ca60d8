-- What is allowed is what was taken and what is left; the first part that is too much ends it.
use Rattle.std.proofs.Common.{arith, refl}
use Rattle.std.proofs.lemmas.Option.{slice_get_read}
use Rattle.capnp_sets.proofs.ValuesTaken.{all_taken, one_taken, one_too_many}
use Rattle.capnp_sets.proofs.unfolded.left_of_all.Goals as goal

pub returns-in-None : goal.returns-in-None
returns-in-None g c = one_too_many _ _ _ _ _ _ c.loop-index.invariant _ (slice_get_read _ _ c.loop-index.index c.index-parts-index.result refl c.loop-index-test.true c.index-parts-index.is) c.in-None.ensures

pub loop-index-preserved : goal.loop-index-preserved
loop-index-preserved g c = one_taken _ _ _ _ _ _ c.loop-index.invariant _ (slice_get_read _ _ c.loop-index.index c.index-parts-index.result refl c.loop-index-test.true c.index-parts-index.is) _ _ c.in-Some.ensures refl

pub returns : goal.returns
returns g c = all_taken _ _ _ _ _ _ c.loop-index.invariant (omega arith)
