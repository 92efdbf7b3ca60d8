-- Each call of the sink appends one more part of the bytes, and without a failure; so what is written stays their beginning.
use Rattle.std.proofs.Common.{◌∙◌, arith}
use Rattle.std.proofs.lemmas.List.{take_rest}
use Rattle.capnp_device.proofs.Known.{appends_more}
use Rattle.capnp_device.proofs.transfer.write_all.Goals as goal

pub loop-done-preserved : goal.loop-done-preserved
loop-done-preserved g c = record {
  bound = omega (arith, c.in-Ok.ensures.bound);
  taken = appends_more _ _ _ _ _ _ c.loop-done.invariant.taken (rw take_rest at c.in-Ok.ensures.bytes);
  worked = c.in-Ok.ensures.counted.0 ∙ c.loop-done.invariant.worked;
  below_last = λ _. omega (arith, c.in-Ok.ensures.counted.1, c.loop-done.invariant.worked);
}

pub returns-clause-last : goal.returns-clause-last
returns-clause-last g c = λ some. c.loop-done.invariant.below_last (omega arith)
