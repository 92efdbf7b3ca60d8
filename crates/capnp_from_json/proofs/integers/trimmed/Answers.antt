-- The digits behind the count are all zeros, so the natural is that of the digits before with these zeros.
-- A digit that isn't 0 ends it.
use Rattle.std.proofs.Common.{arith}
use Rattle.capnp_from_json.proofs.Digits.{trim_more, trimmed_there}
use Rattle.capnp_from_json.proofs.integers.trimmed.Goals as goal

pub returns-then-digits-count-ne48 : goal.returns-then-digits-count-ne48
returns-then-digits-count-ne48 c = trimmed_there c.args.digits.now c.loop-count.count c.requires (omega arith) c.loop-count.invariant.inside c.if-digits-count-ne48.true c.loop-count.invariant.value

pub loop-count-preserved : goal.loop-count-preserved
loop-count-preserved c = record {
  inside = omega arith;
  value = λ n. trim_more n c.args.digits.now c.loop-count.count (omega arith) c.loop-count.invariant.inside (omega arith) (c.loop-count.invariant.value n);
}
