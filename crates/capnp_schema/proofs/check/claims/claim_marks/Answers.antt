use Rattle.std.proofs.Common.{arith}
use Rattle.capnp_schema.proofs.Checking.LevelTimes.{all_claimed}
use Rattle.capnp_schema.proofs.check.claims.claim_marks.Goals as goal

pub returns : goal.returns
returns c = λ yes. all_claimed _ _ _ _ c.loop-i.i _ _ c.loop-i.invariant (omega arith) (omega arith) (omega arith)
