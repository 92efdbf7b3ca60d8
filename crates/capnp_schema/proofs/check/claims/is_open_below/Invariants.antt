use Rattle.std.proofs.Common.{◌-◌}
use Rattle.capnp_schema.proofs.Checking.LevelTimes.{Bisected}
use Rattle.capnp_schema.proofs.check.claims.is_open_below.Given as goal

abbrev pub invariant-loop-low : goal.invariant-loop-low
invariant-loop-low l = Bisected l.below l.time l.low l.high

abbrev pub decreases-loop-low : goal.decreases-loop-low
decreases-loop-low l = l.high - l.low
