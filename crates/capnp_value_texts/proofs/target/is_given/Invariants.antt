use Rattle.std.proofs.Common.{◌≡◌, length}
use Rattle.capnp_value_texts.specs.Calls.{is_given}
use Rattle.capnp_value_texts.proofs.target.is_given.Given as goal

abbrev pub invariant-marks : goal.invariant-marks
invariant-marks l = is_given l.mark l.fn.given ≡ is_given l.mark l.rest

abbrev pub decreases-marks : goal.decreases-marks
decreases-marks l = length l.rest
