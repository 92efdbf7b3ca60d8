-- Where the guess is at an end, or its neighbours don't lie around the decimal, the bits 0
-- and infinity do, since 0 is at most any decimal.
use Rattle.std.proofs.Common.{ℕ, ◌*◌, ◌^◌, ◌≤◌, arith, subst, sym}
use Rattle.capnp_floats.specs.declared.width.Width.{Width}
use Rattle.capnp_floats.specs.Nearest.{least_numbers}
use Rattle.capnp_floats.proofs.Nearing.{zero_number}
use Rattle.capnp_floats.proofs.nearest.bracket.Goals as goal

zero_low : (w : Width) (d z : ℕ) → least_numbers w 0 * 10 ^ z ≤ d
zero_low w d z = subst (λ x. x * 10 ^ z ≤ d) (sym (zero_number w)) (omega arith)

pub returns-then-guess-eq0-clause-low : goal.returns-then-guess-eq0-clause-low
returns-then-guess-eq0-clause-low c = zero_low c.args.width c.args.decimal.now c.args.zeros

pub returns-then-not-is_reached-clause-low : goal.returns-then-not-is_reached-clause-low
returns-then-not-is_reached-clause-low c = zero_low c.args.width c.args.decimal.now c.args.zeros

pub returns-then-is_reached-clause-low : goal.returns-then-is_reached-clause-low
returns-then-is_reached-clause-low c = zero_low c.args.width c.args.decimal.now c.args.zeros
