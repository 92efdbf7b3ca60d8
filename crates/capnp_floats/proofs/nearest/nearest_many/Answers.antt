-- Digits of which none is kept are 0, and with over 400 tens some digit makes them past the range.
-- Where digits were cut, the tenths alone decide.
use Rattle.std.proofs.Common.{arith, lit<}
use Rattle.capnp_floats.specs.Shortest.{tens}
use Rattle.capnp_floats.proofs.Answering.{any_up_found, any_up_past}
use Rattle.capnp_floats.proofs.Cutting.{some_digits}
use Rattle.capnp_floats.proofs.Appending.{capped_more, holds_zero}
use Rattle.capnp_floats.proofs.Nearing.{vast_is_past, zero_is_zero}
use Rattle.capnp_floats.proofs.nearest.nearest_many.Goals as goal

pub returns-then-digits-eq0-clause-found : goal.returns-then-digits-eq0-clause-found
returns-then-digits-eq0-clause-found c = λ n k a x y. zero_is_zero c.args.width n k (holds_zero c.args.digits.now n c.requires.fits (omega arith) a)

pub returns-then-up-gt400-clause-past : goal.returns-then-up-gt400-clause-past
returns-then-up-gt400-clause-past c = λ n k a x y.
    vast_is_past c.args.width n k (some_digits c.args.digits.now n c.requires.fits (omega arith) a) (capped_more c.args.up (tens k) 400 (omega arith) (lit< tt) x)

pub returns-then-digits-gt0-clause-found : goal.returns-then-digits-gt0-clause-found
returns-then-digits-gt0-clause-found c = any_up_found c.args.width c.args.digits.now c.args.up c.args.down c.nearest_cut.result c.nearest_cut.ensures.found

pub returns-then-digits-gt0-clause-past : goal.returns-then-digits-gt0-clause-past
returns-then-digits-gt0-clause-past c = any_up_past c.args.width c.args.digits.now c.args.up c.args.down c.nearest_cut.result c.nearest_cut.ensures.past
