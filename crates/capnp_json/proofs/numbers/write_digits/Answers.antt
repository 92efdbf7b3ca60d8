-- The digits of what is left, before those written, are the number's.
-- Each step moves one digit across, and there is room for at most 20.
use Rattle.std.proofs.Common.{append-nil, append_assoc, ap, arith, length, ◌%◌, ◌+◌, ◌-◌, ◌≡◌}
use Rattle.std.specs.Fmt.{decimal}
use Rattle.std.proofs.lemmas.Fmt.{decimal_digit, decimal_step, length-decimal-le}
use Rattle.std.proofs.lemmas.List.{drop-set, drop_all}
use Rattle.capnp_json.proofs.Digits.{length_step}
use Rattle.capnp_json.proofs.numbers.write_digits.Goals as goal

pub loop-left-init : goal.loop-left-init
loop-left-init c = (length-decimal-le 20 c.args.number (omega arith) (omega arith) (omega arith), omega arith, rw (drop_all 20 c.args.buffer.now (omega arith)) (append-nil (decimal c.args.number)))

pub overflow_sub-at : goal.overflow_sub-at
overflow_sub-at c = omega (arith, length_step c.loop-left.left c.loop-left-test.true c.loop-left.auto.left-fits.fits)

pub loop-left-preserved : goal.loop-left-preserved
loop-left-preserved c =
    let l = c.loop-left in
    let long = length_step c.loop-left.left c.loop-left-test.true c.loop-left.auto.left-fits.fits in
    let e : l.at - 1 + 1 ≡ l.at = omega arith in (
      omega arith,
      omega arith,
      rw (drop-set l.buffer (l.at - 1) (48 + l.left % 10) (omega arith), e) (rw (decimal_step l.left c.loop-left-test.true l.auto.left-fits.fits, append_assoc) at l.invariant.2),
    )

pub overflow_sub-at-2 : goal.overflow_sub-at-2
overflow_sub-at-2 c = omega (arith, ap length (decimal_digit c.loop-left.left (omega arith)))

pub returns-clause-written : goal.returns-clause-written
returns-clause-written c =
    let l = c.loop-left in
    let long = ap length (decimal_digit c.loop-left.left (omega arith)) in
    let e : l.at - 1 + 1 ≡ l.at = omega arith in
    rw (drop-set l.buffer (l.at - 1) (48 + l.left) (omega arith), e) (rw (decimal_digit l.left (omega arith)) at l.invariant.2)
