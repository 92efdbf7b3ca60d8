-- The loop keeps that the bytes before `i` are put as two digits each; a stop at the high or low digit is one in the whole text.
use Rattle.std.proofs.Common.{arith, get_or}
use Rattle.capnp_dynamic_readers.specs.Steps.Leaf.{two_digits}
use Rattle.capnp_dynamic_readers.proofs.Pieces.{byte_put, digit_stopped, more_put, second_stopped}
use Rattle.capnp_dynamic_readers.proofs.Streams.{handed_on, nothing_put}
use Rattle.capnp_dynamic_readers.proofs.walk.leaves.put_digits.Goals as goal

pub loop-i-init : goal.loop-i-init
loop-i-init g c = nothing_put (g.O.Out.text c.args.out.now)

pub loop-i-preserved : goal.loop-i-preserved
loop-i-preserved g c =
    more_put two_digits (g.O.Out.text c.args.out.now) (g.O.Out.text c.loop-i.out) (g.O.Out.text c.put-in-loop-i.new.self) c.args.bytes.now c.loop-i.i c.loop-i-test.true c.loop-i.invariant
    (byte_put (g.O.Out.text c.loop-i.out) (g.O.Out.text c.put.new.self) (g.O.Out.text c.put-in-loop-i.new.self) (get_or c.args.bytes.now c.loop-i.i 0) _ _ (omega (arith, c.type_inv.bytes c.loop-i.i)) c.digit.ensures c.digit-in-loop-i.ensures
    c.in_ok-put.ensures.put c.in_ok-put-2.ensures.put)

pub returns-in_err-put-clause-stopped : goal.returns-in_err-put-clause-stopped
returns-in_err-put-clause-stopped g c =
    handed_on c.from_residual.result _ _ c.from_residual.ensures.1
    (digit_stopped (g.O.Out.text c.args.out.now) (g.O.Out.text c.loop-i.out) c.args.bytes.now c.loop-i.i _ _ c.in_err-put.field-0.0 c.loop-i-test.true c.digit.ensures c.loop-i.invariant c.in_err-put.ensures.stopped)

pub returns-in_err-put-2-clause-stopped : goal.returns-in_err-put-2-clause-stopped
returns-in_err-put-2-clause-stopped g c =
    handed_on c.from_residual-in_err-put-2.result _ _ c.from_residual-in_err-put-2.ensures.1
    (second_stopped (g.O.Out.text c.args.out.now) (g.O.Out.text c.loop-i.out) (g.O.Out.text c.put.new.self) c.args.bytes.now c.loop-i.i _ _ _ _ c.in_err-put-2.field-0.0 c.loop-i-test.true
    c.digit.ensures c.digit-in-loop-i.ensures c.loop-i.invariant c.in_ok-put.ensures.put c.in_err-put-2.ensures.stopped)
