-- The loop keeps that the numbers before `i` are put with commas between; a stop at a comma or a number is one in the whole text.
use Rattle.std.proofs.Common.{ℕ, rules, subst, decimal}
use Rattle.capnp_records.specs.Text.{said_text}
use Rattle.capnp_dynamic_readers.specs.Steps.Pieces.{IsPut, IsStopped}
use Rattle.capnp_dynamic_readers.proofs.Pieces.{comma_stopped, decimal_stopped, decimal_stopped_first, more_decimals, no_decimals}
use Rattle.capnp_dynamic_readers.proofs.Streams.{handed_on}
use Rattle.capnp_dynamic_readers.proofs.walk.leaves.put_decimals.Goals as goal

pub loop-i-preserved : goal.loop-i-preserved
loop-i-preserved g c =
    more_decimals (g.O.Out.text c.args.out.now) (g.O.Out.text c.loop-i.out) (g.O.Out.text c.put.new.self) (g.O.Out.text c.put_unsigned-in-loop-i.new.self) c.args.bytes.now c.loop-i.i
    c.loop-i.auto.i c.loop-i-test.true c.loop-i.invariant c.in_ok-put.ensures.put
    (subst (λ (z : ℕ). IsPut (g.O.Out.text c.put.new.self) (said_text (decimal z)) (g.O.Out.text c.put_unsigned-in-loop-i.new.self)) c.from-in-loop-i.ensures c.in_ok-put_unsigned-2.ensures.put)

pub returns-then-is_empty-clause-put : goal.returns-then-is_empty-clause-put
returns-then-is_empty-clause-put g c = no_decimals (g.O.Out.text c.args.out.now) c.args.bytes.now (search rules)

pub returns-in_err-put_unsigned-clause-stopped : goal.returns-in_err-put_unsigned-clause-stopped
returns-in_err-put_unsigned-clause-stopped g c =
    let stop = c.in_err-put_unsigned.field-0.0 in
    handed_on c.from_residual.result _ stop c.from_residual.ensures.1
    (decimal_stopped_first (g.O.Out.text c.args.out.now) c.args.bytes.now stop (search rules)
    (subst (λ (z : ℕ). IsStopped (g.O.Out.text c.args.out.now) (said_text (decimal z)) stop) c.from.ensures c.in_err-put_unsigned.ensures.stopped))

pub returns-in_err-put-clause-stopped : goal.returns-in_err-put-clause-stopped
returns-in_err-put-clause-stopped g c =
    handed_on c.from_residual-in_err-put.result _ _ c.from_residual-in_err-put.ensures.1
    (comma_stopped (g.O.Out.text c.args.out.now) (g.O.Out.text c.loop-i.out) c.args.bytes.now c.loop-i.i c.in_err-put.field-0.0 c.loop-i.auto.i c.loop-i-test.true c.loop-i.invariant c.in_err-put.ensures.stopped)

pub returns-in_err-put_unsigned-2-clause-stopped : goal.returns-in_err-put_unsigned-2-clause-stopped
returns-in_err-put_unsigned-2-clause-stopped g c =
    let stop = c.in_err-put_unsigned-2.field-0.0 in
    handed_on c.from_residual-in_err-put_unsigned-2.result _ stop c.from_residual-in_err-put_unsigned-2.ensures.1
    (decimal_stopped (g.O.Out.text c.args.out.now) (g.O.Out.text c.loop-i.out) (g.O.Out.text c.put.new.self) c.args.bytes.now c.loop-i.i stop c.loop-i.auto.i c.loop-i-test.true c.loop-i.invariant c.in_ok-put.ensures.put
    (subst (λ (z : ℕ). IsStopped (g.O.Out.text c.put.new.self) (said_text (decimal z)) stop) c.from-in-loop-i.ensures c.in_err-put_unsigned-2.ensures.stopped))
