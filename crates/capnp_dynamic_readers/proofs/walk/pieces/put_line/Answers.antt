-- Without a depth there is no line. The loop keeps a line break and two spaces for each step; a stop inside is one in the line.
use Rattle.capnp_dynamic_readers.proofs.Streams.{handed_on, line_begun, line_inside, no_line, two_more}
use Rattle.capnp_dynamic_readers.proofs.walk.pieces.put_line.Goals as goal

pub loop-step-preserved : goal.loop-step-preserved
loop-step-preserved g c = two_more (g.O.Out.text c.args.out.now) (g.O.Out.text c.loop-step.out) (g.O.Out.text c.put-in-loop-step.new.self) c.loop-step.step c.loop-step.invariant c.in_ok-put-2.ensures.put

pub returns-in_default-clause-put : goal.returns-in_default-clause-put
returns-in_default-clause-put g c = no_line c.args.at (g.O.Out.text c.args.out.now) c.in_default.not-Some

pub returns-in_err-put-clause-stopped : goal.returns-in_err-put-clause-stopped
returns-in_err-put-clause-stopped g c =
    handed_on c.from_residual.result _ _ c.from_residual.ensures.1
    (line_begun c.args.at c.in-Some.depth (g.O.Out.text c.args.out.now) c.in_err-put.field-0.0 c.in-Some.is c.in_err-put.ensures.stopped)

pub returns-in_err-put-2-clause-stopped : goal.returns-in_err-put-2-clause-stopped
returns-in_err-put-2-clause-stopped g c =
    handed_on c.from_residual-in_err-put-2.result _ _ c.from_residual-in_err-put-2.ensures.1
    (line_inside c.args.at c.in-Some.depth c.loop-step.step (g.O.Out.text c.args.out.now) (g.O.Out.text c.loop-step.out) c.in_err-put-2.field-0.0 c.in-Some.is c.loop-step-test.true c.loop-step.invariant
    c.in_err-put-2.ensures.stopped)
