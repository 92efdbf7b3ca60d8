-- The break leads on to two spaces for each bracket, and two spaces to those of the steps that are left.
-- After the last step none is left.
use Rattle.std.proofs.Common.{Err, Ok, [], arith, replicate, subst, ℕ, ◌*◌, ◌+◌, ◌-◌, ◌∷◌, ◌≡◌}
use Rattle.capnp_json.specs.Pieces.{said}
use Rattle.capnp_json.specs.Steps.Puts.{Leads}
use Rattle.capnp_json.proofs.LineSteps.{none_left, two_left, two_stopped}
use Rattle.capnp_json.proofs.Puts.{then_bytes, two_first}
use Rattle.capnp_json.proofs.lines.put_spaces.Goals as goal

pub returns-in-Err-clause-stopped : goal.returns-in-Err-clause-stopped
returns-in-Err-clause-stopped c = two_first c.args.out.now (10 ∷ []) (replicate (2 * c.args.depth) 32) c.in-Err.why c.in-Err.ensures.stopped

pub loop-step-init : goal.loop-step-init
loop-step-init c =
    let e : c.args.depth ≡ c.args.depth - 0 = omega arith in
    subst (λ (n : ℕ). Leads c.args.out.now (said (10 ∷ replicate (2 * c.args.depth) 32)) c.put.new.self (said (replicate (2 * n) 32))) e
    (then_bytes c.args.out.now c.put.new.self (10 ∷ []) (replicate (2 * c.args.depth) 32) c.in_default.ensures.put)

pub loop-step-preserved : goal.loop-step-preserved
loop-step-preserved c = λ r h.
    let e : c.args.depth - c.loop-step.step ≡ c.args.depth - (c.loop-step.step + 1) + 1 = omega arith in
    c.loop-step.invariant r (two_left c.loop-step.out c.put-in-loop-step.new.self (c.args.depth - c.loop-step.step) (c.args.depth - (c.loop-step.step + 1)) e c.in_default-put.ensures.put r h)

pub returns-in-Err-put-clause-stopped : goal.returns-in-Err-put-clause-stopped
returns-in-Err-put-clause-stopped c =
    let e : c.args.depth - c.loop-step.step ≡ c.args.depth - (c.loop-step.step + 1) + 1 = omega arith in
    c.loop-step.invariant (Err c.in-Err-put.why) (two_stopped c.loop-step.out (c.args.depth - c.loop-step.step) (c.args.depth - (c.loop-step.step + 1)) c.in-Err-put.why e c.in-Err-put.ensures.stopped)

pub returns-clause-put : goal.returns-clause-put
returns-clause-put c =
    let e : c.args.depth - c.loop-step.step ≡ 0 = omega arith in
    c.loop-step.invariant (Ok c.loop-step.out) (none_left c.loop-step.out (c.args.depth - c.loop-step.step) e)
