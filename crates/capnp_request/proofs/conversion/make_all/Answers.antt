-- Making the rest from here, with the steps that are left, is making all.
-- It ends where nothing more is made, and without a step left there are too many types.
use Rattle.std.proofs.Common.{◌≡◌, ◌<◌, ◌+◌, ◌∙◌, [], ap, arith, length, rules, refl, suc, sym, true}
use Rattle.std.proofs.lemmas.Result.{err_from_is_err_and}
use Rattle.capnp_request.specs.Steps.Done.{between}
use Rattle.capnp_request.specs.Steps.Nodes.{nodes_of}
use Rattle.capnp_request.specs.Order.{result_of}
use Rattle.capnp_request.specs.Steps.ProgressSeen.{made_of}
use Rattle.capnp_request.proofs.ProgressMade.{steps_begun, steps_done, steps_more, steps_over, steps_refused}
use Rattle.capnp_request.proofs.conversion.make_all.Goals as goal

pub loop-steps-init : goal.loop-steps-init
loop-steps-init c =
    let count : c.from-steps.result + 65537 ≡ 65536 + suc (length (nodes_of c.args.context.nodes.now)) = omega arith in
    (c.requires.numbers, c.new-progress.ensures.brands, ([], c.new-progress.ensures.holders, steps_begun (nodes_of c.args.context.nodes.now) c.args.context.strict _ _ (between c.args.entries) count c.new-progress.ensures.made))

pub loop-steps-preserved : goal.loop-steps-preserved
loop-steps-preserved c =
    let inv = c.loop-steps.invariant in
    let done = c.in_ok-more.ensures.done inv.2.0 inv.2.1 in
    let some : 0 < c.loop-steps.steps = omega arith in
    let more : c.in_ok-more.more ≡ true = search rules in
    (c.in_ok-more.ensures.numbers, c.in_ok-more.ensures.brands, (done.0, done.1, steps_more (nodes_of c.args.context.nodes.now) c.args.context.strict c.loop-steps.steps (made_of c.loop-steps.progress inv.2.0) (between c.loop-steps.entries) _ inv.2.2 some _ _ _ done.2 more))

pub returns-in_err-more-clause-refused : goal.returns-in_err-more-clause-refused
returns-in_err-more-clause-refused c =
    let inv = c.loop-steps.invariant in
    let some : 0 < c.loop-steps.steps = omega arith in
    let p = err_from_is_err_and c.from_residual.result c.from_residual.ensures.1 in
    rw (p.1, p.2) (λ is. sym inv.2.2 ∙ steps_refused (nodes_of c.args.context.nodes.now) c.args.context.strict c.loop-steps.steps (made_of c.loop-steps.progress inv.2.0) (between c.loop-steps.entries) _ refl some _ (c.in_err-more.ensures.refused inv.2.0 inv.2.1 is))

pub returns-clause-refused : goal.returns-clause-refused
returns-clause-refused c = λ is.
    let inv = c.loop-steps.invariant in
    let none : c.loop-steps.steps ≡ 0 = omega arith in
    steps_over (nodes_of c.args.context.nodes.now) c.args.context.strict c.loop-steps.steps (made_of c.loop-steps.progress inv.2.0) (between c.loop-steps.entries) _ _ inv.2.2 none c.from.ensures

pub returns-then-not-more-clause-read : goal.returns-then-not-more-clause-read
returns-then-not-more-clause-read c =
    let inv = c.loop-steps.invariant in
    let done = c.in_ok-more.ensures.done inv.2.0 inv.2.1 in
    let some : 0 < c.loop-steps.steps = omega arith in
    ap result_of (steps_done (nodes_of c.args.context.nodes.now) c.args.context.strict c.loop-steps.steps (made_of c.loop-steps.progress inv.2.0) (between c.loop-steps.entries) _ inv.2.2 some _ _ _ done.2 c.if-not-more.true)
