-- Making the rest from here, with the steps that are left, is making all, and what the steps so far made has the bytes that are
-- no more left. So where a step makes more than those, the first steps make more than the limit.
use Rattle.std.proofs.Common.{◌≡◌, ◌<◌, ◌+◌, ◌∙◌, [], ap, arith, inl, length, rules, suc, true}
use Rattle.std.proofs.lemmas.Result.{err_from_is_err_and}
use Rattle.capnp_request.specs.Steps.Done.{between}
use Rattle.capnp_request.specs.Steps.Nodes.{nodes_of}
use Rattle.capnp_request.specs.Order.{Made, result_of, schemas_made}
use Rattle.capnp_request.specs.Sizes.{lists_bytes}
use Rattle.capnp_request.specs.Steps.ProgressSeen.{made_of}
use Rattle.capnp_request.specs.Steps.Sizes.{made_bytes}
use Rattle.capnp_request.proofs.ProgressMade.{steps_begun, steps_done, steps_more, steps_over}
use Rattle.capnp_request.proofs.WithinSteps.{all_refused, so_begun, so_more}
use Rattle.capnp_request.proofs.within.make_all_within.Goals as goal

pub loop-steps-init : goal.loop-steps-init
loop-steps-init c =
    let count : c.from-steps.result + 65537 ≡ 65536 + suc (length (nodes_of c.args.context.nodes.now)) = omega arith in
    let none : made_bytes c.new-progress.result.made ≡ 0 = ap (λ (m : Made). lists_bytes (schemas_made m)) c.new-progress.ensures.made in (
      c.requires.numbers,
      c.new-progress.ensures.brands,
      omega (arith, none),
      (
        [],
        c.new-progress.ensures.holders,
        steps_begun (nodes_of c.args.context.nodes.now) c.args.context.strict _ _ (between c.args.entries) count c.new-progress.ensures.made,
        (0, so_begun (nodes_of c.args.context.nodes.now) c.args.context.strict _ (between c.args.entries) c.new-progress.ensures.made),
      ),
    )

pub loop-steps-preserved : goal.loop-steps-preserved
loop-steps-preserved c =
    let inv = c.loop-steps.invariant in
    let done = c.in_ok-more.ensures.done inv.3.0 inv.3.1 in
    let some : 0 < c.loop-steps.steps = omega arith in
    let more : c.in_ok-more.more ≡ true = search rules in (
      c.in_ok-more.ensures.numbers,
      c.in_ok-more.ensures.brands,
      c.in_ok-more.ensures.left ∙ inv.2,
      (
        done.0,
        done.1,
        steps_more (nodes_of c.args.context.nodes.now) c.args.context.strict c.loop-steps.steps (made_of c.loop-steps.progress inv.3.0) (between c.loop-steps.entries) _ inv.3.2 some _ _ _ done.2 more,
        (inv.3.3.0 + 1, so_more (nodes_of c.args.context.nodes.now) c.args.context.strict (between c.args.entries) inv.3.3.0 (made_of c.loop-steps.progress inv.3.0) (between c.loop-steps.entries) inv.3.3.1 _ _ _ done.2 more),
      ),
    )

pub returns-in_err-more-clause-refused : goal.returns-in_err-more-clause-refused
returns-in_err-more-clause-refused c =
    let inv = c.loop-steps.invariant in
    let some : 0 < c.loop-steps.steps = omega arith in
    let p = err_from_is_err_and c.from_residual.result c.from_residual.ensures.1 in
    rw (p.1, p.2) (λ is. all_refused (nodes_of c.args.context.nodes.now) c.args.context.strict c.loop-steps.steps (made_of c.loop-steps.progress inv.3.0) (between c.loop-steps.entries) _ inv.3.2 some
    (between c.args.entries) inv.3.3.0 inv.3.3.1 c.args.limit c.loop-steps.left (made_bytes c.loop-steps.progress.made) inv.2 c.make_next_within.new.progress (between c.make_next_within.new.entries) _ (c.in_err-more.ensures.refused inv.3.0 inv.3.1 is))

pub returns-clause-refused : goal.returns-clause-refused
returns-clause-refused c = λ is.
    let inv = c.loop-steps.invariant in
    let none : c.loop-steps.steps ≡ 0 = omega arith in
    inl (steps_over (nodes_of c.args.context.nodes.now) c.args.context.strict c.loop-steps.steps (made_of c.loop-steps.progress inv.3.0) (between c.loop-steps.entries) _ _ inv.3.2 none c.from.ensures)

pub returns-then-not-more-clause-read : goal.returns-then-not-more-clause-read
returns-then-not-more-clause-read c =
    let inv = c.loop-steps.invariant in
    let done = c.in_ok-more.ensures.done inv.3.0 inv.3.1 in
    let some : 0 < c.loop-steps.steps = omega arith in
    ap result_of (steps_done (nodes_of c.args.context.nodes.now) c.args.context.strict c.loop-steps.steps (made_of c.loop-steps.progress inv.3.0) (between c.loop-steps.entries) _ inv.3.2 some _ _ _ done.2 c.if-not-more.true)

pub returns-then-not-more-clause-within : goal.returns-then-not-more-clause-within
returns-then-not-more-clause-within c = omega (arith, c.in_ok-more.ensures.left, c.loop-steps.invariant.2)
