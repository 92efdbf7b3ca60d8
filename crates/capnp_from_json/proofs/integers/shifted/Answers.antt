-- The digits end at the last that isn't 0: behind the point, before it, or nowhere.
-- In each case the natural of those digits is scaled by the powers between.
use Rattle.std.proofs.Common.{ℕ, ◌+◌, ◌-◌, length, List, arith, ◌∙◌, subst, cond, zero-add}
use Rattle.capnp_json_text.specs.Decimals.{natural_from}
use Rattle.capnp_from_json.specs.Steps.Digits.{IsDifference}
use Rattle.capnp_from_json.proofs.Digits.{trimmed_empty}
use Rattle.capnp_from_json.proofs.Scaling.{are_apart, before_point, behind_point, nothing_left, some_there}
use Rattle.capnp_from_json.proofs.integers.shifted.Goals as goal

pub returns-then-kept-gt0 : goal.returns-then-kept-gt0
returns-then-kept-gt0 c = λ below e p.
    let kept : List ℕ = c.trimmed-kept.result.now in
    let d : ℕ = natural_from (natural_from 0 c.args.whole.now) kept in
    let far : IsDifference (0 + c.args.up) (length kept + c.args.down) (0 + cond below 0 e) (length kept + cond below e 0) = are_apart below e c.args.up c.args.down 0 (length kept) (omega arith) (omega arith) p in
    c.scaled.ensures d (cond below 0 e) (length kept + cond below e 0) c.digits_joined.ensures
    (some_there d (c.trimmed-kept.ensures.last c.if-kept-gt0.true (natural_from 0 c.args.whole.now)))
    (subst (λ z. IsDifference z (length kept + c.args.down) (cond below 0 e) (length kept + cond below e 0)) (zero-add c.args.up) (subst (λ z. IsDifference (0 + c.args.up) (length kept + c.args.down) z (length kept + cond below e 0)) (zero-add (cond below 0 e)) far))
    ∙ behind_point c.args.whole.now c.args.fraction.now kept (cond below 0 e) (cond below e 0) c.trimmed-kept.ensures c.if-kept-gt0.true

pub returns-then-front-gt0 : goal.returns-then-front-gt0
returns-then-front-gt0 c = λ below e p.
    let front : List ℕ = c.trimmed-front.result.now in
    let d : ℕ = natural_from 0 front in
    let a : ℕ = length c.args.whole.now - length front in
    let far : IsDifference (a + c.args.up) (0 + c.args.down) (a + cond below 0 e) (0 + cond below e 0) = are_apart below e c.args.up c.args.down a 0 (omega arith) (omega arith) p in
    c.scaled-then-front-gt0.ensures d (a + cond below 0 e) (cond below e 0) c.digits_behind.ensures
    (some_there d (c.trimmed-front.ensures.last c.if-front-gt0.true 0))
    (subst (λ z. IsDifference (a + c.args.up) z (a + cond below 0 e) (cond below e 0)) (zero-add c.args.down) (subst (λ z. IsDifference (a + c.args.up) (0 + c.args.down) (a + cond below 0 e) z) (zero-add (cond below e 0)) far))
    ∙ before_point c.args.whole.now c.args.fraction.now front (cond below 0 e) (cond below e 0) (trimmed_empty c.args.fraction.now c.trimmed-kept.result.now c.trimmed-kept.ensures (omega arith)) c.trimmed-front.ensures c.if-front-gt0.true

pub returns : goal.returns
returns c = λ below e p.
    nothing_left c.args.whole.now c.args.fraction.now (cond below 0 e) (cond below e 0)
    (trimmed_empty c.args.fraction.now c.trimmed-kept.result.now c.trimmed-kept.ensures (omega arith)) (trimmed_empty c.args.whole.now c.trimmed-front.result.now c.trimmed-front.ensures (omega arith))
