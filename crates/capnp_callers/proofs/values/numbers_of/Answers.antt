-- What was read so far, one number more, and all.
use Rattle.std.proofs.Common.{Ok, length, ap, arith, sym, ◌∙◌}
use Rattle.std.proofs.lemmas.Result.{err_from_is_err_and}
use Rattle.capnp_base.specs.IndexIter.{source, to_come}
use Rattle.capnp_callers.specs.Values.{built_count}
use Rattle.capnp_callers.proofs.ListNumbers.{element_mismatched, element_refused, next_element, no_index, read_on}
use Rattle.capnp_callers.proofs.values.numbers_of.Goals as goal

pub returns-in_err-number-clause-refused : goal.returns-in_err-number-clause-refused
returns-in_err-number-clause-refused c =
    let before = c.loop-element in
    let step = c.in-Some.ensures.steps in
    let read = length before.numbers.items in
    let next = next_element c.args.list read (source before.element-iterator) (to_come before.element-iterator) (to_come c.next.new.self) step.0 c.in-Some.element before.invariant.0 before.invariant.1 step.1 step.2 in
    let p = err_from_is_err_and c.from_residual.result c.from_residual.ensures.1 in
    rw (p.1, p.2) (λ other. element_refused c.args.list before.numbers.items before.invariant.3 c.in-Some.element (to_come c.next.new.self) next c.in_err-number.field-0.0 c.in_err-number.was)

pub loop-element-preserved : goal.loop-element-preserved
loop-element-preserved c =
    let before = c.loop-element in
    let step = c.in-Some.ensures.steps in
    let read = length before.numbers.items in
    let next = next_element c.args.list read (source before.element-iterator) (to_come before.element-iterator) (to_come c.next.new.self) step.0 c.in-Some.element before.invariant.0 before.invariant.1 step.1 step.2 in
    let on = read_on c.args.list before.numbers.items c.push.new.self.items c.in-UInt16.number c.in-Some.element (to_come c.next.new.self) next (c.in_ok-number.was ∙ ap Ok c.in-UInt16.is) c.in_ok-push-in-UInt16.ensures.items before.invariant.3 in
    (step.3 ∙ before.invariant.0, on.0, on.1, on.2)

pub returns-in_default : goal.returns-in_default
returns-in_default c =
    let before = c.loop-element in
    let step = c.in-Some.ensures.steps in
    let read = length before.numbers.items in
    let next = next_element c.args.list read (source before.element-iterator) (to_come before.element-iterator) (to_come c.next.new.self) step.0 c.in-Some.element before.invariant.0 before.invariant.1 step.1 step.2 in
    record {
      numbers = tt;
      refused = λ other. element_mismatched c.args.list before.numbers.items before.invariant.3 c.in-Some.element (to_come c.next.new.self) next c.in_ok-number.field-0 c.type_mismatch.result.kind c.in_ok-number.was c.in_default.not-UInt16 c.type_mismatch.ensures;
    }

pub returns-clause-numbers : goal.returns-clause-numbers
returns-clause-numbers c =
    let so-far = c.loop-element.invariant in
    let left = no_index (length c.loop-element.numbers.items) (built_count c.args.list) (sym so-far.1 ∙ c.in-None.ensures.steps.0) in
    let most = so-far.2 in
    (omega (arith, left, most), so-far.3)
