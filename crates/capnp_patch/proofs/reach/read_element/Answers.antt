-- An element that is named is read, or there is none, or the test of its type refuses it.
use Rattle.std.proofs.Common.{ap, arith}
use Rattle.std.proofs.lemmas.Result.{err_from_is_err_and}
use Rattle.capnp_schema.specs.Types.{seen_type}
use Rattle.capnp_patch.proofs.Steps.{element_past, element_read_there, element_refused}
use Rattle.capnp_patch.proofs.reach.read_element.Goals as goal

pub returns-then-index-len-clause-read : goal.returns-then-index-len-clause-read
returns-then-index-len-clause-read c =
    λ _. rw (c.in-Element.is, c.from-then-index-len.ensures) (element_past c.args.reader c.in-Element.index c.args.is_last (omega (arith, c.len.ensures, c.if-index-len.true)))

pub returns-in_err-test_type-clause-read : goal.returns-in_err-test_type-clause-read
returns-in_err-test_type-clause-read c =
    let p = err_from_is_err_and c.from_residual.result c.from_residual.ensures.1 in λ _. rw (c.in-Element.is, p.1, p.2)
    (element_refused c.args.reader c.in-Element.index c.args.is_last (omega (arith, c.len.ensures, c.if-index-len.false)) (seen_type c.element_type.result) (ap seen_type c.element_type.ensures) _
    (c.in_err-test_type.ensures _))

pub returns-clause-read : goal.returns-clause-read
returns-clause-read c =
    λ named. rw c.in-Element.is
    (element_read_there c.args.reader c.in-Element.index c.args.is_last (omega (arith, c.len.ensures, c.if-index-len.false)) (seen_type c.element_type.result) (ap seen_type c.element_type.ensures)
    (c.in_ok-test_type.ensures _) c.get.result (c.get.ensures.typed named) c.get.ensures.value)
