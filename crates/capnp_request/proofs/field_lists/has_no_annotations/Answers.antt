-- A list without elements says that there are no annotations.
use Rattle.std.proofs.Common.{◌≤◌, ◌∙◌, ap, arith, sym, Ok}
use Rattle.std.proofs.lemmas.Bool.Decides.{nat_tests}
use Rattle.capnp_request.specs.Reading.{annotation_said, list_said}
use Rattle.capnp_request.proofs.ListsRead.{count_of, each_none, each_whole}
use Rattle.capnp_request.proofs.field_lists.has_no_annotations.Goals as goal

pub returns-in-Ok : goal.returns-in-Ok
returns-in-Ok c = λ e.
    let none : count_of c.in-Ok.listed ≤ 0 = grind (arith, nat_tests, e, c.len.ensures) in
    ap (list_said 12 annotation_said) (sym c.in-Ok.ensures.read) ∙ (each_whole 12 annotation_said c.in-Ok.listed ∙ ap Ok (each_none 12 annotation_said c.in-Ok.listed 0 none))
