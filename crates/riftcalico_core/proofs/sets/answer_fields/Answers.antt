-- A text that is refused is longer than it may be, or a value in it has none.
use Rattle.std.proofs.lemmas.Result.{err_from_is_err_and}
use Rattle.riftcalico_core.proofs.sets.answer_fields.Goals as goal

pub returns-in_err-text-clause-refused : goal.returns-in_err-text-clause-refused
returns-in_err-text-clause-refused c =
    let p = err_from_is_err_and c.from_residual.result c.from_residual.ensures.1 in
    rw (p.1, p.2) (λ m. let h = c.in_err-text.ensures.stopped m in record { is = h.0; why = h.1 })
