-- Whether there are more than 1,024 bytes decides: then the name is refused, and otherwise it is what the copy of its bytes is.
use Rattle.std.proofs.Common.{◌∙◌}
use Rattle.std.proofs.lemmas.Result.{err_from_is_err_and}
use Rattle.capnp_request.proofs.NamesFinished.{finished_short, finished_too_long}
use Rattle.capnp_request.proofs.names.finished.Goals as goal

pub returns-in_err-check_length-clause-refused : goal.returns-in_err-check_length-clause-refused
returns-in_err-check_length-clause-refused c =
    let p = err_from_is_err_and c.from_residual.result c.from_residual.ensures.1 in
    rw (p.1, p.2) (finished_too_long _ _ c.in_err-check_length.ensures.refused)

pub returns-in_err-text-clause-refused : goal.returns-in_err-text-clause-refused
returns-in_err-text-clause-refused c =
    let p = err_from_is_err_and c.from_residual-in_err-text.result c.from_residual-in_err-text.ensures.1 in
    rw (p.1, p.2) (λ is. finished_short c.args.name.now c.in_ok-check_length.ensures.fits ∙ c.in_err-text.ensures.refused is)

pub returns-clause-read : goal.returns-clause-read
returns-clause-read c = finished_short c.args.name.now c.in_ok-check_length.ensures.fits ∙ c.in_ok-text.ensures.read
