use Rattle.std.proofs.Common.{◌∙◌}
use Rattle.std.proofs.lemmas.Result.{err_from_is_err_and}
use Rattle.capnp_wire_callers.proofs.Steps.{number_refused}
use Rattle.capnp_wire_callers.proofs.path.get_by_path.Goals as goal

pub returns-in_err-get_struct : goal.returns-in_err-get_struct
returns-in_err-get_struct c =
    let p = err_from_is_err_and c.from_residual.result c.from_residual.ensures.1 in
    rw (p.1, p.2) (number_refused _ _ _ _ _ _ c.loop-index-test.true c.in_err-get_struct.ensures.read ∙ c.loop-index.invariant)
