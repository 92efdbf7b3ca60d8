-- The newer set stands, and the sets were compared.
use Rattle.std.proofs.Common.{inl}
use Rattle.std.proofs.lemmas.Result.{err_from_is_err_and}
use Rattle.capnp_schema.specs.Entries.{lists_seen}
use Rattle.riftcalico_core.proofs.whole.report_whole.Goals as goal

pub returns-in-Ok-clause-reported : goal.returns-in-Ok-clause-reported
returns-in-Ok-clause-reported c = record {
  newer = lists_seen c.in_ok-newer.newer;
  read = c.in_ok-newer.ensures.set;
  reported = c.in-Ok.ensures.report;
}

pub returns-in_err-newer-clause-refused : goal.returns-in_err-newer-clause-refused
returns-in_err-newer-clause-refused c =
    let p = err_from_is_err_and c.from_residual.result c.from_residual.ensures.1 in
    rw (p.1, p.2) (λ m. inl (c.in_err-newer.ensures.refused m))
