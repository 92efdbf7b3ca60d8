-- The changes of the root's record stand alone.
use Rattle.std.proofs.lemmas.Result.{err_from_is_err_and}
use Rattle.capnp_diffs.proofs.RefusedFields.{root_refused}
use Rattle.capnp_diffs.proofs.Roots.{root_found, root_told}
use Rattle.capnp_diffs.proofs.diff.find_changes.Goals as goal

pub returns-clause-found : goal.returns-clause-found
returns-clause-found c =
    root_found c.args.old c.args.new c.get_schema.result _ _ c.get_schema.ensures c.get_sections.ensures c.get_sections-2.ensures c.new-path.result.items c.new-changes.result.items c.find_in_record.new.out.items c.new-path.ensures.items c.new-changes.ensures.items c.in_ok-find_in_record.ensures.found

pub returns-clause-told : goal.returns-clause-told
returns-clause-told c =
    root_told c.args.old c.args.new c.get_schema.result _ _ c.get_schema.ensures c.get_sections.ensures c.get_sections-2.ensures c.new-path.result.items c.new-changes.result.items c.find_in_record.new.out.items c.in_ok-find_in_record.ensures.found

pub returns-in_err-find_in_record-clause-refused : goal.returns-in_err-find_in_record-clause-refused
returns-in_err-find_in_record-clause-refused c =
    let p = err_from_is_err_and c.from_residual.result c.from_residual.ensures.1 in
    rw (p.1, p.2) (root_refused c.args.old c.args.new c.get_schema.result c.get_sections.result c.get_sections-2.result _ c.get_schema.ensures c.get_sections.ensures c.get_sections-2.ensures c.in_err-find_in_record.ensures.refused)
