-- The sections are the root record's, so its three lists are the set's.
-- What refuses the list of nodes, brands or enums is a cause in the root.
use Rattle.std.proofs.Common.{ap, sym, ◌∙◌}
use Rattle.std.proofs.lemmas.Result.{err_from_is_err_and}
use Rattle.capnp_sets.specs.Lists.{lists_meant}
use Rattle.capnp_sets.proofs.PartsRead.{there}
use Rattle.capnp_sets.proofs.SetsRead.{brand_refused, brands_refused, enum_refused, node_refused, root_cause, root_in, set_made}
use Rattle.capnp_sets.proofs.sets.read_set.Goals as goal

pub returns-in_err-brand_records-clause-refused : goal.returns-in_err-brand_records-clause-refused
returns-in_err-brand_records-clause-refused c =
    let p = err_from_is_err_and c.from_residual.result c.from_residual.ensures.1 in rw (p.1, p.2)
    (λ _. root_cause c.args.reader _ _ c.requires c.get_sections-sections.ensures (brands_refused _ _ (there _ _ _ c.in_err-brand_records.ensures)))

pub returns-in_err-nodes-clause-refused : goal.returns-in_err-nodes-clause-refused
returns-in_err-nodes-clause-refused c =
    let p = err_from_is_err_and c.from_residual-in_err-nodes.result c.from_residual-in_err-nodes.ensures.1 in rw (p.1, p.2)
    (λ m. root_cause c.args.reader _ _ c.requires c.get_sections-sections.ensures (node_refused _ _ (c.in_err-nodes.ensures.refused m)))

pub returns-in_err-brands-clause-refused : goal.returns-in_err-brands-clause-refused
returns-in_err-brands-clause-refused c =
    let p = err_from_is_err_and c.from_residual-in_err-brands.result c.from_residual-in_err-brands.ensures.1 in rw (p.1, p.2)
    (λ m. root_cause c.args.reader _ _ c.requires c.get_sections-sections.ensures (brand_refused _ c.in_ok-brand_records.brand_records _ (there _ _ _ c.in_ok-brand_records.ensures) (c.in_err-brands.ensures.refused m)))

pub returns-in_err-enums-clause-refused : goal.returns-in_err-enums-clause-refused
returns-in_err-enums-clause-refused c =
    let p = err_from_is_err_and c.from_residual-in_err-enums.result c.from_residual-in_err-enums.ensures.1 in rw (p.1, p.2)
    (λ m. root_cause c.args.reader _ _ c.requires c.get_sections-sections.ensures (enum_refused _ c.in_ok-brand_records.brand_records _ (there _ _ _ c.in_ok-brand_records.ensures) (c.in_err-enums.ensures.refused m)))

pub returns-clause-lists : goal.returns-clause-lists
returns-clause-lists c =
    ap lists_meant (sym (root_in c.args.reader _ c.requires c.get_sections-sections.ensures))
    ∙ set_made _ c.in_ok-brand_records.brand_records _ _ _ (there _ _ _ c.in_ok-brand_records.ensures) c.in_ok-nodes.ensures.read c.in_ok-brands.ensures.read c.in_ok-enums.ensures.read
