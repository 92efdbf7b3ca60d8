-- The lists of both sets, those of the second moved behind the ends of the first, are the lists of the joined set.
use Rattle.std.proofs.Common.{All, subst, sym, ◌∙◌}
use Rattle.std.proofs.lemmas.Result.{err_from_is_err_and}
use Rattle.capnp_schema.specs.Accepted.{IsAccepted}
use Rattle.capnp_schema.specs.Entries.{lists_seen}
use Rattle.capnp_schema.specs.Schema.{Schemas}
use Rattle.capnp_schema.specs.Tables.{AreNameTables}
use Rattle.capnp_joined_sets.specs.Joined.{joined}
use Rattle.capnp_joined_sets.specs.Refusals.{BrandFits, EnumFits, NodeFits, NumbersFit}
use Rattle.capnp_joined_sets.proofs.JoinedAccepted.{joined_accepted}
use Rattle.capnp_joined_sets.proofs.JoinedLists.{brands_behind, enums_behind, nodes_behind, seen_as}
use Rattle.capnp_joined_sets.proofs.NameTables.{tables_behind}
use Rattle.capnp_joined_sets.proofs.Refused.{of_whole}
use Rattle.capnp_joined_sets.proofs.owned.join_owned.Goals as goal

pub returns-in_err-nodes-clause-refused : goal.returns-in_err-nodes-clause-refused
returns-in_err-nodes-clause-refused c =
    let p = err_from_is_err_and c.from_residual.result c.from_residual.ensures.1 in rw (p.1, p.2)
    (of_whole _ _ _ (λ (fit : NumbersFit (joined (lists_seen c.args.older) (lists_seen c.args.newer))). subst (All NodeFits)
    (sym (nodes_behind (lists_seen c.args.older) (lists_seen c.args.newer) _ _ c.ends_of-moves.result c.into_lists-first.ensures.is c.into_lists-second.ensures.is c.ends_of-moves.ensures)) fit.nodes)
    c.in_err-nodes.ensures.refused)

pub returns-in_err-brands-clause-refused : goal.returns-in_err-brands-clause-refused
returns-in_err-brands-clause-refused c =
    let p = err_from_is_err_and c.from_residual-in_err-brands.result c.from_residual-in_err-brands.ensures.1 in rw (p.1, p.2)
    (of_whole _ _ _ (λ (fit : NumbersFit (joined (lists_seen c.args.older) (lists_seen c.args.newer))). subst (All BrandFits)
    (sym (brands_behind (lists_seen c.args.older) (lists_seen c.args.newer) _ _ c.ends_of-moves.result c.into_lists-first.ensures.is c.into_lists-second.ensures.is c.ends_of-moves.ensures)) fit.brands)
    c.in_err-brands.ensures.refused)

pub returns-in_err-enums-clause-refused : goal.returns-in_err-enums-clause-refused
returns-in_err-enums-clause-refused c =
    let p = err_from_is_err_and c.from_residual-in_err-enums.result c.from_residual-in_err-enums.ensures.1 in rw (p.1, p.2)
    (of_whole _ _ _ (λ (fit : NumbersFit (joined (lists_seen c.args.older) (lists_seen c.args.newer))). subst (All EnumFits)
    (sym (enums_behind (lists_seen c.args.older) (lists_seen c.args.newer) _ _ c.ends_of-moves.result c.into_lists-first.ensures.is c.into_lists-second.ensures.is c.ends_of-moves.ensures)) fit.enums)
    c.in_err-enums.ensures.refused)

pub of_lists-requires-clause-accepted : goal.of_lists-requires-clause-accepted
of_lists-requires-clause-accepted c =
    let older : Schemas = lists_seen c.args.older in
    let newer : Schemas = lists_seen c.args.newer in
    let first = c.into_lists-first.ensures.is in
    let second = c.into_lists-second.ensures.is in
    let by = c.ends_of-moves.ensures in
    let same = seen_as (joined older newer) c.in_ok-nodes.nodes.items c.in_ok-brands.brands.items c.in_ok-enums.enums.items
    (c.in_ok-nodes.ensures.joined ∙ nodes_behind older newer _ _ c.ends_of-moves.result first second by)
    (c.in_ok-brands.ensures.joined ∙ brands_behind older newer _ _ c.ends_of-moves.result first second by)
    (c.in_ok-enums.ensures.joined ∙ enums_behind older newer _ _ c.ends_of-moves.result first second by) in
    subst IsAccepted (sym same) (joined_accepted older newer c.into_lists-first.ensures.accepted c.into_lists-second.ensures.accepted)

pub of_lists-requires-clause-names : goal.of_lists-requires-clause-names
of_lists-requires-clause-names c =
    let older : Schemas = lists_seen c.args.older in
    let newer : Schemas = lists_seen c.args.newer in
    let first = c.into_lists-first.ensures.is in
    let second = c.into_lists-second.ensures.is in
    let by = c.ends_of-moves.ensures in
    let same = seen_as (joined older newer) c.in_ok-nodes.nodes.items c.in_ok-brands.brands.items c.in_ok-enums.enums.items
    (c.in_ok-nodes.ensures.joined ∙ nodes_behind older newer _ _ c.ends_of-moves.result first second by)
    (c.in_ok-brands.ensures.joined ∙ brands_behind older newer _ _ c.ends_of-moves.result first second by)
    (c.in_ok-enums.ensures.joined ∙ enums_behind older newer _ _ c.ends_of-moves.result first second by) in
    subst (λ (set : Schemas). AreNameTables set c.in_ok-by_name.by_name.items) (sym same)
    (tables_behind older newer c.into_lists-first.result.by_name.items c.into_lists-second.result.by_name.items c.in_ok-by_name.by_name.items c.into_lists-first.ensures.names c.into_lists-second.ensures.names c.in_ok-by_name.ensures.added)
