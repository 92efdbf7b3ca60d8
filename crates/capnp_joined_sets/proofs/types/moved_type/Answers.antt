-- A type is its base inside so many lists, and moving it moves the base alone: the moved
-- base with as many lists around is the moved type.
use Rattle.std.proofs.Common.{ap, sym, ◌∙◌}
use Rattle.std.proofs.lemmas.Result.{err_from_is_err_and}
use Rattle.capnp_base.specs.Types.{base_of, list_depth}
use Rattle.capnp_schema.specs.Types.{lists_of, seen_base, seen_type}
use Rattle.capnp_joined_sets.proofs.Lists.{fits_inside, moved_inside}
use Rattle.capnp_joined_sets.proofs.Refused.{of_whole}
use Rattle.capnp_joined_sets.proofs.types.moved_type.Goals as goal

pub returns-in_err-inner-clause-refused : goal.returns-in_err-inner-clause-refused
returns-in_err-inner-clause-refused c =
    let p = err_from_is_err_and c.from_residual.result c.from_residual.ensures.1 in rw (p.1, p.2)
    (of_whole _ _ _ (fits_inside c.args.moves (list_depth c.args.of) (seen_base (base_of c.args.of))) c.in_err-inner.ensures.refused)

pub returns-clause-moved : goal.returns-clause-moved
returns-clause-moved c =
    c.lists_around.ensures
    ∙ ap (λ count. lists_of count (seen_type c.in_ok-inner.inner)) c.count_lists.ensures
    ∙ ap (lists_of (list_depth c.args.of)) c.in_ok-inner.ensures.moved
    ∙ sym (moved_inside c.args.moves (list_depth c.args.of) (seen_base (base_of c.args.of)))
