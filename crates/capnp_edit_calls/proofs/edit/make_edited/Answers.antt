-- No list is found, or the list is not changed so.
use Rattle.std.proofs.Common.{ap}
use Rattle.std.proofs.lemmas.Result.{err_from_is_err_and}
use Rattle.capnp_arena.specs.Built.{built_at}
use Rattle.capnp_wire.specs.Standing.{list_of}
use Rattle.capnp_schema.specs.Types.{seen_type}
use Rattle.capnp_call.specs.Seen.{path_seen}
use Rattle.capnp_edit_calls.specs.ChangesSeen.{change_seen}
use Rattle.capnp_edit_calls.proofs.Found.{unchanged_refusal, unfound}
use Rattle.capnp_edit_calls.proofs.edit.make_edited.Goals as goal

pub returns-in_err-found-clause-cause : goal.returns-in_err-found-clause-cause
returns-in_err-found-clause-cause c =
    let p = err_from_is_err_and c.from_residual.result c.from_residual.ensures.1 in
    rw (p.1, p.2) (λ other. unfound c.args.schema (built_at c.args.arena.now c.args.place) (path_seen c.args.edit.now.path.now) (change_seen c.args.edit.now.change) c.in_err-found.field-0.0.kind c.in_err-found.ensures.cause)

pub returns-in_err-list-clause-cause : goal.returns-in_err-list-clause-cause
returns-in_err-list-clause-cause c =
    let p = err_from_is_err_and c.from_residual-in_err-list.result c.from_residual-in_err-list.ensures.1 in
    rw (p.1, p.2) (λ other. unchanged_refusal c.args.schema (built_at c.args.arena.now c.args.place) (path_seen c.args.edit.now.path.now) (change_seen c.args.edit.now.change) c.in_err-list.field-0.0.kind
    _ _ _ c.in_ok-found.found c.get_set.ensures (ap seen_type c.element_type-element.ensures) (ap list_of c.get_elements.ensures) c.in_ok-found.ensures.there (c.in_err-list.ensures.cause other))
