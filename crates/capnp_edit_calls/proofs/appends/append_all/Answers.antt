-- The values are listed, and spliced in behind the last element.
use Rattle.std.proofs.lemmas.Result.{err_from_is_err_and}
use Rattle.capnp_wire.specs.Standing.{list_of}
use Rattle.capnp_arena.specs.Message.{message_tree}
use Rattle.capnp_schema.specs.Entries.{lists_seen}
use Rattle.capnp_schema.specs.Types.{seen_type}
use Rattle.capnp_edits.proofs.Results.{if_err, if_ok}
use Rattle.capnp_edit_calls.specs.ChangesSeen.{sources_of}
use Rattle.capnp_edit_calls.proofs.Joins.{appended_list, not_appended, not_listed}
use Rattle.capnp_edit_calls.proofs.appends.append_all.Goals as goal

pub returns-in_err-made-clause-cause : goal.returns-in_err-made-clause-cause
returns-in_err-made-clause-cause c =
    let p = err_from_is_err_and c.from_residual.result c.from_residual.ensures.1 in
    rw (p.1, p.2) (λ other. not_listed (lists_seen c.args.schemas.now) (seen_type c.args.element) (sources_of c.args.values.now) (list_of c.args.list.now) c.in_err-made.field-0.0.kind (c.in_err-made.ensures.cause other))

pub returns-clause-changed : goal.returns-clause-changed
returns-clause-changed c =
    if_ok c.join_lists.result (λ m j. appended_list (lists_seen c.args.schemas.now) (seen_type c.args.element) (sources_of c.args.values.now) (list_of c.args.list.now) (message_tree c.in_ok-made.made) (message_tree m) c.in_ok-made.ensures.listed j) c.join_lists.ensures.joined

pub returns-clause-cause : goal.returns-clause-cause
returns-clause-cause c =
    if_err c.join_lists.result (λ x refused other. not_appended (lists_seen c.args.schemas.now) (seen_type c.args.element) (sources_of c.args.values.now) (list_of c.args.list.now) (message_tree c.in_ok-made.made) x.kind c.in_ok-made.ensures.listed (refused other)) c.join_lists.ensures.cause
