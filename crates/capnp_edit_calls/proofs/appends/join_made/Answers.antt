-- Why the two are not joined.
use Rattle.std.proofs.Common.{inr, subst}
use Rattle.capnp_arena.specs.Message.{message_tree}
use Rattle.capnp_schema.specs.Entries.{lists_seen}
use Rattle.capnp_schema.specs.Types.{seen_type}
use Rattle.capnp_wire.specs.Tree.{Tree}
use Rattle.capnp_edits.proofs.Results.{if_err}
use Rattle.capnp_edit_calls.specs.Steps.Joins.{IsJoinRefusal}
use Rattle.capnp_edit_calls.proofs.appends.join_made.Goals as goal

pub returns-clause-cause : goal.returns-clause-cause
returns-clause-cause c =
    if_err c.join_lists.result (λ x refused other. inr (subst (λ (t : Tree). IsJoinRefusal (lists_seen c.args.schemas.now) (seen_type c.args.element) t (message_tree c.args.second.now) x.kind) c.in_ok-old.ensures.list (refused other))) c.join_lists.ensures.cause
