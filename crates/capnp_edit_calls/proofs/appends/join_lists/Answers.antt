-- Why the two are not spliced.
use Rattle.std.proofs.Common.{inr, sym, ◌∙◌}
use Rattle.capnp_wire.specs.Standing.{list_of}
use Rattle.capnp_arena.specs.Message.{message_tree}
use Rattle.capnp_edits.proofs.Plain.{asked_size}
use Rattle.capnp_edits.proofs.Results.{if_err}
use Rattle.capnp_edit_calls.proofs.Joins.{same_refusal}
use Rattle.capnp_edit_calls.proofs.appends.join_lists.Goals as goal

pub returns-clause-cause : goal.returns-clause-cause
returns-clause-cause c =
    let same = same_refusal _ _ _ _ (list_of c.args.old.now) (list_of c.in_ok-added.added) (message_tree c.args.made.now) c.len.result (asked_size c.args.element c.expected_element_size.result c.expected_element_size.ensures) c.find_size.ensures c.in_ok-added.ensures.list c.len.ensures.length in
    if_err c.splice_lists.result (λ x refused other. inr (sym same ∙ refused other)) c.splice_lists.ensures.cause
