-- The run, the bytes and the print are of one root.
use Rattle.std.proofs.Common.{string_bytes, inl, inr}
use Rattle.std.proofs.lemmas.Result.{err_from_is_err_and}
use Rattle.capnp_arena.specs.Message.{message_tree}
use Rattle.capnp_call.proofs.Starts.{is_root, not_printed, whole}
use Rattle.capnp_call.specs.Messages.{copied_root}
use Rattle.capnp_call.proofs.message.whole_copied.Goals as goal

pub print_message_root-requires-clause-here : goal.print_message_root-requires-clause-here
print_message_root-requires-clause-here c = is_root c.args.schema _ (message_tree c.in_ok-message.field-0.message) c.args.calls.now c.in_ok-message.field-0.replies.items c.in_ok-message.ensures.run

pub returns-in_err-message-clause-cause : goal.returns-in_err-message-clause-cause
returns-in_err-message-clause-cause c =
    let p = err_from_is_err_and c.from_residual.result c.from_residual.ensures.1 in
    rw (p.1, p.2) (λ other. inl (c.in_err-message.ensures.cause other))

pub returns-in_err-bytes-clause-cause : goal.returns-in_err-bytes-clause-cause
returns-in_err-bytes-clause-cause c =
    let p = err_from_is_err_and c.from_residual-in_err-bytes.result c.from_residual-in_err-bytes.ensures.1 in
    rw (p.1, p.2) (λ other. absurd (other c.in_err-bytes.ensures.kind))

pub returns-in_err-print_message_root-clause-cause : goal.returns-in_err-print_message_root-clause-cause
returns-in_err-print_message_root-clause-cause c =
    let p = err_from_is_err_and c.from_residual-in_err-print_message_root.result c.from_residual-in_err-print_message_root.ensures.1 in
    rw (p.1, p.2) (λ other. inr (
      c.in_ok-message.ensures.sound,
      not_printed c.args.schema _ (message_tree c.in_ok-message.field-0.message) c.args.calls.now c.in_ok-message.field-0.replies.items c.in_ok-message.ensures.run c.args.indented _
          c.in_ok-bytes.ensures.held.1 c.in_err-print_message_root.ensures.cause other,
    ))

pub returns-clause-whole : goal.returns-clause-whole
returns-clause-whole c =
    whole c.args.schema _ (message_tree c.in_ok-message.field-0.message) c.args.calls.now c.in_ok-message.field-0.replies.items c.in_ok-bytes.bytes.items c.args.indented (string_bytes c.args.out.now) (string_bytes c.print_message_root.new.out)
    c.in_ok-message.ensures.run (copied_root c.args.schema c.args.source) c.in_ok-message.ensures.made c.in_ok-bytes.ensures.held.1 c.in_ok-bytes.ensures.bytes c.in_ok-bytes.ensures.read c.in_ok-print_message_root.ensures.printed
