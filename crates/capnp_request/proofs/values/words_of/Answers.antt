-- The copy has no fault, so the words behind its table are those of the tree at the pointer.
-- A copy is refused as the tree's first fault, its bytes for memory alone.
use Rattle.std.proofs.Common.{◌∙◌, ap, drop}
use Rattle.capnp_arena.specs.Message.{message_tree}
use Rattle.capnp_wire.specs.Standing.{tree_of}
use Rattle.capnp_base.specs.AnyPointer.{pointer_of}
use Rattle.capnp_request.proofs.Refused.{err_if}
use Rattle.capnp_request.proofs.ValuesRead.{words_faulty, words_written}
use Rattle.capnp_request.proofs.values.words_of.Goals as goal

pub returns-clause-read : goal.returns-clause-read
returns-clause-read c =
    words_written (message_tree c.in_ok-message.message) (tree_of (pointer_of c.args.pointer)) c.in_ok-message.ensures.read c.in_ok-message.ensures.sound c.in_ok-bytes.bytes.items _
    c.in_ok-bytes.ensures.held c.in_ok-bytes.ensures.bytes (c.in_ok-words.ensures.read ∙ (c.behind_table-behind.ensures ∙ ap (drop 8) c.as_slice.ensures.value))

pub returns-in_err-message-clause-refused : goal.returns-in_err-message-clause-refused
returns-in_err-message-clause-refused c = err_if _ c.from_residual.result _ c.from_residual.ensures.1 (λ n. words_faulty (tree_of (pointer_of c.args.pointer)) _ (c.in_err-message.ensures.refused n))

pub returns-in_err-bytes-clause-refused : goal.returns-in_err-bytes-clause-refused
returns-in_err-bytes-clause-refused c =
    err_if _ c.from_residual-in_err-bytes.result _ c.from_residual-in_err-bytes.ensures.1 (λ n. absurd (n c.in_err-bytes.ensures.kind))
