-- The message is read as its tree, and that tree as the set.
use Rattle.std.proofs.Common.{ap, ◌∙◌}
use Rattle.std.proofs.lemmas.Result.{err_from_is_err_and}
use Rattle.capnp_wire.specs.Encoding.{message_of}
use Rattle.capnp_schema.specs.Entries.{lists_seen}
use Rattle.capnp_set_writer.proofs.HaveKinds.{set_kinds}
use Rattle.capnp_set_writer.proofs.Sets.{message_read, message_small}
use Rattle.capnp_set_writer.proofs.Trees.{always_ok, if_err, if_ok, no_memory, no_memory_either, on_if_ok, whole_refused}
use Rattle.capnp_set_writer.proofs.set_writer.write_set.Goals as goal

pub returns-clause-written : goal.returns-clause-written
returns-clause-written c = if_ok c.write_message.result (λ v is. is ∙ ap message_of c.in_ok-put_root.ensures.written) c.write_message.ensures.bytes

pub returns-clause-read : goal.returns-clause-read
returns-clause-read c = if_ok c.write_message.result
    (λ v reads. message_read (lists_seen c.args.schemas.now) _ v.items c.in_ok-put_root.ensures.written c.in_ok-put_root.ensures.accepted c.in_ok-put_root.ensures.kept reads)
    c.write_message.ensures.read

pub returns-clause-kinds : goal.returns-clause-kinds
returns-clause-kinds c = always_ok c.write_message.result (set_kinds (lists_seen c.args.schemas.now) c.in_ok-put_root.ensures.kept)

pub returns-clause-fits : goal.returns-clause-fits
returns-clause-fits c = always_ok c.write_message.result c.in_ok-put_root.ensures.fits

pub returns-clause-small : goal.returns-clause-small
returns-clause-small c = on_if_ok c.write_message.result (λ v held. message_small (lists_seen c.args.schemas.now) _ c.in_ok-put_root.ensures.written held) c.write_message.ensures.held

pub returns-clause-cause : goal.returns-clause-cause
returns-clause-cause c = if_err c.write_message.result (λ e h. whole_refused e.kind h) c.write_message.ensures.kind

pub returns-clause-unknown : goal.returns-clause-unknown
returns-clause-unknown c = if_err c.write_message.result (λ e h unknown. absurd (no_memory e.kind h unknown)) c.write_message.ensures.kind

pub returns-clause-past : goal.returns-clause-past
returns-clause-past c = if_err c.write_message.result (λ e h past. absurd (no_memory_either e.kind h past)) c.write_message.ensures.kind

pub returns-in_err-put_root-clause-cause : goal.returns-in_err-put_root-clause-cause
returns-in_err-put_root-clause-cause c =
    let p = err_from_is_err_and c.from_residual-in_err-put_root.result c.from_residual-in_err-put_root.ensures.1 in
    rw (p.1, p.2) (c.in_err-put_root.ensures.cause.0)

pub returns-in_err-put_root-clause-unknown : goal.returns-in_err-put_root-clause-unknown
returns-in_err-put_root-clause-unknown c =
    let p = err_from_is_err_and c.from_residual-in_err-put_root.result c.from_residual-in_err-put_root.ensures.1 in
    rw (p.1, p.2) (c.in_err-put_root.ensures.cause.1)

pub returns-in_err-put_root-clause-past : goal.returns-in_err-put_root-clause-past
returns-in_err-put_root-clause-past c =
    let p = err_from_is_err_and c.from_residual-in_err-put_root.result c.from_residual-in_err-put_root.ensures.1 in
    rw (p.1, p.2) (c.in_err-put_root.ensures.cause.2)
