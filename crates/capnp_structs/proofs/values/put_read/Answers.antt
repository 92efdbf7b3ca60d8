-- What was read prints as its text, and a refused read has none.
use Rattle.std.proofs.Common.{string_bytes}
use Rattle.capnp_schema.specs.Entries.{lists_seen}
use Rattle.capnp_schema.specs.Types.{seen_type}
use Rattle.capnp_dynamic_readers.specs.Viewed.{view_type}
use Rattle.capnp_structs.proofs.Appended.{on_ok}
use Rattle.capnp_structs.proofs.ValuesSaid.{read_put, read_stopped, unread_put}
use Rattle.capnp_structs.proofs.Stopped.{in_error}
use Rattle.capnp_structs.proofs.values.put_read.Goals as goal

pub returns-in-Ok-clause-put : goal.returns-in-Ok-clause-put
returns-in-Ok-clause-put c =
    on_ok c.put_printed.result
    (read_put c.args.numbers (lists_seen c.args.schemas.now) (seen_type c.args.of) (view_type c.args.value (seen_type c.args.of)) c.args.value c.in-Ok.read c.args.words.now (string_bytes c.args.out.now) (string_bytes c.put_printed.new.out) c.requires.typed
    c.in-Ok.ensures.value (c.in-Ok.ensures.typed c.requires.named))
    c.put_printed.ensures.put

pub returns-in-Err-clause-put : goal.returns-in-Err-clause-put
returns-in-Err-clause-put c =
    on_ok c.put_words.result
    (unread_put c.args.numbers (lists_seen c.args.schemas.now) (seen_type c.args.of) c.args.value _ c.args.words.now (string_bytes c.args.out.now) (string_bytes c.put_words.new.out) c.in-Err.ensures.value)
    c.put_words.ensures.put

pub returns-in-Ok-clause-stopped : goal.returns-in-Ok-clause-stopped
returns-in-Ok-clause-stopped c =
    in_error c.put_printed.result c.args.limit _ _ _ _ c.put_printed.ensures.stopped
    (λ kind h. read_stopped c.args.limit c.args.numbers (lists_seen c.args.schemas.now) (seen_type c.args.of) (view_type c.args.value (seen_type c.args.of)) c.args.value c.in-Ok.read c.args.words.now (string_bytes c.args.out.now) kind
    c.requires.typed c.in-Ok.ensures.value (c.in-Ok.ensures.typed c.requires.named) h)
