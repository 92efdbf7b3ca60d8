-- A text that is there, or the words.
use Rattle.std.proofs.Common.{string_bytes}
use Rattle.capnp_structs.specs.Steps.Values.{shown_text}
use Rattle.capnp_structs.proofs.Appended.{on_ok}
use Rattle.capnp_structs.proofs.Stopped.{stopped_printed}
use Rattle.capnp_structs.proofs.ValuesSaid.{spoken, unspoken}
use Rattle.capnp_structs.proofs.values.put_printed.Goals as goal

pub returns-in-Ok-clause-put : goal.returns-in-Ok-clause-put
returns-in-Ok-clause-put c = spoken (shown_text c.args.numbers c.args.value) c.args.words.now (string_bytes c.args.out.now) (string_bytes c.print_line.new.out) c.in-Ok.ensures.printed

pub returns-in_default-clause-put : goal.returns-in_default-clause-put
returns-in_default-clause-put c =
    on_ok c.put_words.result
    (unspoken (shown_text c.args.numbers c.args.value) c.in-Err.refusal.kind c.args.words.now (string_bytes c.args.out.now) (string_bytes c.print_line.new.out) (string_bytes c.put_words.new.out) (c.in-Err.ensures.refused c.in_default.not-OutOfMemory c.in_default.not-TooLarge) c.in-Err.ensures.unchanged)
    c.put_words.ensures.put

pub returns-in-TooLarge-clause-stopped : goal.returns-in-TooLarge-clause-stopped
returns-in-TooLarge-clause-stopped c =
    stopped_printed c.args.limit (string_bytes c.args.out.now) c.args.words.now (shown_text c.args.numbers c.args.value) c.in-Err.refusal.kind c.in-Err.ensures.too_long c.in-TooLarge.is
