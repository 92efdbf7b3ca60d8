-- The line is that of the bytes read to the source's end. Where the sink fails, a proper beginning of this line has been written.
use Rattle.std.proofs.Common.{◌≡◌, string_bytes}
use Rattle.capnp_device.specs.declared.error.ErrorKind.TheVariants.{WriteFailed}
use Rattle.capnp_schema.specs.Entries.{lists_seen}
use Rattle.capnp_show_engine.specs.Show.{IsLineOf, shown_text}
use Rattle.capnp_show_engine.proofs.Outcomes.{refusal_gives}
use Rattle.capnp_show_engine.proofs.engine.show.Goals as goal

pub returns-clause-beginning : goal.returns-clause-beginning
returns-clause-beginning g c =
    let line = string_bytes c.in_ok-line.line in
    let shown : IsLineOf (shown_text (lists_seen c.args.schemas.now) c.args.brand c.args.indented c.in_ok-bytes.bytes.items) line = rw c.deref.ensures.value at c.in_ok-line.ensures.shown in
    refusal_gives (λ e. e.kind ≡ WriteFailed) c.write_all.result
    (λ w. (c.in_ok-bytes.bytes.items, line, w.0, (c.in_ok-bytes.ensures.whole, c.in_ok-bytes.ensures.to_end), shown, rw (← c.as_bytes.ensures.value) w.1, rw (← c.as_bytes.ensures.value) w.2))
    c.write_all.ensures.beginning
