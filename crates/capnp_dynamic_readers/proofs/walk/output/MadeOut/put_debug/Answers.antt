-- A form is at least as long as its string. One of ASCII is written and then judged; another is made apart, judged, and pushed.
use Rattle.std.specs.Prelude.{string_bytes}
use Rattle.std.proofs.lemmas.Str.{IsUtf8-string_bytes}
use Rattle.capnp_dynamic_readers.proofs.Pieces.{ascii_put, ascii_too_long, form_too_long, other_put, other_too_long}
use Rattle.capnp_dynamic_readers.proofs.Streams.{handed_on}
use Rattle.capnp_dynamic_readers.proofs.walk.output.MadeOut.put_debug.Goals as goal

pub returns-in_err-allow-clause-stopped : goal.returns-in_err-allow-clause-stopped
returns-in_err-allow-clause-stopped c =
    handed_on c.from_residual.result _ _ c.from_residual.ensures.1
    (form_too_long c.args.self.now.limit (string_bytes c.args.self.now.text) c.args.piece.now c.in_err-allow.field-0.0 c.utf8.piece c.in_err-allow.ensures.too_long)

pub returns-in-Ok-clause-put : goal.returns-in-Ok-clause-put
returns-in-Ok-clause-put c =
    ascii_put c.allow-in-Ok.result c.args.self.now.limit (string_bytes c.args.self.now.text) (string_bytes c.write.new.self) c.args.piece.now c.if-is_ascii.ensures.cases c.in-Ok.ensures.bytes c.allow-in-Ok.ensures.allowed

pub returns-in-Ok-clause-stopped : goal.returns-in-Ok-clause-stopped
returns-in-Ok-clause-stopped c =
    ascii_too_long c.allow-in-Ok.result c.args.self.now.limit (string_bytes c.args.self.now.text) (string_bytes c.write.new.self) c.args.piece.now c.if-is_ascii.ensures.cases c.in-Ok.ensures.bytes c.allow-in-Ok.ensures.too_long

pub returns-in_err-allow-2-clause-stopped : goal.returns-in_err-allow-2-clause-stopped
returns-in_err-allow-2-clause-stopped c =
    handed_on c.from_residual-in_err-allow-2.result _ _ c.from_residual-in_err-allow-2.ensures.1
    (other_too_long c.args.self.now.limit (string_bytes c.args.self.now.text) c.args.piece.now (string_bytes c.write-2.new.self) c.in_err-allow-2.field-0.0 c.if-is_ascii.ensures.cases
    (IsUtf8-string_bytes c.write-2.new.self) (rw c.as_str-form.ensures.value at c.in_err-allow-2.ensures.too_long))

pub returns-in-Ok-push_str-clause-put : goal.returns-in-Ok-push_str-clause-put
returns-in-Ok-push_str-clause-put c =
    other_put c.args.self.now.limit (string_bytes c.args.self.now.text) (string_bytes c.push_str.new.self) c.args.piece.now (string_bytes c.write-2.new.self) c.if-is_ascii.ensures.cases
    (IsUtf8-string_bytes c.write-2.new.self) (rw c.as_str-form.ensures.value at c.in_ok-allow-2.ensures.allowed) (rw c.as_str-form.ensures.value at c.in-Ok-push_str.ensures.bytes)
