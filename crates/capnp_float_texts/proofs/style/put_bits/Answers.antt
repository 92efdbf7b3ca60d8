-- The text that was appended is the float's one; within the limit it is put, and past it the whole is too long.
use Rattle.std.specs.Prelude.{string_bytes}
use Rattle.capnp_dynamic_readers.specs.Facts.Written.{written, written_too_long}
use Rattle.capnp_float_texts.specs.Numbers.{float_bytes}
use Rattle.capnp_float_texts.proofs.OneText.{float_appended}
use Rattle.capnp_float_texts.proofs.style.put_bits.Goals as goal

pub returns-in-Ok-clause-put : goal.returns-in-Ok-clause-put
returns-in-Ok-clause-put c =
    let old = string_bytes c.args.out.now.text in
    let new = string_bytes c.put_float.new.out in
    written c.allow.result c.args.out.now.limit old new (float_bytes c.args.width c.args.bits) (float_appended c.floats_have_one_text.ensures c.args.width c.args.bits old new c.in-Ok.ensures.put) c.allow.ensures.allowed

pub returns-in-Ok-clause-stopped : goal.returns-in-Ok-clause-stopped
returns-in-Ok-clause-stopped c =
    let old = string_bytes c.args.out.now.text in
    let new = string_bytes c.put_float.new.out in
    written_too_long c.allow.result c.args.out.now.limit old new (float_bytes c.args.width c.args.bits) (float_appended c.floats_have_one_text.ensures c.args.width c.args.bits old new c.in-Ok.ensures.put) c.allow.ensures.too_long
