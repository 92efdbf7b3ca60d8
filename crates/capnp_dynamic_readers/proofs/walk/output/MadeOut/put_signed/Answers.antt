-- The signed number is written first and judged after: within the limit it is put, and past it the whole is too long.
use Rattle.std.proofs.Common.{string_bytes, rules}
use Rattle.std.specs.Fmt.{signed_decimal}
use Rattle.capnp_dynamic_readers.specs.Facts.Written.{written, written_too_long}
use Rattle.capnp_dynamic_readers.proofs.walk.output.MadeOut.put_signed.Goals as goal

pub returns-in-Ok-clause-put : goal.returns-in-Ok-clause-put
returns-in-Ok-clause-put c =
    written c.allow.result c.args.self.now.limit (string_bytes c.args.self.now.text) (string_bytes c.write.new.self) (signed_decimal c.args.number) (search rules) c.allow.ensures.allowed

pub returns-in-Ok-clause-stopped : goal.returns-in-Ok-clause-stopped
returns-in-Ok-clause-stopped c =
    written_too_long c.allow.result c.args.self.now.limit (string_bytes c.args.self.now.text) (string_bytes c.write.new.self) (signed_decimal c.args.number) (search rules) c.allow.ensures.too_long
