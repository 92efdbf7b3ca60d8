-- The unsigned number is written first and judged after: within the limit it is put, and past it the whole is too long.
use Rattle.std.specs.Prelude.{decimal, string_bytes}
use Rattle.capnp_dynamic_readers.specs.Facts.Written.{written, written_too_long}
use Rattle.capnp_dynamic_readers.proofs.walk.output.MadeOut.put_unsigned.Goals as goal

pub returns-in-Ok-clause-put : goal.returns-in-Ok-clause-put
returns-in-Ok-clause-put c =
    written c.allow.result c.args.self.now.limit (string_bytes c.args.self.now.text) (string_bytes c.write.new.self) (decimal c.args.number) c.in-Ok.ensures.bytes c.allow.ensures.allowed

pub returns-in-Ok-clause-stopped : goal.returns-in-Ok-clause-stopped
returns-in-Ok-clause-stopped c =
    written_too_long c.allow.result c.args.self.now.limit (string_bytes c.args.self.now.text) (string_bytes c.write.new.self) (decimal c.args.number) c.in-Ok.ensures.bytes c.allow.ensures.too_long
