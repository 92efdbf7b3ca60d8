-- A piece that fits the limit is pushed whole; one that does not is known to be too long by its length alone.
use Rattle.std.specs.Prelude.{string_bytes}
use Rattle.capnp_dynamic_readers.specs.Facts.Written.{known_too_long}
use Rattle.capnp_dynamic_readers.proofs.Pieces.{pushed}
use Rattle.capnp_dynamic_readers.proofs.Streams.{handed_on}
use Rattle.capnp_dynamic_readers.proofs.walk.output.MadeOut.put.Goals as goal

pub returns-in_err-allow-clause-stopped : goal.returns-in_err-allow-clause-stopped
returns-in_err-allow-clause-stopped c =
    handed_on c.from_residual.result _ _ c.from_residual.ensures.1
    (known_too_long c.args.self.now.limit (string_bytes c.args.self.now.text) c.args.piece.now c.in_err-allow.field-0.0 c.in_err-allow.ensures.too_long)

pub returns-in-Ok-clause-put : goal.returns-in-Ok-clause-put
returns-in-Ok-clause-put c =
    pushed c.args.self.now.limit (string_bytes c.args.self.now.text) (string_bytes c.push_str.new.self) c.args.piece.now c.in_ok-allow.ensures.allowed c.in-Ok.ensures.bytes
