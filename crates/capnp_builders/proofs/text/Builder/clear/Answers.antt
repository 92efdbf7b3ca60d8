-- All bytes are zero.
use Rattle.std.proofs.Common.{ℕ, replicate, ap, ◌∙◌}
use Rattle.capnp_builders.specs.Blobs.{text_bytes}
use Rattle.capnp_builders.specs.Steps.Blobs.{written_bytes}
use Rattle.capnp_builders.proofs.Writes.{zeros_written}
use Rattle.capnp_builders.proofs.text.Builder.clear.Goals as goal

pub returns-clause-bytes : goal.returns-clause-bytes
returns-clause-bytes c =
    c.push_zeros.ensures.bytes
    ∙ (ap (λ (n : ℕ). written_bytes (text_bytes c.args.self.now) 0 (replicate n 0)) c.len-count.ensures ∙ zeros_written (text_bytes c.args.self.now))
