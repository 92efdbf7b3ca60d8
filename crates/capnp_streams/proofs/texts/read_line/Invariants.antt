-- The bytes so far were read, and none of them is a line feed.
use Rattle.std.proofs.Common.{ℕ, ◌≡◌, ◌≢◌, ◌-◌, ◌^◌, All, vec_len}
use Rattle.std.specs.Io.KnownBytes.{Consumes}
use Rattle.capnp_streams.proofs.texts.read_line.Given as goal

abbrev pub invariant-bytes : goal.invariant-bytes
invariant-bytes g l = record {
  taken : Consumes (g.S.Source.left l.initial.source) (g.S.Source.left l.source) l.line.items;
  plain : All (λ (b : ℕ). b ≢ 10) l.line.items;
  worked : g.S.Source.failures l.source ≡ g.S.Source.failures l.initial.source;
}

abbrev pub decreases-bytes : goal.decreases-bytes
decreases-bytes g l = 2 ^ 64 - vec_len l.line
