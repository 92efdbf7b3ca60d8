-- So many lines of blanks were read.
use Rattle.std.proofs.Common.{◌≡◌, ◌-◌, ◌<◌, ◌^◌}
use Rattle.capnp_streams.specs.Texts.{AreBlanksRead}
use Rattle.capnp_streams.proofs.texts.try_read_text.Given as goal

abbrev pub invariant-lines : goal.invariant-lines
invariant-lines g l = record {
  blanks_read : AreBlanksRead l.blanks (g.S.Source.left l.initial.source) (g.S.Source.left l.source);
  small : l.blanks < 2 ^ 64;
  worked : g.S.Source.failures l.source ≡ g.S.Source.failures l.initial.source;
}

abbrev pub decreases-lines : goal.decreases-lines
decreases-lines g l = 2 ^ 64 - l.blanks
