use Rattle.std.proofs.Common.{◌≡◌, ◌+◌, ◌<◌, ◌^◌, ◌++◌, length}
use denote.Shadow.{shadow}
use denote.Text.{Utf8}
use Rattle.capnp_words.specs.Reads.{read_as}
use Rattle.capnp_words.specs.Paths.{steps_at}
use Rattle.capnp_words.specs.Seen.{steps_seen}
use Rattle.capnp_words.proofs.path.parse_steps.Given as goal

abbrev pub invariant-loop-part : goal.invariant-loop-part
invariant-loop-part l = record {
  read : read_as (λ ss. steps_seen l.steps.items ++ ss) (steps_at l.at l.rest) ≡ steps_at l.place l.word;
  text : shadow (Utf8 l.rest);
  room : l.at + length l.rest < 2 ^ 64;
}

abbrev pub decreases-loop-part : goal.decreases-loop-part
decreases-loop-part l = length l.rest
