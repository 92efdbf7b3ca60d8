use Rattle.std.proofs.Common.{◌≡◌, drop}
use Rattle.capnp_json_text.specs.Readings.{after_blanks}
use Rattle.capnp_json_text.proofs.rest.skip_blanks.Given as goal

abbrev pub invariant-loop-index : goal.invariant-loop-index
invariant-loop-index l = after_blanks (drop l.index l.bytes) ≡ after_blanks l.bytes
