use Rattle.std.proofs.Common.{◌≡◌, length}
use Rattle.capnp_json_text.specs.Strings.{after_string}
use Rattle.capnp_json_text.proofs.strings.skip_string.Given as goal

abbrev pub invariant-characters : goal.invariant-characters
invariant-characters l = after_string l.rest ≡ after_string l.fn.bytes

abbrev pub decreases-characters : goal.decreases-characters
decreases-characters l = length l.rest
