use Rattle.std.proofs.Common.{◌≡◌, ◌++◌, length}
use Rattle.capnp_json_text.specs.Contents.{string_content}
use Rattle.capnp_json_text.proofs.contents.read_string.Given as goal

abbrev pub invariant-characters : goal.invariant-characters
invariant-characters l = l.out.items ++ string_content l.rest ≡ string_content l.fn.bytes

abbrev pub decreases-characters : goal.decreases-characters
decreases-characters l = length l.rest
