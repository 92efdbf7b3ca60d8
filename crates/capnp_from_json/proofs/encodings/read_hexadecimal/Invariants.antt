use Rattle.std.proofs.Common.{◌≡◌, length}
use Rattle.capnp_from_json.specs.Encodings.{before_bytes, hex_decoded}
use Rattle.capnp_from_json.proofs.encodings.read_hexadecimal.Given as goal

abbrev pub invariant-pairs : goal.invariant-pairs
invariant-pairs l = hex_decoded l.fn.string ≡ before_bytes l.out.items (hex_decoded l.rest)

abbrev pub decreases-pairs : goal.decreases-pairs
decreases-pairs l = length l.rest
