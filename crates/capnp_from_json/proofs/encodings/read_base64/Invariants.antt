use Rattle.std.proofs.Common.{◌≡◌, length}
use Rattle.capnp_from_json.specs.Encodings.{base64_decoded, before_bytes}
use Rattle.capnp_from_json.proofs.encodings.read_base64.Given as goal

abbrev pub invariant-groups : goal.invariant-groups
invariant-groups l = base64_decoded l.fn.string ≡ before_bytes l.out.items (base64_decoded l.rest)

abbrev pub decreases-groups : goal.decreases-groups
decreases-groups l = length l.rest
