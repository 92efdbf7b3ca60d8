-- What was put, before the digits that are left.
use Rattle.std.proofs.Common.{drop}
use Rattle.capnp_json.specs.Leaves.{hex_text}
use Rattle.capnp_json.specs.Pieces.{said}
use Rattle.capnp_json.specs.Steps.Puts.{Leads}
use Rattle.capnp_json.proofs.data.put_hex.Given as goal

abbrev pub invariant-loop-index : goal.invariant-loop-index
invariant-loop-index l = Leads l.fn.out (said (hex_text l.bytes)) l.out (said (hex_text (drop l.index l.bytes)))
