-- What was put, before what is written of the rest.
use Rattle.std.proofs.Common.{flat_map, length}
use Rattle.capnp_json_text.specs.Writing.{byte_written}
use Rattle.capnp_json.specs.Pieces.{said}
use Rattle.capnp_json.specs.Steps.Puts.{Leads}
use Rattle.capnp_json.proofs.strings.put_contents.Given as goal

abbrev pub invariant-loop-rest : goal.invariant-loop-rest
invariant-loop-rest l = Leads l.fn.out (said (flat_map byte_written l.text)) l.out (said (flat_map byte_written l.rest))

abbrev pub decreases-loop-rest : goal.decreases-loop-rest
decreases-loop-rest l = length l.rest
