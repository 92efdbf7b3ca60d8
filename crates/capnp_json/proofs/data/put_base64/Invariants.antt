-- What was put, before what stands for the rest.
use Rattle.std.proofs.Common.{length}
use Rattle.capnp_json.specs.Leaves.{base64_text}
use Rattle.capnp_json.specs.Pieces.{said}
use Rattle.capnp_json.specs.Steps.Puts.{Leads}
use Rattle.capnp_json.proofs.data.put_base64.Given as goal

abbrev pub invariant-loop-rest : goal.invariant-loop-rest
invariant-loop-rest l = Leads l.fn.out (said (base64_text l.bytes)) l.out (said (base64_text l.rest))

abbrev pub decreases-loop-rest : goal.decreases-loop-rest
decreases-loop-rest l = length l.rest
