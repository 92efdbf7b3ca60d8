-- The struct that stands there is what the list holds at the index, and a refusal is its fault there.
use Rattle.capnp_request.proofs.ListsRead.{fault_there, record_there}
use Rattle.capnp_request.specs.Steps.Seen.{record_seen}
use Rattle.capnp_request.proofs.parts.element_at.Goals as goal

pub returns-in-Ok-clause-read : goal.returns-in-Ok-clause-read
unfolding record_seen
returns-in-Ok-clause-read c = record_there c.args.list c.args.inner c.args.index c.requires.elements c.in-Ok.sections c.in-Ok.ensures.read c.in-Ok.ensures.levels

pub returns-in-Err-clause-refused : goal.returns-in-Err-clause-refused
returns-in-Err-clause-refused c = fault_there c.args.list c.args.inner c.args.index c.requires.elements c.in-Err.error.kind c.in-Err.ensures.read
