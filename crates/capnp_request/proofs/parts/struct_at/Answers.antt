-- The pointer's struct is what the record holds at the field, of the brand that the slot's type names.
-- A refusal is the field's fault.
use Rattle.capnp_request.proofs.PartsRead.{there}
use Rattle.capnp_request.proofs.PointersSeen.{fault_kinds, struct_there}
use Rattle.capnp_request.specs.Steps.Seen.{record_seen}
use Rattle.capnp_request.proofs.parts.struct_at.Goals as goal

pub returns-in-Ok-clause-read : goal.returns-in-Ok-clause-read
unfolding record_seen
returns-in-Ok-clause-read c = struct_there c.args.brand c.args.index c.args.inner c.sections_at-sections.ensures.record c.in-Ok.found c.in-Ok.ensures

pub returns-in-Err-clause-refused : goal.returns-in-Err-clause-refused
returns-in-Err-clause-refused c = there c.args.brand c.args.index c.sections_at-sections.ensures.record c.in-Err.ensures

pub returns-in-Err-clause-kinds : goal.returns-in-Err-clause-kinds
returns-in-Err-clause-kinds c = fault_kinds c.in-Err.error.kind c.args.reader c.args.brand c.args.index (there c.args.brand c.args.index c.sections_at-sections.ensures.record c.in-Err.ensures)
