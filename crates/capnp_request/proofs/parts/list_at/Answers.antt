-- The pointer's list is what the record holds at the field, as the elements of the slot's type are structs of the brand.
-- A refusal is the field's fault.
use Rattle.std.proofs.Common.{refl, subst, sym}
use Rattle.capnp_records.specs.Facts.ReadFaults.{Sound}
use Rattle.capnp_request.specs.Steps.Seen.{record_seen}
use Rattle.capnp_request.proofs.PartsRead.{there}
use Rattle.capnp_request.proofs.PointersSeen.{fault_kinds, list_there}
use Rattle.capnp_request.proofs.Sounds.{read_at_sound, seen_sound}
use Rattle.capnp_request.proofs.parts.list_at.Goals as goal

pub returns-in-Ok-clause-read : goal.returns-in-Ok-clause-read
returns-in-Ok-clause-read c = list_there c.args.brand c.args.index c.args.inner c.sections_at-sections.ensures.record c.in-Ok.elements c.in-Ok.ensures

pub returns-in-Ok-clause-elements : goal.returns-in-Ok-clause-elements
returns-in-Ok-clause-elements c = record {
  number = refl;
  sound = subst Sound (sym (returns-in-Ok-clause-read c)) (read_at_sound c.args.brand c.args.index (record_seen c.args.reader) (seen_sound c.args.reader));
}

pub returns-in-Err-clause-refused : goal.returns-in-Err-clause-refused
returns-in-Err-clause-refused c = there c.args.brand c.args.index c.sections_at-sections.ensures.record c.in-Err.ensures

pub returns-in-Err-clause-kinds : goal.returns-in-Err-clause-kinds
returns-in-Err-clause-kinds c = fault_kinds c.in-Err.error.kind c.args.reader c.args.brand c.args.index (there c.args.brand c.args.index c.sections_at-sections.ensures.record c.in-Err.ensures)
