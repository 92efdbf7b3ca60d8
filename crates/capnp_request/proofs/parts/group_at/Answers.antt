-- A struct under the group's brand is what the record holds at the field.
use Rattle.capnp_request.proofs.FieldsSeen.{group_seen}
use Rattle.capnp_request.specs.Steps.Seen.{record_seen}
use Rattle.capnp_request.proofs.parts.group_at.Goals as goal

pub returns-clause-read : goal.returns-clause-read
unfolding record_seen
returns-clause-read c = group_seen c.args.reader c.args.brand c.args.index c.args.inner c.requires.record c.requires.active c.requires.brand c.requires.field c.requires.group
