-- What is no struct has no sections of its own.
use Rattle.capnp_schema.specs.Entries.{lists_seen}
use Rattle.capnp_schema.specs.Types.{seen_type}
use Rattle.capnp_edits.proofs.Plain.{plain_size, plain_type}
use Rattle.capnp_edits.proofs.added.find_size.Goals as goal

pub returns-in_default : goal.returns-in_default
returns-in_default c = plain_size (lists_seen c.args.schemas.now) (seen_type c.args.element) (plain_type c.args.element c.which.result c.which.ensures c.in_default.not-Struct)
