use Rattle.capnp_request.proofs.PartsRead.{active_in, same_record}
use Rattle.capnp_request.proofs.parts.sections_at.Goals as goal

pub returns-clause-record : goal.returns-clause-record
returns-clause-record c = same_record c.args.reader c.args.brand c.requires.record

pub returns-clause-active : goal.returns-clause-active
returns-clause-active c = active_in c.args.reader c.args.brand c.args.index c.requires.record c.requires.active
