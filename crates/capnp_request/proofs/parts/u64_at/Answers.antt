use Rattle.capnp_request.proofs.PartsRead.{there}
use Rattle.capnp_request.proofs.parts.u64_at.Goals as goal

pub returns : goal.returns
returns c = there c.args.brand c.args.index c.sections_at-sections.ensures.record c.u64_at.ensures
