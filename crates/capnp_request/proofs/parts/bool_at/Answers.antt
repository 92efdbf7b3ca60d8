use Rattle.capnp_request.proofs.PartsRead.{there}
use Rattle.capnp_request.proofs.parts.bool_at.Goals as goal

pub returns : goal.returns
returns c = there c.args.brand c.args.index c.sections_at-sections.ensures.record c.bool_at.ensures
