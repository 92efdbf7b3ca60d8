use Rattle.std.proofs.Common.{◌∙◌, ap}
use Rattle.capnp_records.specs.Part.{which_of}
use Rattle.capnp_request.proofs.PartsRead.{same_record}
use Rattle.capnp_request.proofs.parts.value_member.Goals as goal

pub returns : goal.returns
returns c = c.member_at.ensures ∙ ap which_of (same_record c.args.reader 22 c.requires)
