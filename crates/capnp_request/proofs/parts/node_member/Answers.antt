-- A number below six is that of a member, whose index lies five behind it; any other is unknown.
use Rattle.std.proofs.Common.{arith, ap, ◌∙◌}
use Rattle.capnp_records.specs.Part.{which_of}
use Rattle.capnp_request.proofs.MembersSeen.{node_member_here, node_member_past}
use Rattle.capnp_request.proofs.PartsRead.{same_record}
use Rattle.capnp_request.proofs.parts.node_member.Goals as goal

pub returns-then-number-lt6 : goal.returns-then-number-lt6
returns-then-number-lt6 c = node_member_here c.args.reader.sections c.load_pair-number.result c.load_pair-number.ensures c.if-number-lt6.true ∙ ap which_of (same_record c.args.reader 2 c.requires)

pub returns : goal.returns
returns c = node_member_past c.args.reader.sections c.load_pair-number.result c.load_pair-number.ensures (omega (arith, c.if-number-lt6.false)) ∙ ap which_of (same_record c.args.reader 2 c.requires)
