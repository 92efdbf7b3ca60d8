-- A number below the count is that of a member, whose index lies so far behind the first one's; any other is unknown.
use Rattle.std.proofs.Common.{arith, sym}
use Rattle.capnp_known.proofs.MembersSeen.{member_here, member_past}
use Rattle.capnp_known.proofs.members.member_at.Goals as goal

pub returns-then-number-count : goal.returns-then-number-count
returns-then-number-count g c = sym (member_here g.S.KnownSet.set c.args.reader.now c.args.brand c.args.place c.args.first c.args.count _ c.requires.members c.load_pair-number.ensures c.if-number-count.true)

pub returns : goal.returns
returns g c = sym (member_past g.S.KnownSet.set c.args.reader.now c.args.brand c.args.place c.args.first c.args.count _ c.requires.members c.load_pair-number.ensures (omega (arith, c.if-number-count.false)))
