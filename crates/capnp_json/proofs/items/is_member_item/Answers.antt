use Rattle.std.proofs.Common.{arith}
use Rattle.capnp_json.proofs.ItemsJson.{shown_of_another, shown_of_first}
use Rattle.capnp_json.proofs.items.is_member_item.Goals as goal

pub returns-then-get_proto-ne0 : goal.returns-then-get_proto-ne0
returns-then-get_proto-ne0 c = shown_of_another c.args.reader c.args.member c.requires.field _ c.get_proto.ensures (λ e. omega (arith, c.if-get_proto-ne0.true, e))

pub returns : goal.returns
returns c = shown_of_first c.args.reader c.args.member c.requires.field _ c.get_proto.ensures c.is_member_there.result (omega (arith, c.if-get_proto-ne0.false)) c.is_member_there.ensures
