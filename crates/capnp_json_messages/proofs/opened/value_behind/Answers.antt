use Rattle.std.proofs.Common.{◌≡◌, length, arith, ap}
use Rattle.capnp_json_text.specs.Values.{left, member_value}
use Rattle.capnp_from_json.proofs.Shorter.{value_shorter}
use Rattle.capnp_json_messages.proofs.opened.value_behind.Goals as goal

pub returns-in-Ok-clause-shorter : goal.returns-in-Ok-clause-shorter
returns-in-Ok-clause-shorter c =
    let e : c.in-Ok.rest.now ≡ member_value c.args.bytes.now = ap left c.in-Ok.ensures in
    omega (arith, ap length e, value_shorter c.args.bytes.now)
