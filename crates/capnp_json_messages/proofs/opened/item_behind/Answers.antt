use Rattle.std.specs.Option.{option_map}
use Rattle.capnp_json_messages.proofs.Behind.{fewer_behind}
use Rattle.capnp_json_messages.proofs.opened.item_behind.Goals as goal

pub returns-in-Ok-clause-fewer : goal.returns-in-Ok-clause-fewer
returns-in-Ok-clause-fewer c = fewer_behind (option_map (λ x. x.now) c.in-Ok.next) c.args.bytes.now c.in-Ok.ensures.next
