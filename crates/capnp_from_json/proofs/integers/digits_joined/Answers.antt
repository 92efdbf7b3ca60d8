use Rattle.capnp_json_text.specs.Decimals.{natural_from}
use Rattle.capnp_from_json.proofs.Digits.{front_not_held}
use Rattle.capnp_from_json.proofs.integers.digits_joined.Goals as goal

pub returns-in-None : goal.returns-in-None
returns-in-None c = front_not_held (natural_from 0 c.args.front.now) c.args.behind.now c.in-None.ensures
