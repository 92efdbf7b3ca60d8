use Rattle.capnp_json_laws.proofs.Shaped.{readers_shaped}
use Rattle.capnp_json_laws.proofs.laws.readers_are_shaped.Goals as goal

pub returns : goal.returns
returns c = readers_shaped
