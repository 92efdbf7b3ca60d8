use Rattle.capnp_json_laws.proofs.RootsBack.{roots_back}
use Rattle.capnp_json_laws.proofs.laws.roots_are_read_back.Goals as goal

pub returns : goal.returns
returns c = roots_back
