use Rattle.capnp_json_laws.proofs.RootsBack.{comes_back}
use Rattle.capnp_json_laws.proofs.laws.json_comes_back.Goals as goal

pub returns : goal.returns
returns c = comes_back
