use Rattle.capnp_json_text.proofs.ReadBack.{read_back}
use Rattle.capnp_json_text.proofs.laws.strings_are_read_back.Goals as goal

pub returns : goal.returns
returns c = read_back
