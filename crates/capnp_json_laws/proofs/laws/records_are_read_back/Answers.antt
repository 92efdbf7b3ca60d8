use Rattle.capnp_json_laws.proofs.RecordsBack.{records_back}
use Rattle.capnp_json_laws.proofs.laws.records_are_read_back.Goals as goal

pub returns : goal.returns
returns c = records_back
