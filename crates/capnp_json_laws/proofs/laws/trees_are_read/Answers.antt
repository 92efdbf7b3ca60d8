use Rattle.capnp_json_laws.proofs.RecordsRead.{value_is_read}
use Rattle.capnp_json_laws.proofs.laws.trees_are_read.Goals as goal

pub returns : goal.returns
returns c = λ rules levels is_float form p t v j fair marked fits room tree. value_is_read rules fair levels is_float form p t v j marked fits room tree
