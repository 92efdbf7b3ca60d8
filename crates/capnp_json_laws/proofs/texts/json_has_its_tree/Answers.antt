use Rattle.capnp_json_laws.specs.Texts.{IsTreeOf}
use Rattle.capnp_json_laws.proofs.Whole.{value_text}
use Rattle.capnp_json_laws.proofs.Written.{json_written}
use Rattle.capnp_json_laws.proofs.texts.json_has_its_tree.Goals as goal

pub returns : goal.returns
returns c = λ set indented p t v bytes fits h. value_text bytes (IsTreeOf set t v) (json_written set indented p t v bytes fits h)
