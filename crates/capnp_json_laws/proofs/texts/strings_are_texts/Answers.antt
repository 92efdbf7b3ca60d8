use Rattle.capnp_json_text.specs.Writing.{string_written}
use Rattle.capnp_json_laws.specs.Stands.{IsString}
use Rattle.capnp_json_laws.proofs.Words.{string_value}
use Rattle.capnp_json_laws.proofs.Whole.{value_text}
use Rattle.capnp_json_laws.proofs.texts.strings_are_texts.Goals as goal

pub returns : goal.returns
returns c = λ bytes u. value_text (string_written bytes) (IsString bytes) (string_value bytes u)
