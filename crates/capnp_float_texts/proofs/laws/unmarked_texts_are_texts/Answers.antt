use Rattle.capnp_float_texts.proofs.Unmarked.{unmarked}
use Rattle.capnp_float_texts.proofs.laws.unmarked_texts_are_texts.Goals as goal

pub returns : goal.returns
returns c = unmarked
