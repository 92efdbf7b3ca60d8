use Rattle.capnp_float_texts.proofs.OneText.{one_text}
use Rattle.capnp_float_texts.proofs.laws.floats_have_one_text.Goals as goal

pub returns : goal.returns
returns c = one_text c.decimals_are_unique.ensures
