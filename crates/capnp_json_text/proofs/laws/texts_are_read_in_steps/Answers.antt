use Rattle.capnp_json_text.proofs.ValueSteps.{read_in_steps}
use Rattle.capnp_json_text.proofs.laws.texts_are_read_in_steps.Goals as goal

pub returns : goal.returns
returns c = read_in_steps
