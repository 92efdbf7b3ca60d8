use Rattle.capnp_json_text.proofs.ValueSteps.{stands_in_steps}
use Rattle.capnp_json_text.proofs.laws.values_stand_in_steps.Goals as goal

pub returns : goal.returns
returns c = stands_in_steps
