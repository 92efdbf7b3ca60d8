use Rattle.capnp_json_text.proofs.LocalTexts.{refused_there}
use Rattle.capnp_json_text.proofs.laws.refused_bytes_stay_refused.Goals as goal

pub returns : goal.returns
returns c = refused_there
