-- The law is a lemma over the definitions.
use Rattle.capnp_request_meaning.proofs.SetsNoted.{notes_tell}
use Rattle.capnp_request_meaning.proofs.laws.notes_tell_what_stands.Goals as goal

pub returns : goal.returns
returns c = notes_tell
