use Rattle.capnp_words.proofs.CallsRead.{calls_read}
use Rattle.capnp_words.proofs.laws.calls_are_read.Goals as goal

pub returns : goal.returns
returns c = calls_read
