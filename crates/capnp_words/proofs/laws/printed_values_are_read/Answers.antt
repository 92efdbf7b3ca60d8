use Rattle.capnp_words.proofs.PrintsRead.{printed_values_read}
use Rattle.capnp_words.proofs.laws.printed_values_are_read.Goals as goal

pub returns : goal.returns
returns c = printed_values_read
