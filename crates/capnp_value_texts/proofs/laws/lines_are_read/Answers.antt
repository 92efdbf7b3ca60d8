use Rattle.capnp_value_texts.proofs.LinesRead.{lines_read}
use Rattle.capnp_value_texts.proofs.laws.lines_are_read.Goals as goal

pub returns : goal.returns
returns c = lines_read
