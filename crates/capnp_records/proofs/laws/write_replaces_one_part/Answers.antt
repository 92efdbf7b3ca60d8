-- The law is a lemma over the definitions.
use Rattle.capnp_records.proofs.AllLaws.{part_replaced}
use Rattle.capnp_records.proofs.laws.write_replaces_one_part.Goals as goal

pub returns : goal.returns
returns c = part_replaced
