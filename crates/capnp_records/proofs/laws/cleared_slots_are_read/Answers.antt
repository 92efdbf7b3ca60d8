-- The law is a lemma over the definitions.
use Rattle.capnp_records.proofs.ReadBack.{clear_read}
use Rattle.capnp_records.proofs.laws.cleared_slots_are_read.Goals as goal

pub returns : goal.returns
returns c = clear_read
