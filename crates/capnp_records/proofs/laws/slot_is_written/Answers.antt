-- The laws are lemmas over the definitions.
use Rattle.capnp_records.proofs.AllLaws.{slot_inside, slot_written}
use Rattle.capnp_records.proofs.laws.slot_is_written.Goals as goal

pub returns-clause-written : goal.returns-clause-written
returns-clause-written c = slot_written

pub returns-clause-inside : goal.returns-clause-inside
returns-clause-inside c = slot_inside
