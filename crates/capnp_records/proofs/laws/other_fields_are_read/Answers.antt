-- The laws are lemmas over the definitions.
use Rattle.capnp_records.proofs.ReadBack.{others_read, others_there, plain_keeps_active}
use Rattle.capnp_records.proofs.laws.other_fields_are_read.Goals as goal

pub returns-clause-read : goal.returns-clause-read
returns-clause-read c = others_read

pub returns-clause-there : goal.returns-clause-there
returns-clause-there c = others_there

pub returns-clause-active : goal.returns-clause-active
returns-clause-active c = plain_keeps_active
