-- The laws are lemmas over the definitions.
use Rattle.capnp_records.proofs.ReadBack.{content_is_read, copy_read, data_read, number_read, text_read, written_active}
use Rattle.capnp_records.proofs.laws.written_slots_are_read.Goals as goal

pub returns-clause-content : goal.returns-clause-content
returns-clause-content c = content_is_read

pub returns-clause-numbers : goal.returns-clause-numbers
returns-clause-numbers c = number_read

pub returns-clause-copies : goal.returns-clause-copies
returns-clause-copies c = copy_read

pub returns-clause-texts : goal.returns-clause-texts
returns-clause-texts c = text_read

pub returns-clause-data : goal.returns-clause-data
returns-clause-data c = data_read

pub returns-clause-active : goal.returns-clause-active
returns-clause-active c = written_active
