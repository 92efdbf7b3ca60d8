-- The laws are lemmas over the definitions.
use Rattle.capnp_records.proofs.AllLaws.{group_printed, record_printed, value_printed}
use Rattle.capnp_records.proofs.laws.print_law.Goals as goal

pub returns-clause-records : goal.returns-clause-records
returns-clause-records c = record_printed

pub returns-clause-groups : goal.returns-clause-groups
returns-clause-groups c = group_printed

pub returns-clause-values : goal.returns-clause-values
returns-clause-values c = value_printed
