-- The laws are lemmas over the definitions.
use Rattle.capnp_records.proofs.AllLaws.{extension_same, rounding_same}
use Rattle.capnp_records.proofs.laws.extension_changes_nothing.Goals as goal

pub returns-clause-extended : goal.returns-clause-extended
returns-clause-extended c = extension_same

pub returns-clause-rounded : goal.returns-clause-rounded
returns-clause-rounded c = rounding_same
