-- The laws are lemmas over the definitions.
use Rattle.capnp_records.proofs.AllLaws.{clear_inside, group_cleared}
use Rattle.capnp_records.proofs.laws.group_is_cleared.Goals as goal

pub returns-clause-cleared : goal.returns-clause-cleared
returns-clause-cleared c = group_cleared

pub returns-clause-inside : goal.returns-clause-inside
returns-clause-inside c = clear_inside
