-- The laws are lemmas over the definitions.
use Rattle.capnp_records.proofs.ReadBack.{cleared_active, copied_active, starts_at_first}
use Rattle.capnp_records.proofs.laws.groups_are_active.Goals as goal

pub returns-clause-first : goal.returns-clause-first
returns-clause-first c = starts_at_first

pub returns-clause-cleared : goal.returns-clause-cleared
returns-clause-cleared c = cleared_active

pub returns-clause-copied : goal.returns-clause-copied
returns-clause-copied c = copied_active
