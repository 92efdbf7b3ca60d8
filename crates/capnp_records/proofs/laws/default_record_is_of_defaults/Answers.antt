-- The laws are lemmas over the definitions.
use Rattle.capnp_records.proofs.AllLaws.{default_parts, first_active}
use Rattle.capnp_records.proofs.laws.default_record_is_of_defaults.Goals as goal

pub returns-clause-parts : goal.returns-clause-parts
returns-clause-parts c = default_parts

pub returns-clause-member : goal.returns-clause-member
returns-clause-member c = first_active
