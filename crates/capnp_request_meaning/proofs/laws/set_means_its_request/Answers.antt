-- The laws are lemmas over the definitions.
use Rattle.capnp_request_meaning.proofs.SetsMeant.{record_meant, set_meant}
use Rattle.capnp_request_meaning.proofs.laws.set_means_its_request.Goals as goal

pub returns-clause-terms : goal.returns-clause-terms
returns-clause-terms c = set_meant

pub returns-clause-records : goal.returns-clause-records
returns-clause-records c = record_meant
