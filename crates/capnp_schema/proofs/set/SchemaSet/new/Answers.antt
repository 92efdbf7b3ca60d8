-- A set that is made is refused for nothing: said here, so that a body which refuses each set fails at once.
use Rattle.capnp_schema.proofs.set.SchemaSet.new.Goals as goal

-- src/set.rt:76:5
pub returns-clause-refused : goal.returns-clause-refused
returns-clause-refused c = tt

-- src/set.rt:76:5
pub returns-clause-memory : goal.returns-clause-memory
returns-clause-memory c accepted = tt
