-- A value that stands alone is written as `plain` says.
use Rattle.capnp_json.proofs.json.to_json.Goals as goal

pub returns-clause-json : goal.returns-clause-json
returns-clause-json c = rw c.plain.ensures at c.to_json_as.ensures.json

pub returns-clause-only : goal.returns-clause-only
returns-clause-only c = rw c.plain.ensures at c.to_json_as.ensures.only

pub returns-clause-refused : goal.returns-clause-refused
returns-clause-refused c = rw c.plain.ensures at c.to_json_as.ensures.refused
