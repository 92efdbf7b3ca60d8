-- The names of the brands so far.
use Rattle.capnp_schema.specs.Entries.{lists_seen}
use Rattle.capnp_structs.specs.Steps.Names.{AreNamesBelow}
use Rattle.capnp_versions.proofs.names.index_names.Given as goal

abbrev pub invariant-loop-brand : goal.invariant-loop-brand
invariant-loop-brand l = AreNamesBelow (lists_seen l.schemas) l.brand l.index
