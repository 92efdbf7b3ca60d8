-- Where a path leads to by the schema alone, as the code has it.
use Rattle.capnp_schema.specs.Types.{seen_type}
use Rattle.capnp_queries.specs.Floats.{Stand}
use Rattle.capnp_queries.specs.declared.floats.Standing.{Standing}

abbrev pub stand_seen : Standing → Stand
stand_seen s = record { type = seen_type s.of; form = s.form }
