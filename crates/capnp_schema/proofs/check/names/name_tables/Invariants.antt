use Rattle.capnp_schema.specs.Entries.{lists_seen}
use Rattle.capnp_schema.specs.Names.{IsNameTable}
use Rattle.capnp_schema.specs.Schema.{node_at}
use Rattle.capnp_schema.proofs.EntryTables.{EachTable}
use Rattle.capnp_schema.proofs.check.names.name_tables.Given as goal

abbrev pub invariant-loop-n : goal.invariant-loop-n
invariant-loop-n l = EachTable (λ n table. IsNameTable (node_at (lists_seen l.lists) n).fields table) l.tables.items l.n
