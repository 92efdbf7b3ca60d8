use Rattle.std.proofs.Common.{◌≡◌}
use Rattle.capnp_schema.specs.Schema.{node_at}
use Rattle.capnp_schema.specs.Entries.{lists_seen}
use Rattle.capnp_schema.specs.Query.{non_union_fields}
use Rattle.capnp_schema.proofs.EntryTables.{EachTable}
use Rattle.capnp_schema.proofs.tables.non_union_tables.Given as goal

abbrev pub invariant-loop-n : goal.invariant-loop-n
invariant-loop-n l = EachTable (λ n table. table ≡ non_union_fields (node_at (lists_seen l.lists) n).fields) l.tables.items l.n
