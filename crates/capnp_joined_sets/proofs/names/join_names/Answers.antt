-- Copies of both sets' tables, one behind the other, are tables of the joined set.
use Rattle.capnp_schema.specs.Entries.{lists_seen}
use Rattle.capnp_joined_sets.proofs.NameTables.{copied_tables}
use Rattle.capnp_joined_sets.proofs.names.join_names.Goals as goal

pub returns-clause-tables : goal.returns-clause-tables
returns-clause-tables c = copied_tables (lists_seen c.args.older.now) (lists_seen c.args.newer.now) c.name_tables.result.now c.name_tables-2.result.now c.copy_both.result c.name_tables.ensures c.name_tables-2.ensures c.copy_both.ensures.copied
