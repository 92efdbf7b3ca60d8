use Rattle.capnp_schema.specs.Entries.{lists_seen}
use Rattle.capnp_schema.proofs.Checking.NameTables.{rule3_stands}
use Rattle.capnp_schema.proofs.check.names.check_names.Goals as goal

pub returns : goal.returns
returns c = (rule3_stands (lists_seen c.args.lists.now) c.in_ok-tables.tables.items c.in_ok-check_counts.ensures c.in_ok-tables.ensures, c.in_ok-tables.ensures)
