use Rattle.capnp_schema.specs.Entries.{lists_seen}
use Rattle.capnp_schema.proofs.Checking.GroupTable.{Filled}
use Rattle.capnp_schema.proofs.check.groups.parent_table.Given as goal

abbrev pub invariant-loop-brand : goal.invariant-loop-brand
invariant-loop-brand l = Filled (lists_seen l.lists) l.brand 0 l.table.items

abbrev pub invariant-loop-field : goal.invariant-loop-field
invariant-loop-field l = Filled (lists_seen l.lists) l.brand l.field l.table.items
