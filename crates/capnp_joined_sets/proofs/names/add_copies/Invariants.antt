-- Behind what was there stand the copies so far.
use Rattle.std.proofs.Common.{◌≡◌, ◌++◌, map, take, vec_items}
use Rattle.capnp_joined_sets.proofs.names.add_copies.Given as goal

abbrev pub invariant-loop-table : goal.invariant-loop-table
invariant-loop-table l = map vec_items l.out.items ≡ map vec_items l.initial.out.items ++ map vec_items (take l.table-index l.tables)
