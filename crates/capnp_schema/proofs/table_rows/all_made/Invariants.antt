use Rattle.std.proofs.Common.{◌≡◌, map, take}
use Rattle.capnp_schema.proofs.table_rows.all_made.Given as goal

abbrev pub invariant-loop-row : goal.invariant-loop-row
invariant-loop-row g l = map g.T.MadeOf.seen l.out.items ≡ map g.T.MadeOf.of_row (take l.row-index l.rows)
