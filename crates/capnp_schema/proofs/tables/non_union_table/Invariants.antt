use Rattle.std.proofs.Common.{◌≡◌, ◌++◌, drop, map}
use Rattle.capnp_schema.specs.Schema.{seen_field}
use Rattle.capnp_schema.specs.Query.{indices_from, is_non_union}
use Rattle.capnp_schema.proofs.tables.non_union_table.Given as goal

abbrev pub invariant-loop-i : goal.invariant-loop-i
invariant-loop-i l = l.non_union.items ++ indices_from l.i is_non_union (drop l.i (map seen_field l.fields)) ≡ indices_from 0 is_non_union (map seen_field l.fields)
