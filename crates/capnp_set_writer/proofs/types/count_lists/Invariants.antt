use Rattle.std.proofs.Common.{◌≡◌, ◌+◌}
use Rattle.capnp_schema.specs.Types.{seen_type}
use Rattle.capnp_set_writer.specs.Trees.{list_count}
use Rattle.capnp_set_writer.proofs.types.count_lists.Given as goal

abbrev pub invariant-loop-count : goal.invariant-loop-count
invariant-loop-count l = list_count (seen_type l.fn.of) ≡ l.count + list_count (seen_type l.rest)
