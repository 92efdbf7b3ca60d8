use Rattle.std.proofs.Common.{◌≡◌}
use Rattle.capnp_schema.specs.Entries.{lists_seen}
use Rattle.capnp_schema.specs.Types.{seen_type}
use Rattle.capnp_compatible.specs.Steps.Closing.{inside_lists}
use Rattle.capnp_compatible.proofs.types.inside_lists.Given as goal

abbrev pub invariant-loop-x : goal.invariant-loop-x
invariant-loop-x l = inside_lists l.lists (lists_seen l.schemas) (seen_type l.one) (seen_type l.other) ≡ inside_lists l.lists (lists_seen l.schemas) (seen_type l.fn.older) (seen_type l.fn.newer)

abbrev pub decreases-loop-x : goal.decreases-loop-x
decreases-loop-x l = l.one.list_count
