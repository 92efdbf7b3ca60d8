-- The layers name what the types name, and ask for the levels that are not counted yet.
use Rattle.std.proofs.Common.{◌+◌, ◌≡◌, ◌≤◌}
use Rattle.capnp_schema.specs.Entries.{lists_seen}
use Rattle.capnp_schema.specs.Types.{seen_type}
use Rattle.capnp_differences.specs.Notes.{enum_pair, more_levels}
use Rattle.capnp_differences.proofs.lists.through_lists.Given as goal

abbrev pub invariant-loop-x : goal.invariant-loop-x
invariant-loop-x l =
    (enum_pair (lists_seen l.schemas) (seen_type l.one) (seen_type l.other) ≡ enum_pair (lists_seen l.schemas) (seen_type l.fn.older) (seen_type l.fn.newer))
    × ((l.levels + more_levels (lists_seen l.schemas) (seen_type l.one) (seen_type l.other) ≡ more_levels (lists_seen l.schemas) (seen_type l.fn.older) (seen_type l.fn.newer))
    × (l.levels + l.one.list_count ≤ l.fn.older.list_count))

abbrev pub decreases-loop-x : goal.decreases-loop-x
decreases-loop-x l = l.one.list_count
