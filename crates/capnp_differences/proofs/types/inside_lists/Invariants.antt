use Rattle.std.proofs.Common.{◌≡◌}
use Rattle.capnp_schema.specs.Entries.{lists_seen}
use Rattle.capnp_schema.specs.Types.{seen_type}
use Rattle.capnp_differences.specs.Differences.{struct_pair, type_change}
use Rattle.capnp_differences.specs.declared.differences.Cause.TheVariants as cause
use Rattle.capnp_differences.proofs.types.inside_lists.Given as goal

abbrev pub invariant-loop-x : goal.invariant-loop-x
invariant-loop-x l =
    (type_change l.became (lists_seen l.schemas) (seen_type l.one) (seen_type l.other) ≡ type_change cause.TypeChanged (lists_seen l.schemas) (seen_type l.fn.older) (seen_type l.fn.newer))
    × (struct_pair (lists_seen l.schemas) (seen_type l.one) (seen_type l.other) ≡ struct_pair (lists_seen l.schemas) (seen_type l.fn.older) (seen_type l.fn.newer))

abbrev pub decreases-loop-x : goal.decreases-loop-x
decreases-loop-x l = l.one.list_count
