-- What is left of the type, and what was counted, are all its lists.
use Rattle.std.proofs.Common.{◌≡◌, ◌+◌}
use Rattle.capnp_base.specs.Types.{list_depth}
use Rattle.capnp_joined_sets.proofs.types.count_lists.Given as goal

abbrev pub invariant-loop-element : goal.invariant-loop-element
invariant-loop-element l = l.count + list_depth l.rest ≡ list_depth l.initial.rest

abbrev pub decreases-loop-element : goal.decreases-loop-element
decreases-loop-element l = list_depth l.rest
