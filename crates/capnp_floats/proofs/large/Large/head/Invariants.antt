use Rattle.std.proofs.Common.{◌≤◌}
use Rattle.capnp_floats.proofs.large.Large.head.Given as goal

abbrev pub invariant-places : goal.invariant-places
invariant-places l = l.below ≤ 192
