use Rattle.std.proofs.Common.{◌≡◌, ◌≤◌, length, take, ltb}
use Rattle.capnp_floats.specs.Naturals.{natural_of}
use Rattle.capnp_floats.proofs.limbs.is_below.Given as goal

-- what the places left say
abbrev pub invariant-places : goal.invariant-places
invariant-places l = record {
  inside : l.left ≤ length l.row;
  same : ltb (natural_of l.row) (natural_of l.other) ≡ ltb (natural_of (take l.left l.row)) (natural_of (take l.left l.other));
}

abbrev pub decreases-places : goal.decreases-places
decreases-places l = l.left
