use Rattle.std.proofs.Common.{◌≡◌, ◌%◌, ◌++◌, length}
use Rattle.capnp_packed.specs.Packing.{packed_form}
use Rattle.capnp_packed.proofs.pack.pack.Given as goal

abbrev pub invariant-loop-left : goal.invariant-loop-left
invariant-loop-left l = record {
  bytes : l.out.items ++ packed_form l.left ≡ packed_form l.fn.bytes;
  whole : length l.left % 8 ≡ 0;
}

abbrev pub decreases-loop-left : goal.decreases-loop-left
decreases-loop-left l = length l.left
