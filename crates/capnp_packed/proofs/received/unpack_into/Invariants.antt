use Rattle.std.proofs.Common.{◌≡◌, ◌<◌, ◌≤◌, ◌-◌, ◌++◌, length, take}
use Rattle.capnp_packed.specs.Unpacking.{unpacked_bytes}
use Rattle.capnp_packed.proofs.received.unpack_into.Given as goal

-- Where there is room, what is written stands before what the rest stands for.
abbrev pub invariant-loop-at : goal.invariant-loop-at
invariant-loop-at l = record {
  inside : l.at ≤ length l.fn.out;
  bytes : take l.at l.out ≡ take l.at (unpacked_bytes l.fn.packed);
  rest : l.at < length l.fn.out → take l.at l.out ++ unpacked_bytes l.left ≡ unpacked_bytes l.fn.packed;
  size : length l.out ≡ length l.fn.out;
}

abbrev pub decreases-loop-at : goal.decreases-loop-at
decreases-loop-at l = length l.fn.out - l.at
