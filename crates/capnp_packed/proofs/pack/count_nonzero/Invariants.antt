use Rattle.std.proofs.Common.{◌≡◌, ◌+◌, ◌≤◌, drop, length}
use Rattle.capnp_packed.specs.Packing.{nonzero}
use Rattle.capnp_packed.proofs.pack.count_nonzero.Given as goal

abbrev pub invariant-loop-i : goal.invariant-loop-i
invariant-loop-i l = record {
  counted : l.count + length (nonzero (drop l.i l.fn.bytes)) ≡ length (nonzero l.fn.bytes);
  few : l.count ≤ l.i;
}
