use Rattle.std.proofs.Common.{◌≡◌, ◌++◌, drop}
use Rattle.capnp_packed.specs.Packing.{nonzero}
use Rattle.capnp_packed.proofs.pack.append_nonzero.Given as goal

abbrev pub invariant-loop-i : goal.invariant-loop-i
invariant-loop-i l = l.out.items ++ nonzero (drop l.i l.fn.bytes) ≡ l.fn.out.items ++ nonzero l.fn.bytes
