-- What is unpacked stands before what the rest stands for, whatever follows.
use Rattle.std.proofs.Common.{ℕ, ◌≡◌, List, [], ◌++◌, length}
use Rattle.capnp_packed.specs.Sources.{held}
use Rattle.capnp_packed.specs.Steps.Windows.{held_end}
use Rattle.capnp_packed.specs.Unpacking.{unpacked_bytes}
use Rattle.capnp_packed.proofs.window.Window.unpack.Given as goal

abbrev pub invariant-pieces : goal.invariant-pieces
invariant-pieces l = record {
  same : (more : List ℕ) → held l.self ++ unpacked_bytes (held l.packed ++ more) ≡ unpacked_bytes (held l.fn.packed ++ more);
  end : held_end l.self ≡ length (held l.self);
  stays : held l.self ≡ [] → held l.packed ≡ held l.fn.packed;
}

abbrev pub decreases-pieces : goal.decreases-pieces
decreases-pieces l = length (held l.packed)
