-- What is left stays, while packed bytes are read.
use Rattle.std.proofs.Common.{◌≡◌, ◌-◌, [], length}
use Rattle.std.specs.Io.KnownBytes.{Keeps}
use Rattle.capnp_packed.specs.Sources.{held, left_unpacked}
use Rattle.capnp_packed.proofs.source.make_ready.Given as goal

abbrev pub invariant-reads : goal.invariant-reads
invariant-reads g l = record {
  none : held l.ready ≡ [];
  kept : Keeps (left_unpacked [] (held l.fn.packed) (g.S.Source.left l.fn.source)) (left_unpacked [] (held l.packed) (g.S.Source.left l.source));
}

abbrev pub decreases-reads : goal.decreases-reads
decreases-reads g l = 4096 - length (held l.packed)
