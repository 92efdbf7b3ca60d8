-- What was read stands behind what there was.
use Rattle.std.proofs.Common.{◌≡◌, ◌≤◌, ◌-◌, length}
use Rattle.capnp_streams.specs.Received.{IsReadOn}
use Rattle.capnp_streams.proofs.receive.read_on.Given as goal

abbrev pub invariant-loop-buffer : goal.invariant-loop-buffer
invariant-loop-buffer g l = record {
  inside : length l.bytes.items ≤ l.goal;
  on : IsReadOn (g.S.Source.left l.initial.source) (g.S.Source.left l.source) l.initial.bytes.items l.bytes.items;
  worked : g.S.Source.failures l.source ≡ g.S.Source.failures l.initial.source;
}

abbrev pub decreases-loop-buffer : goal.decreases-loop-buffer
decreases-loop-buffer g l = l.goal - length l.bytes.items
