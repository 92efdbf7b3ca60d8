-- Bytes are pushed one after another.
use Rattle.capnp_builders.proofs.Pushes.{ArePushed}
use Rattle.capnp_builders.proofs.text.Builder.push_bytes.Given as goal

abbrev pub invariant-loop-i : goal.invariant-loop-i
invariant-loop-i l = ArePushed l.fn.self l.self l.bytes l.i
