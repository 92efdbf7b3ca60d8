-- Zeros are pushed one after another.
use Rattle.capnp_builders.proofs.Pushes.{ArePushed}
use Rattle.capnp_builders.proofs.Writes.{zeros}
use Rattle.capnp_builders.proofs.text.Builder.push_zeros.Given as goal

abbrev pub invariant-loop-i : goal.invariant-loop-i
invariant-loop-i l = ArePushed l.fn.self l.self (zeros l.count) l._i
