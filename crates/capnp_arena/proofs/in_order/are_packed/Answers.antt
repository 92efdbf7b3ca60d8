use Rattle.std.proofs.Common.{arith}
use Rattle.capnp_wire.specs.Place.{bits_from}
use Rattle.capnp_arena.proofs.LaidOut.{all_packed}
use Rattle.capnp_arena.proofs.in_order.are_packed.Goals as goal

pub returns : goal.returns
returns c = λ _. all_packed c.args.bytes.now (bits_from c.args.bytes.now 0 c.args.count) c.loop-k.k (omega (arith, c.loop-k-test.false)) c.loop-k.invariant
