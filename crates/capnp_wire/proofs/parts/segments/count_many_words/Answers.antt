use Rattle.std.proofs.Common.{arith}
use Rattle.capnp_wire.proofs.Cut.{total_next}
use Rattle.capnp_wire.proofs.parts.segments.count_many_words.Goals as goal

pub loop-i-preserved : goal.loop-i-preserved
loop-i-preserved c =
    let next = total_next c.loop-i.i c.args.table.now in (
      omega (arith, next, c.loop-i.invariant.0, c.get_size-words.ensures.value),
      omega (arith, c.loop-i.invariant.1, c.get_size-words.ensures.fits),
    )
