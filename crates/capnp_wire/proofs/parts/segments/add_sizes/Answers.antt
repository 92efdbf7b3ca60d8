-- The sum is the total modulo 2^32, step by step; each size is at most the largest,
-- whichever of the two that is, so it bounds the total.
use Rattle.std.proofs.Common.{◌≡◌, ◌≤◌, ◌<◌, ◌*◌, ◌+◌, ◌%◌, arith}
use Rattle.capnp_wire.specs.Stream.{total_words}
use Rattle.capnp_wire.proofs.Cut.{total_next}
use Rattle.capnp_wire.proofs.parts.segments.add_sizes.Goals.{then-size-largest, else-size-largest}
use Rattle.capnp_wire.proofs.parts.segments.add_sizes.Goals as goal

pub loop-i-preserved : goal.loop-i-preserved
loop-i-preserved c =
    let next = total_next c.loop-i.i c.args.table.now in
    let value = c.get_size-size.ensures.value in
    let wraps : (c.loop-i.words + c.get_size-size.result) % 4294967296 ≡ total_words (c.loop-i.i + 1) c.args.table.now % 4294967296 =
    omega (arith, c.loop-i.invariant.0, next, value) in
    let small : c.if-size-largest.largest < 4194304 → total_words (c.loop-i.i + 1) c.args.table.now ≤ 4194304 * (c.loop-i.i + 1) =
    λ h. elim c.if-size-largest.branch [
      | then-size-largest w ↦
          let so_far = c.loop-i.invariant.1 (omega (arith, h, w.if-size-largest, w.largest-is)) in
          omega (arith, h, w.if-size-largest, w.largest-is, so_far, next, value)
      | else-size-largest w ↦
          let so_far = c.loop-i.invariant.1 (omega (arith, h, w.largest-is)) in
          omega (arith, h, w.if-size-largest, w.largest-is, so_far, next, value)
    ] in
    (wraps, small)
