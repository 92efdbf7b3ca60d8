-- The total is the number with the zeros so far; once that is past 64 bits, more zeros leave it past them.
use Rattle.std.proofs.Common.{◌≡◌, ◌+◌, ◌*◌, ◌^◌, ◌<◌, arith}
use Rattle.capnp_from_json.proofs.Scaling.{more_not_held, one_zero_more}
use Rattle.capnp_from_json.proofs.integers.with_zeros.Goals as goal

pub returns-in_default : goal.returns-in_default
returns-in_default c =
    let e : c.args.number * 10 ^ (c.loop-index._index + 1) ≡ c.args.number * 10 ^ c.loop-index._index * 10 = one_zero_more c.args.number c.loop-index._index in
    more_not_held c.args.number (c.loop-index._index + 1) c.args.zeros (omega arith) (omega (arith, c.in_default.ensures))

pub loop-index-preserved : goal.loop-index-preserved
loop-index-preserved c =
    let e : c.args.number * 10 ^ (c.loop-index._index + 1) ≡ c.args.number * 10 ^ c.loop-index._index * 10 = one_zero_more c.args.number c.loop-index._index in
    let n : c.in-Some.next < 2 ^ 64 = omega (arith, c.in-Some.ensures) in
    record { fits = n; value = omega (arith, c.in-Some.ensures, c.loop-index.invariant.value) }
