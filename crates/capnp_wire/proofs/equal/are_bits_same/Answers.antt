use Rattle.std.proofs.Common.{arith, refl, sym, ◌∙◌}
use Rattle.capnp_wire.proofs.SameTrees.{bit_same, differ, same_bits}
use Rattle.capnp_wire.proofs.equal.are_bits_same.Goals as goal

pub returns-then-get_bit : goal.returns-then-get_bit
returns-then-get_bit c =
    (λ yes. cc, λ same. let e = c.get_bit.ensures ∙ bit_same c.args.one.now c.args.other.now c.args.count c.loop-i.i same (omega (arith, c.loop-i-test.true)) ∙ sym c.get_bit-in-loop-i.ensures in absurd (differ _ _ c.if-get_bit.true e))

pub returns : goal.returns
returns c = (λ yes. same_bits c.args.one.now c.args.other.now c.args.count (λ k below. c.loop-i.invariant k (omega (arith, below, c.loop-i-test.false))), λ same. refl)
