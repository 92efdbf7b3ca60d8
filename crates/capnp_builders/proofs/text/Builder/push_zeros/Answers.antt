-- A zero more is pushed.
use Rattle.std.proofs.Common.{ℕ, suc, ◌+◌, ◌≡◌, arith, subst}
use Rattle.capnp_builders.proofs.Pushes.{ArePushed, one_pushed}
use Rattle.capnp_builders.proofs.Writes.{zeros, zeros_first}
use Rattle.capnp_builders.proofs.text.Builder.push_zeros.Goals as goal

pub loop-i-preserved : goal.loop-i-preserved
loop-i-preserved c =
    let old = c.args.self.now in
    let i : ℕ = c.loop-i._i in
    let next : suc i ≡ i + 1 = omega arith in
    let e = c.push_byte.ensures in
    subst (ArePushed old c.push_byte.new.self (zeros c.args.count)) next
    (one_pushed old c.loop-i.self c.push_byte.new.self (zeros c.args.count) i 0 (zeros_first c.args.count i c.loop-i-test.true) c.loop-i.invariant e.same e.at e.position e.bytes e.there e.changes)
