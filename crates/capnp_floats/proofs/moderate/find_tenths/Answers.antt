-- The power is 5^tenths and the unit 2^down / 2^tenths, so both are those of 10^tenths, over 2^tenths. Their shortest
-- decimal is that of the quarters. Its exponent fits 32 bits.
use Rattle.std.proofs.Common.{arith, lit<, rules, subst, sym, w32, ◌≡◌, ◌+◌, ◌-◌, ◌*◌, ◌/◌, ◌^◌, ◌<◌}
use Rattle.std.proofs.lemmas.Int.{to_z-of_z}
use Rattle.capnp_floats.specs.Shortest.{IsShortest}
use Rattle.capnp_floats.specs.Steps.Intervals.{interval}
use Rattle.capnp_floats.proofs.Nearing.{power_positive}
use Rattle.capnp_floats.proofs.Counting.{tenths_found}
use Rattle.capnp_floats.proofs.moderate.find_tenths.Goals as goal

pub in_twos-requires-clause-power : goal.in_twos-requires-clause-power
in_twos-requires-clause-power c =
    let p : 0 < 5 ^ ((c.args.down * 1233 + 2200) / 4096) = power_positive 5 ((c.args.down * 1233 + 2200) / 4096) (lit< tt) in
    let e : c.in_ok-power.power ≡ 5 ^ ((c.args.down * 1233 + 2200) / 4096) = c.in_ok-power.ensures.1 in
    omega arith

pub returns : goal.returns
returns c =
    let h : IsShortest (interval c.args.has_ends (2 ^ c.args.down) (4 * c.args.significand) c.args.gap 2) c.in_ok-digits.digits c.exponent_of.result =
    tenths_found c.in_ok-counted.counted c.args.has_ends (4 * c.args.significand) c.args.gap c.args.down
    ((c.args.down * 1233 + 2200) / 4096) (c.args.down - (c.args.down * 1233 + 2200) / 4096) c.in_ok-power.power c.in_ok-digits.more c.in_ok-digits.digits c.exponent_of.result
    (omega arith) (search rules) c.in_ok-counted.ensures.begins c.exponent_of.ensures c.in_ok-digits.ensures.rounded in
    subst (λ k. IsShortest (interval c.args.has_ends (2 ^ c.args.down) (4 * c.args.significand) c.args.gap 2) c.in_ok-digits.digits k)
    (sym (to_z-of_z w32 c.exponent_of.result (search rules))) h
