-- One is 5^tens and the numbers are doubled so much less often, so both are those of 10^tens, over 2^tens. Their shortest
-- decimal is that of the quarters. Its exponent fits 32 bits.
use Rattle.std.proofs.Common.{arith, lit<, rules, subst, sym, w32, ◌≡◌, ◌+◌, ◌-◌, ◌*◌, ◌/◌, ◌^◌, ◌<◌}
use Rattle.std.proofs.lemmas.Int.{to_z-of_z}
use Rattle.capnp_floats.specs.Shortest.{IsShortest}
use Rattle.capnp_floats.specs.Steps.Intervals.{interval}
use Rattle.capnp_floats.proofs.Nearing.{power_positive}
use Rattle.capnp_floats.proofs.Counting.{tens_found}
use Rattle.capnp_floats.proofs.moderate.find_tens.Goals as goal

pub in_ones-requires-clause-one : goal.in_ones-requires-clause-one
in_ones-requires-clause-one c =
    let p : 0 < 5 ^ ((c.args.up * 1233 + 1900) / 4096) = power_positive 5 ((c.args.up * 1233 + 1900) / 4096) (lit< tt) in
    let e : c.in_ok-one.one ≡ 5 ^ ((c.args.up * 1233 + 1900) / 4096) = c.in_ok-one.ensures.1 in
    omega arith

pub returns : goal.returns
returns c =
    let h : IsShortest (interval c.args.has_ends 1 (4 * c.args.significand * 2 ^ c.args.up) (c.args.gap * 2 ^ c.args.up) (2 * 2 ^ c.args.up)) c.in_ok-digits.digits c.exponent_of.result =
    tens_found c.in_ok-counted.counted c.args.has_ends (4 * c.args.significand) c.args.gap c.args.up
    ((c.args.up * 1233 + 1900) / 4096) (c.args.up - (c.args.up * 1233 + 1900) / 4096) c.in_ok-one.one c.in_ok-digits.more c.in_ok-digits.digits c.exponent_of.result
    (omega arith) (search rules) c.in_ok-counted.ensures.begins c.exponent_of.ensures c.in_ok-digits.ensures.rounded in
    subst (λ k. IsShortest (interval c.args.has_ends 1 (4 * c.args.significand * 2 ^ c.args.up) (c.args.gap * 2 ^ c.args.up) (2 * 2 ^ c.args.up)) c.in_ok-digits.digits k)
    (sym (to_z-of_z w32 c.exponent_of.result (search rules))) h
