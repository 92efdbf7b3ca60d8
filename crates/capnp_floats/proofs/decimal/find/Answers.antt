-- The power raised, the search and its rounding follow from the four scaled naturals, so they find the shortest
-- decimal of the interval. Its exponent fits 32 bits.
use Rattle.std.proofs.Common.{rules, subst, sym, w32, ◌∙◌, arith, ◌≡◌, ◌*◌, ◌^◌, ◌≤◌, false}
use Rattle.std.proofs.lemmas.Int.{to_z-of_z}
use Rattle.capnp_floats.specs.Shortest.{IsShortest, reaches}
use Rattle.capnp_floats.specs.Steps.Intervals.{interval}
use Rattle.capnp_floats.proofs.Finding.{begins_below, begins_few, one_fits, quarters_fit, shortest_found}
use Rattle.capnp_floats.proofs.decimal.find.Goals as goal

pub scaled-value-requires : goal.scaled-value-requires
scaled-value-requires c = quarters_fit (4 * c.args.significand) c.args.up c.tens_within-tenths.result (omega arith) c.requires.up
    (c.tens_within-tenths.ensures.few (omega arith)) c.tens_within-tenths.ensures.alone

pub scaled-below-requires : goal.scaled-below-requires
scaled-below-requires c = quarters_fit c.args.gap c.args.up c.tens_within-tenths.result (omega arith) c.requires.up
    (c.tens_within-tenths.ensures.few (omega arith)) c.tens_within-tenths.ensures.alone

pub scaled-above-requires : goal.scaled-above-requires
scaled-above-requires c = quarters_fit 2 c.args.up c.tens_within-tenths.result (omega arith) c.requires.up
    (c.tens_within-tenths.ensures.few (omega arith)) c.tens_within-tenths.ensures.alone

pub scaled-one-requires : goal.scaled-one-requires
scaled-one-requires c = one_fits c.args.down c.tens_within-tens.result c.requires.down c.tens_within-tens.ensures.many c.tens_within-tens.ensures.alone

pub run-requires-clause-begun : goal.run-requires-clause-begun
run-requires-clause-begun c = record {
  not_down = begins_below c.args.has_ends c.args.significand c.args.gap c.args.up c.tens_within-tenths.result _ _ c.requires.positive c.requires.narrow
      c.scaled-value.ensures.value c.scaled-below.ensures.value;
  not_up = subst (λ z. reaches c.args.has_ends z c.raise-power.new.one ≡ false) c.sum-high.ensures c.raise-power.ensures.passed;
  many = c.scaled-below.ensures.positive c.requires.wide;
  above = c.scaled-above.ensures.positive (omega arith);
  size = let f : c.scaled-value.result ≤ c.scaled-below.result * 2 ^ 56 = begins_few c.args.significand c.args.gap c.args.up c.tens_within-tenths.result _ _ c.requires.few c.requires.wide
      c.scaled-value.ensures.value c.scaled-below.ensures.value in omega arith;
  small = c.raise-power.ensures.small;
}

pub returns : goal.returns
returns c =
    let one : c.scaled-one.result ≡ 2 ^ c.args.down * 10 ^ c.tens_within-tens.result = c.scaled-one.ensures.value ∙ (let e : 1 * 2 ^ c.args.down * 10 ^ c.tens_within-tens.result ≡ 2 ^ c.args.down * 10 ^ c.tens_within-tens.result = omega arith in e) in
    let h : IsShortest (interval c.args.has_ends (2 ^ c.args.down) (4 * c.args.significand * 2 ^ c.args.up) (c.args.gap * 2 ^ c.args.up) (2 * 2 ^ c.args.up)) c.rounded-digits.result c.exponent_of-exponent.result =
    shortest_found _ c.run.new.self c.scaled-one.result (2 ^ c.args.down) (4 * c.args.significand * 2 ^ c.args.up) (c.args.gap * 2 ^ c.args.up) (2 * 2 ^ c.args.up)
    c.tens_within-tens.result c.tens_within-tenths.result c.raise-power.result c.rounded-digits.result c.exponent_of-exponent.result
    c.run.ensures.follows c.raise-power.ensures.value one c.scaled-value.ensures.value c.scaled-below.ensures.value c.scaled-above.ensures.value
    c.exponent_of-exponent.ensures c.rounded-digits.ensures in
    subst (λ k. IsShortest (interval c.args.has_ends (2 ^ c.args.down) (4 * c.args.significand * 2 ^ c.args.up) (c.args.gap * 2 ^ c.args.up) (2 * 2 ^ c.args.up)) c.rounded-digits.result k)
    (sym (to_z-of_z w32 c.exponent_of-exponent.result (search rules))) h
