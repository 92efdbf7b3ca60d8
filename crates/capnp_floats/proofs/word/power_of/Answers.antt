-- The exponent's sign decides, and then whether its number covers the places: with a minus both add up as tenths, else their
-- difference is tenths or tens. So it is of capped numbers too.
use Rattle.std.proofs.Common.{arith, rules, inl, sym, ◌≡◌, true, false}
use Rattle.capnp_floats.specs.Words.{begins_with_minus, digits_among}
use Rattle.capnp_floats.proofs.Appending.{capped_less, capped_none, capped_sum, capped_turned, capped_zero, minus_down, minus_up, plus_down, plus_up}
use Rattle.capnp_floats.proofs.word.power_of.Goals as goal

pub returns-then-begins_with_minus-clause-up : goal.returns-then-begins_with_minus-clause-up
returns-then-begins_with_minus-clause-up c =
    let e : begins_with_minus c.args.exponent.now ≡ true = first_of (search rules, grind arith) in
    inl (sym (minus_up (begins_with_minus c.args.exponent.now) (digits_among c.args.exponent.now) c.args.places e))

pub returns-then-begins_with_minus-clause-down : goal.returns-then-begins_with_minus-clause-down
returns-then-begins_with_minus-clause-down c =
    let e : begins_with_minus c.args.exponent.now ≡ true = first_of (search rules, grind arith) in
    capped_sum c.exponent_of-number.result (digits_among c.args.exponent.now) c.args.places _ c.exponent_of-number.ensures.value
    (minus_down (begins_with_minus c.args.exponent.now) (digits_among c.args.exponent.now) c.args.places e)

pub returns-then-number-places-clause-up : goal.returns-then-number-places-clause-up
returns-then-number-places-clause-up c =
    let e : begins_with_minus c.args.exponent.now ≡ false = first_of (search rules, grind arith) in
    capped_zero c.exponent_of-number.result (digits_among c.args.exponent.now) c.args.places _ c.exponent_of-number.ensures.value (omega arith) (omega arith)
    (plus_up (begins_with_minus c.args.exponent.now) (digits_among c.args.exponent.now) c.args.places e)

pub returns-then-number-places-clause-down : goal.returns-then-number-places-clause-down
returns-then-number-places-clause-down c =
    let e : begins_with_minus c.args.exponent.now ≡ false = first_of (search rules, grind arith) in
    capped_turned c.exponent_of-number.result (digits_among c.args.exponent.now) c.args.places _ c.exponent_of-number.ensures.value (omega arith) (omega arith)
    (plus_down (begins_with_minus c.args.exponent.now) (digits_among c.args.exponent.now) c.args.places e)

pub returns-clause-up : goal.returns-clause-up
returns-clause-up c =
    let e : begins_with_minus c.args.exponent.now ≡ false = first_of (search rules, grind arith) in
    capped_less c.exponent_of-number.result (digits_among c.args.exponent.now) c.args.places _ c.exponent_of-number.ensures.value (omega arith)
    (plus_up (begins_with_minus c.args.exponent.now) (digits_among c.args.exponent.now) c.args.places e)

pub returns-clause-down : goal.returns-clause-down
returns-clause-down c =
    let e : begins_with_minus c.args.exponent.now ≡ false = first_of (search rules, grind arith) in
    capped_none c.exponent_of-number.result (digits_among c.args.exponent.now) c.args.places _ c.exponent_of-number.ensures.value (omega arith) (omega arith)
    (plus_down (begins_with_minus c.args.exponent.now) (digits_among c.args.exponent.now) c.args.places e)
