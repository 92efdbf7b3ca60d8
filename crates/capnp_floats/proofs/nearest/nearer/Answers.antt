-- Twice the decimal lies below the doubled middle of two neighbours, above it, or on it; this
-- decides for the low one, the next, or the even one.
use Rattle.std.proofs.Common.{◌≡◌, ◌^◌, ◌<◌, ◌≤◌, inl, inr, refl, ltb, true, false, subst, arith, rules}
use Rattle.std.proofs.lemmas.Bool.{ltb-true, ltb-false}
use Rattle.capnp_floats.specs.Steps.Nearing.{twice_middle}
use Rattle.capnp_floats.proofs.Nearing.{middle_is, takes_even}
use Rattle.capnp_floats.proofs.nearest.nearer.Goals as goal

pub returns-then-is_below : goal.returns-then-is_below
returns-then-is_below c =
    let m : c.scaled-middle.result ≡ twice_middle c.args.width (10 ^ c.args.zeros) c.args.low =
    middle_is c.args.width c.args.low c.significand.result c.place.result c.args.zeros c.scaled-middle.result c.requires.finite c.significand.ensures.value c.place.ensures.value c.scaled-middle.ensures in
    let t : ltb c.args.twice.now c.scaled-middle.result ≡ true = first_of (search rules, grind arith) in
    inl (refl, inl (subst (λ z. c.args.twice.now < z) m (ltb-true _ _ t)))

pub returns-then-is_below-2 : goal.returns-then-is_below-2
returns-then-is_below-2 c =
    let m : c.scaled-middle.result ≡ twice_middle c.args.width (10 ^ c.args.zeros) c.args.low =
    middle_is c.args.width c.args.low c.significand.result c.place.result c.args.zeros c.scaled-middle.result c.requires.finite c.significand.ensures.value c.place.ensures.value c.scaled-middle.ensures in
    let t : ltb c.scaled-middle.result c.args.twice.now ≡ true = first_of (search rules, grind arith) in
    inr (refl, inl (subst (λ z. z < c.args.twice.now) m (ltb-true _ _ t)))

pub returns : goal.returns
returns c =
    let m : c.scaled-middle.result ≡ twice_middle c.args.width (10 ^ c.args.zeros) c.args.low =
    middle_is c.args.width c.args.low c.significand.result c.place.result c.args.zeros c.scaled-middle.result c.requires.finite c.significand.ensures.value c.place.ensures.value c.scaled-middle.ensures in
    let t : ltb c.args.twice.now c.scaled-middle.result ≡ false = first_of (search rules, grind arith) in
    let u : ltb c.scaled-middle.result c.args.twice.now ≡ false = first_of (search rules, grind arith) in
    let a : c.scaled-middle.result ≤ c.args.twice.now = ltb-false _ _ t in
    let b : c.args.twice.now ≤ c.scaled-middle.result = ltb-false _ _ u in
    takes_even c.args.width c.args.twice.now (10 ^ c.args.zeros) c.args.low (omega arith)
