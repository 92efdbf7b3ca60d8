-- The tens and the tenths of the exponent are exact here, not capped; so what is found for
-- them is nearest, and none means past the range.
use Rattle.std.proofs.Common.{inl, refl, ◌∙◌, ap, w32}
use Rattle.std.proofs.lemmas.Int.{to_z-of_z}
use Rattle.capnp_floats.specs.Shortest.{tens, tenths}
use Rattle.capnp_floats.proofs.Answering.{found_few, past_few}
use Rattle.capnp_floats.proofs.nearest.nearest.Goals as goal

pub returns-clause-found : goal.returns-clause-found
returns-clause-found c =
    found_few c.args.width c.args.digits c.tens_of.result c.tenths_of.result c.nearest_few.result c.args.exponent c.args.digits refl
    (inl (c.tens_of.ensures.value ∙ ap tens (to_z-of_z w32 c.args.exponent c.ranges.exponent)))
    (inl (c.tenths_of.ensures.value ∙ ap tenths (to_z-of_z w32 c.args.exponent c.ranges.exponent)))
    c.nearest_few.ensures.found

pub returns-clause-past : goal.returns-clause-past
returns-clause-past c =
    past_few c.args.width c.args.digits c.tens_of.result c.tenths_of.result c.nearest_few.result c.args.exponent c.args.digits refl
    (inl (c.tens_of.ensures.value ∙ ap tens (to_z-of_z w32 c.args.exponent c.ranges.exponent)))
    (inl (c.tenths_of.ensures.value ∙ ap tenths (to_z-of_z w32 c.args.exponent c.ranges.exponent)))
    c.nearest_few.ensures.past
