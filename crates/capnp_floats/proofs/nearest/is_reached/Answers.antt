-- The number in least numbers is its significand times two to its place; that it is not
-- above the decimal is that the decimal is not below it.
use Rattle.std.proofs.Common.{◌*◌, ◌^◌, ◌∙◌, ap, leb, not}
use Rattle.capnp_floats.specs.Floats.{significand}
use Rattle.capnp_floats.specs.Nearest.{least_numbers}
use Rattle.capnp_floats.proofs.Nearing.{not_below}
use Rattle.capnp_floats.proofs.nearest.is_reached.Goals as goal

pub returns : goal.returns
unfolding least_numbers
returns c =
    ap not c.is_below.ensures ∙ not_below c.scaled-number.result c.args.decimal.now
    ∙ ap (λ z. leb z c.args.decimal.now)
    (c.scaled-number.ensures ∙ ap (λ z. z * 2 ^ c.place.result * 10 ^ c.args.zeros) c.significand.ensures.value
    ∙ ap (λ z. significand c.args.width c.args.bits * 2 ^ z * 10 ^ c.args.zeros) c.place.ensures.value)
