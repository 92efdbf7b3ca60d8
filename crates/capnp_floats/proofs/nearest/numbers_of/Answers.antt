-- Digits below 10^801 fit a large natural with the places doubled, and with up to 400 tens behind
-- these as well; the product is that of least numbers.
use Rattle.std.proofs.Common.{subst, sym, ap, ◌∙◌, ◌*◌, ◌^◌, ◌<◌}
use Rattle.capnp_floats.specs.Naturals.{large_room}
use Rattle.capnp_floats.specs.Nearest.{least_places}
use Rattle.capnp_floats.proofs.Cutting.{digits_fit, digits_fit_once, numbers_are_made}
use Rattle.capnp_floats.proofs.nearest.numbers_of.Goals as goal

pub double-requires : goal.double-requires
double-requires c =
    subst (λ z. z * 2 ^ c.least_places.result < large_room) (sym c.copied-natural.ensures)
    (digits_fit_once c.args.digits.now c.least_places.result c.requires.digits c.least_places.ensures.few)

pub multiply_tens-requires : goal.multiply_tens-requires
multiply_tens-requires c =
    subst (λ z. z * 10 ^ c.args.up < large_room)
    (sym (c.double.ensures ∙ ap (λ z. z * 2 ^ c.least_places.result) c.copied-natural.ensures))
    (digits_fit c.args.digits.now c.least_places.result c.args.up c.requires.digits c.least_places.ensures.few c.requires.up)

pub returns : goal.returns
returns c =
    numbers_are_made c.args.digits.now c.args.up c.least_places.result (least_places c.args.width) c.multiply_tens.new.self
    (c.multiply_tens.ensures ∙ ap (λ z. z * 10 ^ c.args.up) (c.double.ensures ∙ ap (λ z. z * 2 ^ c.least_places.result) c.copied-natural.ensures))
    c.least_places.ensures.value
