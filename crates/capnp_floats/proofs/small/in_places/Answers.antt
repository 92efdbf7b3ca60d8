-- At or below the least place the value takes the powers of two, above it the parts do; either way
-- both sides are those asked, over one common power.
use Rattle.std.proofs.Common.{refl, arith, ◌-◌}
use Rattle.capnp_floats.specs.Nearest.{least_places}
use Rattle.capnp_floats.proofs.Significands.{places_below}
use Rattle.capnp_floats.proofs.small.in_places.Goals as goal

pub returns-in_ok-value : goal.returns-in_ok-value
returns-in_ok-value c = (
  c.args.place,
  places_below c.args.number c.in_ok-value.value c.args.place (least_places c.args.width) (c.least_places-least.result - c.args.place) (omega arith) c.in_ok-value.ensures,
  refl,
)

pub returns-in_ok-parts : goal.returns-in_ok-parts
returns-in_ok-parts c = (
  least_places c.args.width,
  refl,
  places_below c.args.tenths c.in_ok-parts.parts (least_places c.args.width) c.args.place (c.args.place - c.least_places-least.result) (omega arith) c.in_ok-parts.ensures,
)
