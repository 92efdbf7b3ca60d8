-- A number below 2^65 fits a large natural after fewer than 2048 doublings, and after up to 1152 tens more.
use Rattle.std.proofs.Common.{◌*◌, ◌^◌, ◌<◌, ◌∙◌, ap, sym, subst, arith}
use Rattle.capnp_floats.specs.Naturals.{large_room}
use Rattle.capnp_floats.proofs.Nearing.{large_fits, large_fits_twice}
use Rattle.capnp_floats.proofs.nearest.scaled.Goals as goal

pub double-requires : goal.double-requires
double-requires c =
    subst (λ z. z * 2 ^ c.args.places < large_room) (sym c.new-natural.ensures)
    (large_fits_twice c.args.number c.args.places (omega arith) (omega arith))

pub multiply_tens-requires : goal.multiply_tens-requires
multiply_tens-requires c =
    subst (λ z. z * 10 ^ c.args.zeros < large_room)
    (sym (c.double.ensures ∙ ap (λ z. z * 2 ^ c.args.places) c.new-natural.ensures))
    (large_fits c.args.number c.args.places c.args.zeros (omega arith) (omega arith) (omega arith))
