-- The floor of the decimal in least numbers is the low one of two neighbours, and twice the decimal fits.
-- Compared with their middle it says which is nearer, and is chosen.
use Rattle.std.proofs.Common.{subst, ◌*◌, ◌^◌, ◌∙◌, ap}
use Rattle.capnp_floats.specs.Steps.Nearing.{IsFloor, TakesNearer}
use Rattle.capnp_floats.proofs.Cutting.{twice_fits}
use Rattle.capnp_floats.proofs.nearest.chosen.Goals as goal

pub doubled-twice-requires : goal.doubled-twice-requires
doubled-twice-requires c = twice_fits c.args.width c.args.digits.now c.args.up c.numbers_of-decimal.result c.requires.digits c.requires.up c.numbers_of-decimal.ensures

pub returns : goal.returns
returns c = record {
  low = c.floor-low.result;
  is_floor = subst (λ z. IsFloor c.args.width z (10 ^ c.args.down) c.floor-low.result) c.numbers_of-decimal.ensures c.floor-low.ensures;
  takes = subst (λ z. TakesNearer c.args.width z (10 ^ c.args.down) c.floor-low.result c.nearer.result)
      (c.doubled-twice.ensures ∙ ap (λ z. 2 * z) c.numbers_of-decimal.ensures) c.nearer.ensures;
}
