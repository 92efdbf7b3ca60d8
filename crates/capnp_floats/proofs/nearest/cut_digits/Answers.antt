-- The digits kept are below 10^800, so with one more behind them they are below 10^801 and fit a large natural.
use Rattle.std.proofs.Common.{arith, subst, sym, ap, ◌∙◌, ◌*◌, ◌+◌, ◌^◌, ◌<◌}
use Rattle.capnp_floats.specs.Naturals.{large_room}
use Rattle.capnp_floats.proofs.Appending.{append_fits}
use Rattle.capnp_floats.proofs.Cutting.{cut_few}
use Rattle.capnp_floats.proofs.nearest.cut_digits.Goals as goal

pub append-requires : goal.append-requires
append-requires c = subst (λ z. z * 10 + c.one_if.result < large_room) (sym c.copied-number.ensures) (append_fits c.args.digits.now c.one_if.result c.requires (omega arith))

pub returns-clause-few : goal.returns-clause-few
returns-clause-few c =
    subst (λ z. z < 10 ^ 801) (sym (c.append.ensures ∙ ap (λ z. z * 10 + c.one_if.result) c.copied-number.ensures)) (cut_few c.args.digits.now c.one_if.result c.requires (omega arith))
