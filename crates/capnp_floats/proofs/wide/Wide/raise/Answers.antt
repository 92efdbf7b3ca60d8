-- The natural times the power that is left is the product asked; so each factor fits, as the product does.
-- Many factors are split off at a time, then single ones.
use Rattle.std.proofs.Common.{◌*◌, ◌-◌, ◌^◌, ◌<◌, ◌∙◌, ap, sym, subst, arith}
use Rattle.capnp_floats.specs.Naturals.{room}
use Rattle.capnp_floats.proofs.Nearing.{factor_fits, factor_split, factors_fit, factors_split}
use Rattle.capnp_floats.proofs.wide.Wide.raise.Goals as goal

pub multiply-requires : goal.multiply-requires
multiply-requires c =
    subst (λ z. c.many.self * z < room) (sym c.requires.power)
    (factors_fit c.many.self c.args.base c.args.few c.many.left room c.requires.positive (omega arith)
    (subst (λ z. z < room) (sym c.many.invariant) c.requires.room))

pub many-preserved : goal.many-preserved
many-preserved c =
    ap (λ z. z * c.args.base ^ (c.many.left - c.args.few)) c.multiply.ensures
    ∙ ap (λ z. c.many.self * z * c.args.base ^ (c.many.left - c.args.few)) c.requires.power
    ∙ sym (factors_split c.many.self c.args.base c.args.few c.many.left (omega arith)) ∙ c.many.invariant

pub multiply-requires-in-single : goal.multiply-requires-in-single
multiply-requires-in-single c =
    factor_fits c.single.self c.args.base c.single.left room c.requires.positive (omega arith)
    (subst (λ z. z < room) (sym c.single.invariant) c.requires.room)

pub single-preserved : goal.single-preserved
single-preserved c =
    ap (λ z. z * c.args.base ^ (c.single.left - 1)) c.multiply-in-single.ensures
    ∙ sym (factor_split c.single.self c.args.base c.single.left (omega arith)) ∙ c.single.invariant
