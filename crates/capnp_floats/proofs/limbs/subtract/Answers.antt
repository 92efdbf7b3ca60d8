-- Up to the place reached, the row and the other make what the row was, with what was lent, at most 1.
-- The places behind are as they were.
use Rattle.std.proofs.Common.{arith, rules, refl, get_or}
use Rattle.capnp_floats.specs.Naturals.{natural_of}
use Rattle.capnp_floats.proofs.Naturals.{bound_kept, subtract_kept, lent_kept, rest_kept}
use Rattle.capnp_floats.proofs.limbs.subtract.Goals as goal

pub loop-i-init : goal.loop-i-init
unfolding natural_of
loop-i-init c = record { value = omega arith; rest = λ k h. refl; few = omega arith; less = omega arith }

pub loop-i-preserved : goal.loop-i-preserved
loop-i-preserved c =
    let few = c.loop-i.invariant.few in
    let step = lent_kept (get_or c.loop-i.row c.loop-i.i 0) (get_or c.args.other.now c.loop-i.i 0) c.loop-i.lent
    (search rules) (c.type_inv.other c.loop-i.i).fits few in
    record {
      value = subtract_kept c.loop-i.row c.args.row.now c.args.other.now c.loop-i.i c.loop-i.lent _ _ (omega arith) (omega arith) (omega arith) (c.loop-i.invariant.rest c.loop-i.i (omega arith)) step.0 c.loop-i.invariant.value;
      rest = rest_kept c.loop-i.row c.args.row.now c.loop-i.i _ c.loop-i.invariant.rest;
      few = step.1;
      less = bound_kept c.loop-i.row c.loop-i.i _ (omega arith) c.loop-i.invariant.less;
    }
