-- Up to the place reached, the row and the carry are the product of the row's places and the
-- number more; the places behind are as they were.
use Rattle.std.proofs.Common.{arith, refl}
use Rattle.capnp_floats.specs.Naturals.{natural_of}
use Rattle.capnp_floats.proofs.Naturals.{scale_kept, rest_kept}
use Rattle.capnp_floats.proofs.limbs.scale.Goals as goal

pub loop-i-init : goal.loop-i-init
unfolding natural_of
loop-i-init c = record { value = omega arith; rest = λ k h. refl }

pub loop-i-preserved : goal.loop-i-preserved
loop-i-preserved c = record {
  value = scale_kept c.loop-i.row c.args.row.now c.loop-i.i c.args.factor c.loop-i.carry c.args.more _ (omega arith) (omega arith) (c.loop-i.invariant.rest c.loop-i.i (omega arith)) refl c.loop-i.invariant.value;
  rest = rest_kept c.loop-i.row c.args.row.now c.loop-i.i _ c.loop-i.invariant.rest;
}
