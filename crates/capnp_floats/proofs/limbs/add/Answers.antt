-- Up to the place reached, the row and the carry are the sum of both rows' places; the places behind are as they were.
use Rattle.std.proofs.Common.{arith, refl}
use Rattle.capnp_floats.specs.Naturals.{natural_of}
use Rattle.capnp_floats.proofs.Naturals.{add_kept, rest_kept}
use Rattle.capnp_floats.proofs.limbs.add.Goals as goal

pub loop-i-init : goal.loop-i-init
unfolding natural_of
loop-i-init c = record { value = omega arith; rest = λ k h. refl }

pub loop-i-preserved : goal.loop-i-preserved
loop-i-preserved c = record {
  value = add_kept c.loop-i.row c.args.row.now c.args.other.now c.loop-i.i c.loop-i.carry _ (omega arith) (omega arith) (omega arith) (c.loop-i.invariant.rest c.loop-i.i (omega arith)) refl c.loop-i.invariant.value;
  rest = rest_kept c.loop-i.row c.args.row.now c.loop-i.i _ c.loop-i.invariant.rest;
}
