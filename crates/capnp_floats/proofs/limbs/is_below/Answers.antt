-- The highest place where the rows differ decides; above it they are the same.
use Rattle.std.proofs.Common.{arith, sym, ◌∙◌, ◌-◌}
use Rattle.capnp_floats.proofs.Naturals.{last_differs, last_same}
use Rattle.capnp_floats.proofs.limbs.is_below.Goals as goal

pub returns-then-row-left : goal.returns-then-row-left
returns-then-row-left c = last_differs c.args.row.now c.args.other.now (c.places.left - 1) c.places.left (omega arith) (omega arith) (omega arith)
    (λ k. (c.type_inv.row k).fits) (λ k. (c.type_inv.other k).fits) c.if-row-left.true ∙ sym c.places.invariant.same

pub places-preserved : goal.places-preserved
places-preserved c = record {
  inside = omega arith;
  same = c.places.invariant.same
      ∙ last_same c.args.row.now c.args.other.now (c.places.left - 1) c.places.left (omega arith) (omega arith) (omega arith) c.if-row-left.false;
}
