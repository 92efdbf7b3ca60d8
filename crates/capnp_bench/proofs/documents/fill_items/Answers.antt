-- One item after another is written.
use Rattle.capnp_arena.specs.Facts.Places.{at_then}
use Rattle.std.proofs.Common.{arith, inl, refl}
use Rattle.capnp_bench.proofs.documents.fill_items.Goals as goal

pub loop-index-init : goal.loop-index-init
loop-index-init c = record { forest = c.requires.forest; holds = c.requires.holds; changes = record { longer = omega arith; stays = λ k l n o. refl; grows = λ k o. inl o } }

pub loop-index-preserved : goal.loop-index-preserved
loop-index-preserved c = record {
  forest = c.in_ok-fill_at.ensures.forest;
  holds = c.in_ok-fill_at.ensures.holds;
  changes = at_then c.loop-index.invariant.changes c.in_ok-fill_at.ensures.changes;
}
