-- One write after another changes nothing beside the item.
use Rattle.capnp_arena.specs.Facts.Places.{then}
use Rattle.capnp_bench.proofs.documents.fill_item.Goals as goal

pub returns-in_err-set-2-clause-changes : goal.returns-in_err-set-2-clause-changes
returns-in_err-set-2-clause-changes c = then c.set.ensures.changes c.set-2.ensures.changes

pub returns-clause-changes : goal.returns-clause-changes
returns-clause-changes c = then (then c.set.ensures.changes c.set-2.ensures.changes) c.set-3.ensures.changes
