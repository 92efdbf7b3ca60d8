-- One write after another changes nothing beside the struct.
use Rattle.capnp_arena.specs.Facts.Places.{then}
use Rattle.capnp_bench.proofs.sets.fill.Goals as goal

pub returns-in_err-set-2-clause-changes : goal.returns-in_err-set-2-clause-changes
returns-in_err-set-2-clause-changes c = then (then c.set.ensures.changes c.start.ensures.changes) c.set-2.ensures.changes

pub returns-in_err-set-3-clause-changes : goal.returns-in_err-set-3-clause-changes
returns-in_err-set-3-clause-changes c = then (then (then c.set.ensures.changes c.start.ensures.changes) c.set-2.ensures.changes) c.set-3.ensures.changes

pub returns-clause-changes : goal.returns-clause-changes
returns-clause-changes c =
    then (then (then (then c.set.ensures.changes c.start.ensures.changes) c.set-2.ensures.changes) c.set-3.ensures.changes) c.set-4.ensures.changes
