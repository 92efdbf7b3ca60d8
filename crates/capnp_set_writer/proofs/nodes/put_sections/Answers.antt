use Rattle.capnp_arena.specs.Facts.Places.{then}
use Rattle.capnp_set_writer.proofs.nodes.put_sections.Goals as goal

pub returns-clause-frame : goal.returns-clause-frame
returns-clause-frame c = record { planted = c.set_number-6.ensures.planted; changes = then (then (then (then (then c.set_number.ensures.changes c.set_number-2.ensures.changes) c.set_number-3.ensures.changes) c.set_number-4.ensures.changes) c.set_number-5.ensures.changes) c.set_number-6.ensures.changes }
