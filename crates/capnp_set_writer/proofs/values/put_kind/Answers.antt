use Rattle.capnp_arena.specs.Facts.Places.{then}
use Rattle.capnp_set_writer.proofs.values.put_kind.Goals as goal

pub returns-clause-frame : goal.returns-clause-frame
returns-clause-frame g c = record { planted = c.set_number-2.ensures.planted; changes = then c.set_number.ensures.changes c.set_number-2.ensures.changes }
