use Rattle.std.proofs.Common.{refl}
use Rattle.capnp_arena.specs.Facts.Places.{unchanged}
use Rattle.capnp_set_writer.proofs.values.put_value_record.Goals as goal

pub returns-in-Void-clause-frame : goal.returns-in-Void-clause-frame
returns-in-Void-clause-frame c = record { planted = c.requires.planted; changes = unchanged _ _ _ refl }
