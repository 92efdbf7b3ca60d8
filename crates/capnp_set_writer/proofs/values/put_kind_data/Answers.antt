use Rattle.capnp_arena.specs.Facts.Frames.{struct_after}
use Rattle.capnp_set_writer.proofs.Trees.{on_ok}
use Rattle.capnp_set_writer.proofs.values.put_kind_data.Goals as goal

pub returns-clause-frame : goal.returns-clause-frame
returns-clause-frame c = on_ok c.put_data.result (λ h. struct_after c.set_number.ensures.changes h) c.put_data.ensures.frame
