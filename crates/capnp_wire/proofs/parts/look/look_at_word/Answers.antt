use Rattle.capnp_wire.specs.Facts.Levels.{below_step}
use Rattle.capnp_wire.proofs.parts.look.look_at_word.Goals as goal

pub returns : goal.returns
returns c = rw below_step (rw (← c.locate.ensures.value) c.look_at_target.ensures)
