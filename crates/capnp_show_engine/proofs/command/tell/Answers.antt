use Rattle.capnp_show_engine.proofs.Outcomes.{told_by_write}
use Rattle.capnp_show_engine.proofs.command.tell.Goals as goal

pub returns : goal.returns
returns g c = told_by_write c.write_all.result _ _ _ _ _ c.write_all.ensures.whole c.write_all.ensures.failed c.write_all.ensures.beginning
