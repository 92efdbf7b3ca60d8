-- By the law of runs.
use Rattle.capnp_edit_calls.proofs.ActsRun.{acts_run}
use Rattle.capnp_edit_calls.proofs.laws.acts_law.Goals as goal

pub returns : goal.returns
returns c = acts_run c.overlay_law.ensures
