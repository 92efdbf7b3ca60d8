-- The steps up to one are as many as its index and one.
use Rattle.std.proofs.Common.{ℕ, add-one, ap, take, ◌∙◌, ◌+◌}
use Rattle.capnp_call.specs.Seen.{path_seen, step_seen}
use Rattle.riftcalico_core.proofs.PathsTaken.{taken_seen}
use Rattle.riftcalico_core.proofs.note.steps_to.Goals as goal

pub returns-then-index-path : goal.returns-then-index-path
returns-then-index-path c = taken_seen step_seen c.args.path.now (c.args.index + 1) ∙ ap (λ (n : ℕ). take n (path_seen c.args.path.now)) (add-one c.args.index)
