-- The steps so far, and those that are left, are those of the path.
use Rattle.std.proofs.Common.{◌≡◌, ◌++◌, drop, map}
use Rattle.capnp_call.specs.Seen.{step_seen}
use Rattle.capnp_words.specs.Seen as word
use Rattle.riftcalico_core.proofs.calls.steps_of.Given as goal

abbrev pub invariant-loop-step : goal.invariant-loop-step
invariant-loop-step l = map step_seen l.steps.items ++ map word.step_text_seen (drop l.step-index l.step-items) ≡ map word.step_text_seen l.path.steps.items
