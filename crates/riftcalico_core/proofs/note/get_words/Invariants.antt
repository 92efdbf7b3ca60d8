-- The words of the steps so far, and those of the rest.
use Rattle.std.proofs.Common.{◌≡◌, ◌++◌, drop, string_bytes}
use Rattle.capnp_call.specs.Seen.{path_seen}
use Rattle.riftcalico_core.specs.Notes.{words_behind_points}
use Rattle.riftcalico_core.proofs.note.get_words.Given as goal

abbrev pub invariant-loop-step : goal.invariant-loop-step
invariant-loop-step l = string_bytes l.words ++ words_behind_points (path_seen (drop l.step-index l.steps)) ≡ words_behind_points (path_seen l.fn.steps)
