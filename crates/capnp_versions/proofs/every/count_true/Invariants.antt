-- How many of the answers so far are true, and of the rest.
use Rattle.std.proofs.Common.{◌≡◌, ◌+◌, ◌≤◌, drop}
use Rattle.capnp_versions.specs.Shared.{count_true}
use Rattle.capnp_versions.proofs.every.count_true.Given as goal

abbrev pub invariant-loop-answer : goal.invariant-loop-answer
invariant-loop-answer l = (l.count + count_true (drop l.answer-index l.answers) ≡ count_true l.answers) × (l.count ≤ l.answer-index)
