-- The words are the lines so far that have calls.
use Rattle.std.proofs.Common.{◌≡◌, filter, map, not}
use Rattle.riftcalico_core.specs.Plans.{is_remark}
use Rattle.riftcalico_core.proofs.words.split_lines.Given as goal

abbrev pub invariant-loop-line : goal.invariant-loop-line
invariant-loop-line l = map (λ w. w.now) l.words.items ≡ filter (λ line. not (is_remark line)) (map (λ x. x.now) l.yielded)
