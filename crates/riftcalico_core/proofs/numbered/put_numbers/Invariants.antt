-- The lines so far are numbered.
use Rattle.std.proofs.Common.{◌≡◌, map, string_bytes}
use Rattle.riftcalico_core.specs.Numbered.{each_numbered}
use Rattle.riftcalico_core.proofs.numbered.put_numbers.Given as goal

abbrev pub invariant-loop-line : goal.invariant-loop-line
invariant-loop-line l = string_bytes l.text ≡ each_numbered l.fn.number (map (λ x. x.now) l.yielded)
