-- The names so far that are near.
use Rattle.std.proofs.Common.{◌≡◌, map, string_bytes}
use Rattle.riftcalico_core.specs.Near.{near_note}
use Rattle.riftcalico_core.proofs.near.get_near_structs.Given as goal

abbrev pub invariant-loop-name : goal.invariant-loop-name
invariant-loop-name l = string_bytes l.note ≡ near_note l.fn.asked (map (λ x. x.now) l.yielded)
