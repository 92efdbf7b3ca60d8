-- The lines of the parts so far, and of those that are left.
use Rattle.std.proofs.Common.{◌≡◌, ◌++◌, drop, string_bytes}
use Rattle.capnp_call.specs.Seen.{path_seen}
use Rattle.riftcalico_core.specs.AllFaults.{part_lines}
use Rattle.riftcalico_core.proofs.all_faults.get_part_lines.Given as goal

abbrev pub invariant-loop-place : goal.invariant-loop-place
invariant-loop-place l = string_bytes l.lines ++ part_lines (path_seen l.path) (drop l.place-index l.places) ≡ part_lines (path_seen l.path) l.places
