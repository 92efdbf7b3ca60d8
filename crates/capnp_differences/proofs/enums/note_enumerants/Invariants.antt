-- The notes of the enumerants so far.
use Rattle.std.proofs.Common.{◌≡◌, ◌++◌}
use Rattle.capnp_schema.specs.Entries.{lists_seen}
use Rattle.capnp_differences.specs.Notes.{enumerant_change, notes_below, some_note}
use Rattle.capnp_differences.proofs.enums.note_enumerants.Given as goal

abbrev pub invariant-loop-i : goal.invariant-loop-i
invariant-loop-i l = l.notes.items ≡ l.initial.notes.items ++ notes_below (λ k. some_note l.pair l.field (enumerant_change (lists_seen l.schemas) l.enums k)) l.i
