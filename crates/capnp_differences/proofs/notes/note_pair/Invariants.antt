-- The notes of the fields so far.
use Rattle.std.proofs.Common.{◌≡◌, ◌++◌}
use Rattle.capnp_schema.specs.Entries.{lists_seen}
use Rattle.capnp_differences.specs.Notes.{field_notes, notes_below}
use Rattle.capnp_differences.proofs.notes.note_pair.Given as goal

abbrev pub invariant-loop-i : goal.invariant-loop-i
invariant-loop-i l = l.notes.items ≡ l.initial.notes.items ++ notes_below (field_notes (lists_seen l.schemas) l.pair) l.i
