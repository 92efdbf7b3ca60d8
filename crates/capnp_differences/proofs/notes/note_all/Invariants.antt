-- What is left are the notes of the pairs from one on.
use Rattle.std.proofs.Common.{◌≡◌, ◌++◌, drop}
use Rattle.capnp_schema.specs.Entries.{lists_seen}
use Rattle.capnp_differences.specs.Notes.{notes_of}
use Rattle.capnp_differences.proofs.notes.note_all.Given as goal

abbrev pub invariant-loop-i : goal.invariant-loop-i
invariant-loop-i l = l.notes.items ++ notes_of (lists_seen l.schemas) (drop l.i l.pairs) ≡ notes_of (lists_seen l.schemas) l.pairs
