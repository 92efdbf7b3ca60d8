-- The lines so far, and those of the notes that are left, are those of all.
use Rattle.std.proofs.Common.{◌≡◌, ◌++◌, drop, string_bytes}
use Rattle.capnp_schema.specs.Entries.{lists_seen}
use Rattle.capnp_set_engine.specs.Notes.{note_lines}
use Rattle.capnp_set_engine.proofs.notes.get_lines.Given as goal

abbrev pub invariant-loop-index : goal.invariant-loop-index
invariant-loop-index l = string_bytes l.lines ++ note_lines (lists_seen l.schemas) (drop l.index l.notes) ≡ note_lines (lists_seen l.schemas) l.notes
