-- What is left are the lines of the notes from one on.
use Rattle.std.proofs.Common.{◌≡◌, ◌++◌, drop, string_bytes}
use Rattle.capnp_schema.specs.Entries.{lists_seen}
use Rattle.capnp_versions.specs.Changes.{changes_text}
use Rattle.capnp_versions.proofs.changes.put_changes.Given as goal

abbrev pub invariant-loop-note : goal.invariant-loop-note
invariant-loop-note l =
    string_bytes l.text ++ changes_text (lists_seen l.schemas) (drop l.note-index l.notes) ≡ string_bytes l.initial.text ++ changes_text (lists_seen l.schemas) l.notes
