-- The lines of the brands so far.
use Rattle.std.proofs.Common.{◌≡◌, ◌++◌, string_bytes}
use Rattle.capnp_schema.specs.Entries.{lists_seen}
use Rattle.capnp_versions.specs.Shared.{notes_among}
use Rattle.capnp_versions.proofs.notes.put_notes.Given as goal

abbrev pub invariant-loop-i : goal.invariant-loop-i
invariant-loop-i l = string_bytes l.text ≡ string_bytes l.initial.text ++ notes_among (lists_seen l.set) (lists_seen l.other) l.words l.i
