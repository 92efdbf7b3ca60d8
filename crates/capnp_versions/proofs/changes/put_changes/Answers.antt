-- One more note, and none is left.
use Rattle.std.proofs.Common.{arith, refl, string_bytes, ◌++◌}
use Rattle.capnp_schema.specs.Entries.{lists_seen}
use Rattle.capnp_versions.specs.Changes.{changes_text}
use Rattle.capnp_versions.proofs.ChangesPut.{last_change, next_change}
use Rattle.capnp_versions.proofs.changes.put_changes.Goals as goal

pub loop-note-preserved : goal.loop-note-preserved
loop-note-preserved c =
    next_change (lists_seen c.args.schemas.now) c.args.notes.now c.loop-note.note-index _ _ (string_bytes c.loop-note.text) (string_bytes c.put_line.new.text)
    (string_bytes c.args.text.now ++ changes_text (lists_seen c.args.schemas.now) c.args.notes.now) c.loop-note-test.true refl c.loop-note.invariant c.in_ok-put_line.ensures.put

pub returns-clause-put : goal.returns-clause-put
returns-clause-put c =
    last_change (lists_seen c.args.schemas.now) c.args.notes.now c.loop-note.note-index (string_bytes c.loop-note.text)
    (string_bytes c.args.text.now ++ changes_text (lists_seen c.args.schemas.now) c.args.notes.now) (omega (arith, c.loop-note-test.false)) c.loop-note.invariant
