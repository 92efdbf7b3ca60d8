-- One pair more.
use Rattle.capnp_schema.specs.Entries.{lists_seen}
use Rattle.capnp_differences.specs.Notes.{notes_of}
use Rattle.capnp_differences.proofs.Noting.{next_noted}
use Rattle.capnp_differences.proofs.notes.note_all.Goals as goal

pub loop-i-preserved : goal.loop-i-preserved
loop-i-preserved c =
    next_noted (lists_seen c.args.schemas.now) c.args.pairs.now c.loop-i.i c.at.result c.loop-i.notes.items c.note_pair.new.notes.items (notes_of (lists_seen c.args.schemas.now) c.args.pairs.now)
    c.at.ensures c.loop-i.invariant c.in_ok-note_pair.ensures.noted
