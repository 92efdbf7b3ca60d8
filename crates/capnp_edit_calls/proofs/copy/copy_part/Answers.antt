-- What was copied is set.
use Rattle.capnp_arena.specs.Built.{built_at}
use Rattle.capnp_arena.specs.Segment.{segment}
use Rattle.capnp_call.specs.Seen.{path_seen, reply_seen}
use Rattle.capnp_slots.specs.SetValues.{source_of}
use Rattle.capnp_edit_calls.proofs.Copied.{copied}
use Rattle.capnp_edit_calls.proofs.copy.copy_part.Goals as goal

pub returns-in-Ok-clause-copies : goal.returns-in-Ok-clause-copies
returns-in-Ok-clause-copies c =
    let at = c.in-Ok.ensures.kept in
    copied c.args.schema (built_at c.args.arena.now c.args.place) (path_seen c.args.path.now) (reply_seen c.set_kept.result) (built_at c.set_kept.new.arena c.args.place) (segment c.args.arena.now) (segment c.set_kept.new.arena) (path_seen c.args.from.now) c.in-Ok.kept at
    (c.set_kept.ensures.sets (source_of at.value) at.is_kept)
