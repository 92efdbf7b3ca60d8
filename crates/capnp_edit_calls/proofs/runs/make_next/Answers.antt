-- One act, or a few as one.
use Rattle.capnp_arena.specs.Built.{built_at}
use Rattle.capnp_arena.specs.Facts.Places.{then}
use Rattle.capnp_call.proofs.Sizes.{standing_on}
use Rattle.capnp_edit_calls.proofs.Acting.{next_tried}
use Rattle.capnp_edit_calls.proofs.runs.make_next.Goals as goal

pub make_one-requires-in-Apart-clause-ready : goal.make_one-requires-in-Apart-clause-ready
make_one-requires-in-Apart-clause-ready c = record {
  stands = c.requires.ready.stands;
  standing = standing_on c.args.schema c.args.arena.now c.join_appends.new.arena c.args.place c.requires.ready.standing c.join_appends.ensures.frame.planted;
}

pub returns-in-Apart-clause-next : goal.returns-in-Apart-clause-next
returns-in-Apart-clause-next c =
    let tried = c.in-Apart.ensures.joined in
    next_tried c.args.schema (built_at c.args.arena.now c.args.place) (built_at c.join_appends.new.arena c.args.place) (built_at c.make_one-in-Apart.new.arena c.args.place) c.args.acts.now c.make_one-in-Apart.result.count c.args.replies.now.items c.make_one-in-Apart.new.replies.items
    tried.1 c.make_one-in-Apart.ensures.next

pub returns-in-Apart-clause-frame : goal.returns-in-Apart-clause-frame
returns-in-Apart-clause-frame c = record {
  planted = c.make_one-in-Apart.ensures.frame.planted;
  changes = then c.join_appends.ensures.frame.changes c.make_one-in-Apart.ensures.frame.changes;
}
