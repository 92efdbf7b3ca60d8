-- What is started anew stands in the element, and a refusal is the machine's.
use Rattle.std.proofs.Common.{List, ap, inl, inr, refl, ℕ}
use Rattle.capnp_arena.specs.Forest.{tree}
use Rattle.capnp_arena.specs.Segment.{segment}
use Rattle.capnp_schema.specs.Entries.{lists_seen}
use Rattle.capnp_schema.specs.Types.{ListType, seen_type}
use Rattle.capnp_records.specs.Call.{ElementAt, Initn, Reply}
use Rattle.capnp_records.specs.Writes.Contents.{initn_tree}
use Rattle.capnp_records.specs.Writes.Slots.{At}
use Rattle.capnp_records.specs.Writes.Stand.{OnList, seen_stand}
use Rattle.capnp_records.specs.Writes.TreeEnds.{TreeDoes}
use Rattle.capnp_call.proofs.ElementsDone.{element_init_refused, room_at}
use Rattle.capnp_call.proofs.Outcomes.{both, by_outcome}
use Rattle.capnp_call.proofs.Replies.{refused_undone}
use Rattle.capnp_call.specs.Steps.Lists.{element_at}
use Rattle.capnp_call.specs.Seen.{reply_seen}
use Rattle.capnp_call.proofs.list_end.initn_element.Goals as goal

pub init-requires-clause-room : goal.init-requires-clause-room
init-requires-clause-room c = room_at (lists_seen c.args.schemas.now) c.args.element (tree (segment c.args.arena.now) c.args.at) c.args.index c.requires.list c.requires.inside

pub returns-clause-does : goal.returns-clause-does
returns-clause-does c =
    let set = lists_seen c.args.schemas.now in
    let e = seen_type c.args.element in
    let i = c.args.index in
    let n = c.args.count in
    let x = tree (segment c.args.arena.now) c.args.at in
    let x' = tree (segment c.init.new.arena) c.args.at in
    let there = room_at set c.args.element x i c.requires.list c.requires.inside in
    by_outcome (λ (r : Reply). TreeDoes set (Initn n) (element_at set e x i) (ListType e) (OnList x) (ElementAt i) r (OnList x')) c.init.result (reply_seen c.reply_of.result) c.reply_of.ensures
    (both _ _ c.init.result c.init.ensures.has c.init.ensures.written) (λ h. inr (inl (At (initn_tree set e n), h.0, there, refl, ap OnList h.1)))
    c.init.ensures.refused c.init.ensures.cause
    (λ y same cause. inl (element_init_refused set (element_at set e x i) n e (seen_stand set (ListType e) (OnList x)) y.kind refl cause, ap (λ (b : List ℕ). OnList (tree b c.args.at)) same, refused_undone y.kind))
