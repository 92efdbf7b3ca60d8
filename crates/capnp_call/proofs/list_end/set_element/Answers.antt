-- The element has what is given, or the refusal is the machine's.
use Rattle.std.proofs.Common.{List, ap, subst, ℕ}
use Rattle.capnp_arena.specs.Forest.{tree}
use Rattle.capnp_arena.specs.Segment.{segment}
use Rattle.capnp_schema.specs.Entries.{lists_seen}
use Rattle.capnp_schema.specs.Types.{ListType, seen_type}
use Rattle.capnp_records.specs.Call.{ElementAt, Reply, Set, Source}
use Rattle.capnp_records.specs.Writes.Stand.{OnList}
use Rattle.capnp_records.specs.Writes.TreeEnds.{TreeDoes}
use Rattle.capnp_slots.specs.Sources.{source_seen}
use Rattle.capnp_call.proofs.ElementsDone.{room_at}
use Rattle.capnp_call.proofs.Outcomes.{by_outcome}
use Rattle.capnp_call.proofs.SetsDone.{element_set, element_unset}
use Rattle.capnp_call.specs.Steps.Lists.{element_at}
use Rattle.capnp_call.specs.Seen.{reply_seen}
use Rattle.capnp_call.proofs.list_end.set_element.Goals as goal

pub set-requires-clause-room : goal.set-requires-clause-room
set-requires-clause-room c = room_at (lists_seen c.args.schemas.now) c.args.element (tree (segment c.args.arena.now) c.args.at) c.args.index c.requires.list c.requires.inside

pub returns-clause-does : goal.returns-clause-does
returns-clause-does c =
    let set = lists_seen c.args.schemas.now in
    let e = seen_type c.args.element in
    let i = c.args.index in
    let s = source_seen c.from-source.result in
    let x = tree (segment c.args.arena.now) c.args.at in
    let x' = tree (segment c.set.new.arena) c.args.at in
    subst (λ (s : Source). TreeDoes set (Set s) (element_at set e x i) (ListType e) (OnList x) (ElementAt i) (reply_seen c.reply_of.result) (OnList x')) c.from-source.ensures
    (by_outcome (λ (r : Reply). TreeDoes set (Set s) (element_at set e x i) (ListType e) (OnList x) (ElementAt i) r (OnList x')) c.set.result (reply_seen c.reply_of.result) c.reply_of.ensures
    c.set.ensures.set (element_set set e i s x x' c.source_fits.ensures (room_at set c.args.element x i c.requires.list c.requires.inside))
    c.set.ensures.refused c.set.ensures.cause (λ y same. element_unset set e i s x x' y.kind (ap (λ (b : List ℕ). tree b c.args.at) same)))
