-- A read of an element changes nothing.
use Rattle.std.proofs.Common.{inl, refl, subst, sym}
use Rattle.capnp_arena.specs.Forest.{tree}
use Rattle.capnp_arena.specs.Segment.{segment}
use Rattle.capnp_schema.specs.Entries.{lists_seen}
use Rattle.capnp_schema.specs.Types.{ListType, seen_type}
use Rattle.capnp_records.specs.Writes.Stand.{OnList, seen_stand}
use Rattle.capnp_call.proofs.Replies.{get_undone}
use Rattle.capnp_records.specs.Record as value
use Rattle.capnp_call.specs.Seen.{reply_seen}
use Rattle.capnp_call.specs.Steps.Lists.{ElementDoes, element_at}
use Rattle.capnp_call.specs.declared.calls.Op.{Op}
use Rattle.capnp_call.proofs.list_end.do_element.Goals as goal

pub returns-in-Get-clause-does : goal.returns-in-Get-clause-does
returns-in-Get-clause-does c =
    let set = lists_seen c.args.schemas.now in
    let e = seen_type c.args.element in
    let x = tree (segment c.args.arena.now) c.args.at in
    subst (λ (o : Op). ElementDoes set e c.args.index o x c.get_element.result x) (sym c.in-Get.is)
    (inl (
      c.get_element.ensures (seen_stand set (ListType e) (OnList x)),
      refl,
      get_undone set (element_at set e x c.args.index) value.Void (reply_seen c.get_element.result) value.Void (c.get_element.ensures value.Void),
    ))
