-- Each call has one reply, in order; what keeps room changes no tree.
use Rattle.std.proofs.Common.{◌<◌, ◌+◌, ◌++◌, ◌∷◌, ◌≡◌, ◌∙◌, [], IsTrue, List, ap, get_or, sym, subst, arith, length, take}
use Rattle.std.proofs.lemmas.List.{take_more}
use Rattle.capnp_wire.specs.Edits.{is_struct, struct_in}
use Rattle.capnp_wire.specs.Tree.{StructTree, Tree}
use Rattle.capnp_arena.specs.Message.{message_tree}
use Rattle.capnp_schema.specs.StructHandles.{number_of, set_of}
use Rattle.capnp_slots.specs.Standing.{IsUnder}
use Rattle.capnp_call.specs.Runs.{IsCallMade, MakesCalls}
use Rattle.capnp_call.specs.declared.calls.Call.{Call}
use Rattle.capnp_call.specs.declared.calls.Reply.{Reply}
use Rattle.capnp_call.proofs.Making.{makes_more, makes_none}
use Rattle.capnp_call.proofs.message.make_calls_on_root.Goals as goal

pub loop-call-init : goal.loop-call-init
loop-call-init c =
    let s = struct_in (message_tree c.args.message.now) in
    record {
      made = subst (λ (rs : List Reply). MakesCalls (set_of c.args.schema) (number_of c.args.schema) s [] rs s) (sym c.in_ok-replies.ensures.items) (makes_none (set_of c.args.schema) (number_of c.args.schema) s);
      message = c.requires.message;
      here = c.requires.here;
      room = c.requires.room;
      capacity = c.in_ok-replies.ensures.capacity;
      count = c.in_ok-replies.ensures.len;
    }

pub call_on_root-reply-requires-clause-here : goal.call_on_root-reply-requires-clause-here
call_on_root-reply-requires-clause-here c = subst (λ (t : Tree). IsTrue (is_struct t)) (sym c.keep_room-held.ensures.tree) c.loop-call.invariant.here

pub call_on_root-reply-requires-clause-room : goal.call_on_root-reply-requires-clause-room
call_on_root-reply-requires-clause-room c = subst (λ (t : Tree). IsUnder c.args.schema (struct_in t)) (sym c.keep_room-held.ensures.tree) c.loop-call.invariant.room

pub loop-call-preserved : goal.loop-call-preserved
loop-call-preserved c =
    let set = set_of c.args.schema in
    let b = number_of c.args.schema in
    let old = struct_in (message_tree c.args.message.now) in
    let now = struct_in (message_tree c.call_on_root-reply.new.message) in
    let calls = c.args.calls.now in
    let i = c.loop-call.call-index in
    let inside : i < length calls = omega (arith, c.loop-call-test.true) in
    let items = rw c.if-is_err.ensures.negation at c.push.ensures.items in
    let len = rw c.if-is_err.ensures.negation at c.push.ensures.len in
    let call : Call = c.call-item.result in
    let item : get_or calls i call ≡ call = sym c.call-item.is in
    let made = subst (λ (s : StructTree). IsCallMade set b s call c.call_on_root-reply.result now) (ap struct_in c.keep_room-held.ensures.tree) c.call_on_root-reply.ensures.made in
    let next = makes_more set b old _ now (take i calls) c.loop-call.replies.items call c.call_on_root-reply.result c.loop-call.invariant.made made in
    record {
      made = subst (λ (rs : List Reply). MakesCalls set b old (take (i + 1) calls) rs now) (sym items)
          (subst (λ (cs : List Call). MakesCalls set b old cs (c.loop-call.replies.items ++ c.call_on_root-reply.result ∷ []) now) (sym (take_more calls i call inside ∙ ap (λ (k : Call). take i calls ++ k ∷ []) item)) next);
      message = c.call_on_root-reply.ensures.message;
      here = c.call_on_root-reply.ensures.here;
      room = c.call_on_root-reply.ensures.room;
      capacity = omega (arith, c.push.ensures.capacity, c.loop-call.invariant.capacity);
      count = omega (arith, len, c.loop-call.invariant.count);
    }
