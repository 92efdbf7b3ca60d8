-- Acts one after another; what keeps room changes no tree.
use Rattle.std.proofs.Common.{List, [], ap, arith, drop, subst, sym}
use Rattle.capnp_wire.specs.Edits.{struct_in}
use Rattle.capnp_wire.specs.Tree.{StructTree}
use Rattle.capnp_arena.specs.Message.{message_tree}
use Rattle.capnp_call.specs.declared.calls.Reply.{Reply}
use Rattle.capnp_edit_calls.specs.ActsMade.{ActsMade, nothing}
use Rattle.capnp_edit_calls.specs.Steps.Next.{IsNextOf}
use Rattle.capnp_edit_calls.specs.declared.acts.Act.{Act}
use Rattle.capnp_edit_calls.proofs.Acting.{acts_more}
use Rattle.capnp_edit_calls.proofs.message.make_acts_on_root.Goals as goal

pub loop-made-init : goal.loop-made-init
loop-made-init c =
    let s = struct_in (message_tree c.args.message.now) in
    record {
      acts_made = subst (λ (rs : List Reply). ActsMade c.args.schema s [] rs s) (sym c.in_ok-replies.ensures.items) (nothing s);
      message = c.requires.message;
      here = c.requires.here;
      room = c.requires.room;
      within = omega arith;
      capacity = c.in_ok-replies.ensures.capacity;
      count = c.in_ok-replies.ensures.len;
    }

pub loop-made-preserved : goal.loop-made-preserved
loop-made-preserved c =
    let acts = c.args.acts.now in
    let i = c.loop-made.made in
    let n = c.next_on_root-next.result.count in
    let now = struct_in (message_tree c.next_on_root-next.new.message) in
    let before = c.loop-made.replies.items in
    let after = c.next_on_root-next.new.replies.items in
    let next = subst (λ (s : StructTree). IsNextOf c.args.schema s (drop i acts) n before after now) (ap struct_in c.keep_room-held.ensures.tree)
    (subst (λ (xs : List Act). IsNextOf c.args.schema (struct_in (message_tree c.keep_room-held.new.message)) xs n before after now) c.split_at.ensures.back c.next_on_root-next.ensures.next) in
    record {
      acts_made = acts_more c.args.schema (struct_in (message_tree c.args.message.now)) (struct_in (message_tree c.loop-made.message)) now acts i n before after c.loop-made.invariant.acts_made next;
      message = c.next_on_root-next.ensures.message;
      here = c.next_on_root-next.ensures.here;
      room = c.next_on_root-next.ensures.room;
      within = omega (arith, c.next_on_root-next.ensures.next.few, c.split_at.ensures.back_len, c.loop-made.invariant.within);
      capacity = omega (arith, c.next_on_root-next.ensures.capacity, c.loop-made.invariant.capacity);
      count = omega (arith, c.next_on_root-next.ensures.len, c.loop-made.invariant.count);
    }
