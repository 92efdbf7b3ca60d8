-- Each call has one reply, in order.
use Rattle.std.proofs.Common.{◌<◌, ◌+◌, ◌++◌, ◌∷◌, ◌≡◌, ◌∙◌, [], List, ap, get_or, refl, sym, subst, arith, length, take}
use Rattle.std.proofs.lemmas.List.{take_more}
use Rattle.capnp_schema.specs.StructHandles.{number_of, set_of}
use Rattle.capnp_arena.specs.Built.{built_at}
use Rattle.capnp_arena.specs.Facts.Places.{then, unchanged}
use Rattle.capnp_call.specs.Runs.{MakesCalls}
use Rattle.capnp_call.specs.declared.calls.Call.{Call}
use Rattle.capnp_call.specs.declared.calls.Reply.{Reply}
use Rattle.capnp_call.proofs.Making.{makes_more, makes_none}
use Rattle.capnp_call.proofs.Sizes.{standing_on}
use Rattle.capnp_call.proofs.runs.make_calls.Goals as goal

pub loop-call-init : goal.loop-call-init
loop-call-init c =
    let s = built_at c.args.arena.now c.args.place in
    record {
      made = subst (λ (rs : List Reply). MakesCalls (set_of c.args.schema) (number_of c.args.schema) s [] rs s) (sym c.in_ok-replies.ensures.items) (makes_none (set_of c.args.schema) (number_of c.args.schema) s);
      standing = c.requires.ready.standing;
      changes = unchanged _ _ _ refl;
      capacity = c.in_ok-replies.ensures.capacity;
      count = c.in_ok-replies.ensures.len;
    }

pub loop-call-preserved : goal.loop-call-preserved
loop-call-preserved c =
    let set = set_of c.args.schema in
    let b = number_of c.args.schema in
    let old = built_at c.args.arena.now c.args.place in
    let now = built_at c.call_at-reply.new.arena c.args.place in
    let calls = c.args.calls.now in
    let i = c.loop-call.call-index in
    let inside : i < length calls = omega (arith, c.loop-call-test.true) in
    let items = rw c.if-is_err.ensures.negation at c.push.ensures.items in
    let len = rw c.if-is_err.ensures.negation at c.push.ensures.len in
    let call : Call = c.call-item.result in
    let item : get_or calls i call ≡ call = sym c.call-item.is in
    let next = makes_more set b old _ now (take i calls) c.loop-call.replies.items call c.call_at-reply.result c.loop-call.invariant.made c.call_at-reply.ensures.made in
    record {
      made = subst (λ (rs : List Reply). MakesCalls set b old (take (i + 1) calls) rs now) (sym items)
          (subst (λ (cs : List Call). MakesCalls set b old cs (c.loop-call.replies.items ++ c.call_at-reply.result ∷ []) now) (sym (take_more calls i call inside ∙ ap (λ (k : Call). take i calls ++ k ∷ []) item)) next);
      standing = standing_on c.args.schema c.loop-call.arena c.call_at-reply.new.arena c.args.place c.loop-call.invariant.standing c.call_at-reply.ensures.frame.planted;
      changes = then c.loop-call.invariant.changes c.call_at-reply.ensures.frame.changes;
      capacity = omega (arith, c.push.ensures.capacity, c.loop-call.invariant.capacity);
      count = omega (arith, len, c.loop-call.invariant.count);
    }
