-- A slot is new with its size, or the refusal is the machine's.
use Rattle.std.proofs.Common.{refl}
use Rattle.capnp_arena.specs.Built.{built_at}
use Rattle.capnp_schema.specs.FieldLists.{typed_of}
use Rattle.capnp_records.specs.Call.{Initn, Refused, Reply}
use Rattle.capnp_slots.specs.Fields.{field_set}
use Rattle.capnp_slots.specs.Inits.{initn_content}
use Rattle.capnp_call.specs.Steps.Ends.{FieldDoes}
use Rattle.capnp_call.specs.Seen.{reply_seen}
use Rattle.capnp_call.specs.Ways.{target_in}
use Rattle.capnp_call.proofs.EndsDone.{initn_refused, slot_does, stays}
use Rattle.capnp_call.proofs.Outcomes.{both, by_outcome, same_struct}
use Rattle.capnp_call.proofs.Replies.{refused_undone}
use Rattle.capnp_call.proofs.end.initn_field.Goals as goal

pub returns-clause-does : goal.returns-clause-does
returns-clause-does c =
    let f = c.args.field in
    let n = c.args.count in
    let s = built_at c.args.arena.now c.args.place in
    let s' = built_at c.initn.new.arena c.args.place in
    by_outcome (λ (r : Reply). FieldDoes f (Initn n) s r s') c.initn.result (reply_seen c.reply_of.result) c.reply_of.ensures
    (both _ _ c.initn.result c.initn.ensures.slot (both _ _ c.initn.result c.initn.ensures.has c.initn.ensures.written))
    (λ h. slot_does f s s' (Initn n) (initn_content f n) h.0 (λ whole. h.1.0) h.1.1)
    c.initn.ensures.refused c.initn.ensures.cause
    (λ e same cause. stays f s s' (Initn n) (Refused e.kind) (refused_undone e.kind) (same_struct c.args.arena.now c.initn.new.arena c.args.place same)
    (λ whole old. initn_refused (field_set f) (target_in whole f s) n (typed_of f).type old e.kind refl cause))
