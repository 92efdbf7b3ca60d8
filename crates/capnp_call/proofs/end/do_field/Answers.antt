-- What each operation does is what the machine says of it.
use Rattle.std.proofs.Common.{refl, subst, sym}
use Rattle.capnp_arena.specs.Built.{built_at}
use Rattle.capnp_records.specs.Call.{Get, Has}
use Rattle.capnp_call.specs.Steps.Ends.{FieldDoes}
use Rattle.capnp_call.specs.Seen.{op_seen, reply_seen}
use Rattle.capnp_call.specs.declared.calls.Op.{Op}
use Rattle.capnp_call.proofs.EndsDone.{stays}
use Rattle.capnp_call.proofs.Replies.{flag_undone, get_undone}
use Rattle.capnp_call.specs.Ways.{target_in}
use Rattle.capnp_slots.specs.Fields.{field_set}
use Rattle.capnp_records.specs.Record as value
use Rattle.capnp_call.proofs.end.do_field.Goals as goal

pub returns-in-Get-clause-does : goal.returns-in-Get-clause-does
returns-in-Get-clause-does c =
    let f = c.args.field in
    let s = built_at c.args.arena.now c.args.place in
    subst (λ (o : Op). FieldDoes f (op_seen o) s (reply_seen c.get_field.result) s) (sym c.in-Get.is)
    (stays f s s Get (reply_seen c.get_field.result)
    (get_undone (field_set f) (target_in value.Struct f s) value.Void (reply_seen c.get_field.result) value.Void (c.get_field.ensures value.Struct value.Void)) refl c.get_field.ensures)

pub returns-in-Has-clause-does : goal.returns-in-Has-clause-does
returns-in-Has-clause-does c =
    let f = c.args.field in
    let s = built_at c.args.arena.now c.args.place in
    subst (λ (o : Op). FieldDoes f (op_seen o) s (reply_seen c.has_field.result) s) (sym c.in-Has.is)
    (stays f s s Has (reply_seen c.has_field.result) (flag_undone (reply_seen c.has_field.result) _ (c.has_field.ensures value.Struct value.Void).0) refl c.has_field.ensures)

pub returns-in-Init-clause-does : goal.returns-in-Init-clause-does
returns-in-Init-clause-does c =
    let s = built_at c.args.arena.now c.args.place in
    subst (λ (o : Op). FieldDoes c.args.field (op_seen o) s (reply_seen c.init_field.result) (built_at c.init_field.new.arena c.args.place)) (sym c.in-Init.is) c.init_field.ensures.does

pub returns-in-Initn-clause-does : goal.returns-in-Initn-clause-does
returns-in-Initn-clause-does c =
    let s = built_at c.args.arena.now c.args.place in
    subst (λ (o : Op). FieldDoes c.args.field (op_seen o) s (reply_seen c.initn_field.result) (built_at c.initn_field.new.arena c.args.place)) (sym c.in-Initn.is) c.initn_field.ensures.does

pub returns-in-Clear-clause-does : goal.returns-in-Clear-clause-does
returns-in-Clear-clause-does c =
    let s = built_at c.args.arena.now c.args.place in
    subst (λ (o : Op). FieldDoes c.args.field (op_seen o) s (reply_seen c.clear_field.result) (built_at c.clear_field.new.arena c.args.place)) (sym c.in-Clear.is) c.clear_field.ensures.does

pub returns-in-Set-clause-does : goal.returns-in-Set-clause-does
returns-in-Set-clause-does c =
    let s = built_at c.args.arena.now c.args.place in
    subst (λ (o : Op). FieldDoes c.args.field (op_seen o) s (reply_seen c.set_field.result) (built_at c.set_field.new.arena c.args.place)) (sym c.in-Set.is) c.set_field.ensures.does
