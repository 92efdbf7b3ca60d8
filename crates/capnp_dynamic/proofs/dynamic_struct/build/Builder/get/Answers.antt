-- A group is the same struct, a pointer's slot has what was filled there, and another slot its number.
use Rattle.std.proofs.Common.{◌≡◌, None, refl, ap, sym, ◌∙◌}
use Rattle.std.proofs.lemmas.Result.{IfErr-weaker, IfOk-weaker}
use Rattle.capnp_wire.specs.Edits.{IsDueRefusal, with_pointer_tree}
use Rattle.capnp_schema.specs.Facts.Layers.{seen_which}
use Rattle.capnp_schema.specs.Types.{is_pointer, seen_variant}
use Rattle.capnp_slots.specs.Fields.{pointer_index}
use Rattle.capnp_slots.specs.Fills.{due_in, filled_in}
use Rattle.capnp_dynamic.specs.Built.{built_schema, built_struct, place_of, struct_behind}
use Rattle.capnp_dynamic.specs.Handed.{HandsField, IsPartRefusal, IsPartWithin}
use Rattle.capnp_dynamic.specs.Steps.Handed.{HandsFilled}
use Rattle.capnp_dynamic.specs.Owners.{IsGotOf, IsPartOf}
use Rattle.capnp_dynamic.proofs.Builders.{room_for}
use Rattle.capnp_dynamic.proofs.HandedOut.{group_within, hands_group, hands_number, hands_pointed, number_within, pointed_within}
use Rattle.capnp_dynamic.proofs.Owners.{got_group, got_number, got_pointed}
use Rattle.capnp_dynamic.proofs.dynamic_struct.build.Builder.get.Goals as goal

-- ---- a group ----

pub returns-in-Some-clause-stands : goal.returns-in-Some-clause-stands
returns-in-Some-clause-stands c = hands_group c.args.field _ (built_struct c.args.self) c.in-Some.ensures refl

pub returns-in-Some-clause-ready : goal.returns-in-Some-clause-ready
returns-in-Some-clause-ready c =
    let s = built_struct c.args.self in
    record {
      planted = c.requires.ready.planted;
      room = c.in-Some.ensures.room s (room_for c.args.field (built_schema c.args.self) s c.requires.belongs c.requires.ready.room);
    }

pub returns-in-Some-clause-owner : goal.returns-in-Some-clause-owner
returns-in-Some-clause-owner c = got_group (struct_behind c.args.self) (place_of c.args.self) c.args.field _ c.in-Some.ensures refl refl

pub returns-in-Some-clause-within : goal.returns-in-Some-clause-within
returns-in-Some-clause-within c = group_within c.args.field c.in-Some.schema (built_struct c.args.self) c.in-Some.ensures

-- ---- a pointer's slot ----

pub pointed_of-requires-clause-pointer : goal.pointed_of-requires-clause-pointer
pointed_of-requires-clause-pointer c =
    ap is_pointer (sym (ap seen_variant c.which.ensures ∙ (seen_which c.get_type.result ∙ c.get_type.ensures.is))) ∙ sym c.if-is_behind.ensures

pub pointed_of-requires-clause-room : goal.pointed_of-requires-clause-room
pointed_of-requires-clause-room c = room_for c.args.field (built_schema c.args.self) (built_struct c.args.self) c.requires.belongs c.requires.ready.room

pub returns-then-is_behind-clause-stands : goal.returns-then-is_behind-clause-stands
returns-then-is_behind-clause-stands c =
    let f = c.args.field in
    let s = built_struct c.args.self in
    IfOk-weaker c.pointed_of.result (HandsFilled f s) (HandsField f s)
    (λ v h. hands_pointed f s v c.in_default.ensures
    (ap is_pointer (sym (ap seen_variant c.which.ensures ∙ (seen_which c.get_type.result ∙ c.get_type.ensures.is))) ∙ sym c.if-is_behind.ensures) h)
    c.pointed_of.ensures.stands

pub returns-then-is_behind-clause-owner : goal.returns-then-is_behind-clause-owner
returns-then-is_behind-clause-owner c =
    let f = c.args.field in
    let s = built_struct c.args.self in
    let a = struct_behind c.args.self in
    let p = place_of c.args.self in
    IfOk-weaker c.pointed_of.result (IsPartOf a p (pointer_index f) (with_pointer_tree s (pointer_index f) (filled_in f s))) (IsGotOf a p f)
    (λ v h. got_pointed a p f v c.in_default.ensures
    (ap is_pointer (sym (ap seen_variant c.which.ensures ∙ (seen_which c.get_type.result ∙ c.get_type.ensures.is))) ∙ sym c.if-is_behind.ensures) h)
    c.pointed_of.ensures.owner

pub returns-then-is_behind-clause-within : goal.returns-then-is_behind-clause-within
returns-then-is_behind-clause-within c =
    let f = c.args.field in
    let s = built_struct c.args.self in
    IfOk-weaker c.pointed_of.result (λ v. due_in f s ≡ None) (λ v. IsPartWithin f s) (λ v h. pointed_within f s h) c.pointed_of.ensures.within

pub returns-then-is_behind-clause-cause : goal.returns-then-is_behind-clause-cause
returns-then-is_behind-clause-cause c =
    let f = c.args.field in
    let s = built_struct c.args.self in
    IfErr-weaker c.pointed_of.result (λ e. IsDueRefusal e (due_in f s)) (IsPartRefusal f s)
    (λ e h. (
      c.in_default.ensures,
      ap is_pointer (sym (ap seen_variant c.which.ensures ∙ (seen_which c.get_type.result ∙ c.get_type.ensures.is))) ∙ sym c.if-is_behind.ensures,
      h,
    ))
    c.pointed_of.ensures.cause

-- ---- another slot ----

pub number_of-requires-clause-number : goal.number_of-requires-clause-number
number_of-requires-clause-number c =
    ap is_pointer (sym (ap seen_variant c.which.ensures ∙ (seen_which c.get_type.result ∙ c.get_type.ensures.is))) ∙ sym c.if-is_behind.ensures

pub returns-clause-stands : goal.returns-clause-stands
returns-clause-stands c =
    hands_number c.args.field (built_struct c.args.self) c.number_of.result c.in_default.ensures
    (ap is_pointer (sym (ap seen_variant c.which.ensures ∙ (seen_which c.get_type.result ∙ c.get_type.ensures.is))) ∙ sym c.if-is_behind.ensures)
    c.number_of.ensures.stands

pub returns-clause-within : goal.returns-clause-within
returns-clause-within c =
    number_within c.args.field (built_struct c.args.self)
    (ap is_pointer (sym (ap seen_variant c.which.ensures ∙ (seen_which c.get_type.result ∙ c.get_type.ensures.is))) ∙ sym c.if-is_behind.ensures)

pub returns-clause-owner : goal.returns-clause-owner
returns-clause-owner c =
    got_number (struct_behind c.args.self) (place_of c.args.self) c.args.field c.number_of.result c.in_default.ensures
    (ap is_pointer (sym (ap seen_variant c.which.ensures ∙ (seen_which c.get_type.result ∙ c.get_type.ensures.is))) ∙ sym c.if-is_behind.ensures)
