-- What is said of the field that was found is said of each of its name.
use Rattle.std.proofs.lemmas.Result.{IfErr-weaker, IfOk-weaker}
use Rattle.capnp_schema.specs.Query.{field_named}
use Rattle.capnp_schema.specs.StructHandles.{struct_records}
use Rattle.capnp_dynamic.specs.Built.{built_schema, built_struct, place_of, struct_behind}
use Rattle.capnp_dynamic.specs.Handed.{HandsField, IsPartRefusal, IsPartWithin}
use Rattle.capnp_dynamic.proofs.HandedOut.{same_due, same_handed, same_rests, same_within}
use Rattle.capnp_dynamic_readers.specs.Facts.Found.{found_belongs}
use Rattle.capnp_dynamic.specs.Owners.{IsGotOf}
use Rattle.capnp_dynamic.proofs.Owners.{same_got}
use Rattle.capnp_dynamic.proofs.Builders.{not_named}
use Rattle.capnp_dynamic.proofs.dynamic_struct.build.Builder.get_named.Goals as goal

pub returns-clause-stands : goal.returns-clause-stands
returns-clause-stands c = λ f named.
    let s = built_schema c.args.self in
    let x = built_struct c.args.self in
    let g = c.in_ok-field.field in
    IfOk-weaker c.get.result (HandsField g x) (HandsField f x) (λ v h. same_handed s (field_named (struct_records s) c.args.field_name.now) g f c.in_ok-field.ensures.field named x v h) c.get.ensures.stands

pub returns-clause-within : goal.returns-clause-within
returns-clause-within c = λ f named.
    let s = built_schema c.args.self in
    let x = built_struct c.args.self in
    let g = c.in_ok-field.field in
    IfOk-weaker c.get.result (λ v. IsPartWithin g x) (λ v. IsPartWithin f x) (λ v h. same_within s (field_named (struct_records s) c.args.field_name.now) g f c.in_ok-field.ensures.field named x h) c.get.ensures.within

pub returns-clause-cause : goal.returns-clause-cause
returns-clause-cause c = λ f named.
    let s = built_schema c.args.self in
    let x = built_struct c.args.self in
    let g = c.in_ok-field.field in
    IfErr-weaker c.get.result (IsPartRefusal g x) (IsPartRefusal f x) (λ e h. same_due s (field_named (struct_records s) c.args.field_name.now) g f c.in_ok-field.ensures.field named x e h) c.get.ensures.cause

pub returns-clause-rests : goal.returns-clause-rests
returns-clause-rests c = λ f named rests.
    let s = built_schema c.args.self in
    c.get.ensures.rests (same_rests s (field_named (struct_records s) c.args.field_name.now) f c.in_ok-field.field named c.in_ok-field.ensures.field (built_struct c.args.self) rests)

pub returns-clause-owner : goal.returns-clause-owner
returns-clause-owner c = λ f named.
    let s = built_schema c.args.self in
    let a = struct_behind c.args.self in
    let p = place_of c.args.self in
    let g = c.in_ok-field.field in
    IfOk-weaker c.get.result (IsGotOf a p g) (IsGotOf a p f) (λ v h. same_got s (field_named (struct_records s) c.args.field_name.now) g f c.in_ok-field.ensures.field named a p v h) c.get.ensures.owner

pub get-requires-clause-belongs : goal.get-requires-clause-belongs
get-requires-clause-belongs c =
    found_belongs (built_schema c.args.self) (field_named (struct_records (built_schema c.args.self)) c.args.field_name.now) c.in_ok-field.field c.in_ok-field.ensures.field

pub get-requires-clause-ready : goal.get-requires-clause-ready
get-requires-clause-ready c = c.requires

pub returns-clause-ready : goal.returns-clause-ready
returns-clause-ready c = c.get.ensures.ready

pub returns-clause-none : goal.returns-clause-none
returns-clause-none c = λ none.
    absurd (not_named (built_schema c.args.self) (field_named (struct_records (built_schema c.args.self)) c.args.field_name.now) c.in_ok-field.field none c.in_ok-field.ensures.field)
