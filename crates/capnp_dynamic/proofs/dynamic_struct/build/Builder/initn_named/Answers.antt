-- What is said of the field that was found is said of each of its name.
use Rattle.std.proofs.lemmas.Result.{IfErr-weaker, IfOk-weaker}
use Rattle.capnp_schema.specs.Query.{field_named}
use Rattle.capnp_schema.specs.StructHandles.{struct_records}
use Rattle.capnp_dynamic.specs.Built.{built_schema, place_of, struct_behind}
use Rattle.capnp_dynamic.specs.Handed.{HandsInitn, IsSizedRefusal}
use Rattle.capnp_dynamic.specs.Owners.{IsSizedOf}
use Rattle.capnp_dynamic_readers.specs.Facts.Found.{found_belongs}
use Rattle.capnp_dynamic.proofs.Owners.{same_sized}
use Rattle.capnp_dynamic.proofs.Started.{same_initn, same_sized_refusal}
use Rattle.capnp_dynamic.proofs.Builders.{not_named}
use Rattle.capnp_dynamic.proofs.dynamic_struct.build.Builder.initn_named.Goals as goal

pub initn-requires-clause-belongs : goal.initn-requires-clause-belongs
initn-requires-clause-belongs c =
    found_belongs (built_schema c.args.self) (field_named (struct_records (built_schema c.args.self)) c.args.field_name.now) c.in_ok-field.field c.in_ok-field.ensures.field

pub returns-clause-stands : goal.returns-clause-stands
returns-clause-stands c = λ f named.
    let s = built_schema c.args.self in
    let n = c.args.size in
    let g = c.in_ok-field.field in
    IfOk-weaker c.initn.result (HandsInitn g n) (HandsInitn f n) (λ v h. same_initn s (field_named (struct_records s) c.args.field_name.now) g f c.in_ok-field.ensures.field named n v h) c.initn.ensures.stands

pub returns-clause-cause : goal.returns-clause-cause
returns-clause-cause c = λ f named.
    let s = built_schema c.args.self in
    let n = c.args.size in
    let g = c.in_ok-field.field in
    IfErr-weaker c.initn.result (λ e. IsSizedRefusal g n e) (λ e. IsSizedRefusal f n e)
    (λ e h. same_sized_refusal s (field_named (struct_records s) c.args.field_name.now) g f c.in_ok-field.ensures.field named n e h) c.initn.ensures.cause

pub returns-clause-owner : goal.returns-clause-owner
returns-clause-owner c = λ f named.
    let s = built_schema c.args.self in
    let a = struct_behind c.args.self in
    let p = place_of c.args.self in
    let n = c.args.size in
    let g = c.in_ok-field.field in
    IfOk-weaker c.initn.result (IsSizedOf a p g n) (IsSizedOf a p f n) (λ v h. same_sized s (field_named (struct_records s) c.args.field_name.now) g f c.in_ok-field.ensures.field named a p v n h) c.initn.ensures.owner

pub initn-requires-clause-ready : goal.initn-requires-clause-ready
initn-requires-clause-ready c = c.requires

pub returns-clause-ready : goal.returns-clause-ready
returns-clause-ready c = c.initn.ensures.ready

pub returns-clause-none : goal.returns-clause-none
returns-clause-none c = λ none.
    absurd (not_named (built_schema c.args.self) (field_named (struct_records (built_schema c.args.self)) c.args.field_name.now) c.in_ok-field.field none c.in_ok-field.ensures.field)
