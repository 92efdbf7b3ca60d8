-- What is said of the field that was found is said of each of its name.
use Rattle.std.proofs.lemmas.Result.{IfErr-weaker, IfOk-weaker}
use Rattle.capnp_schema.specs.Query.{field_named}
use Rattle.capnp_schema.specs.StructHandles.{struct_records}
use Rattle.capnp_dynamic.specs.Built.{built_schema, built_struct, place_of, struct_behind}
use Rattle.capnp_dynamic.specs.Handed.{HandsInit, IsStartRefusal}
use Rattle.capnp_dynamic.proofs.Started.{same_init, same_start_refusal}
use Rattle.capnp_dynamic_readers.specs.Facts.Found.{found_belongs}
use Rattle.capnp_dynamic.specs.Owners.{IsStartedOf}
use Rattle.capnp_dynamic.proofs.Owners.{same_started}
use Rattle.capnp_dynamic.proofs.Builders.{not_named}
use Rattle.capnp_dynamic.proofs.dynamic_struct.build.Builder.init_named.Goals as goal

pub returns-clause-stands : goal.returns-clause-stands
returns-clause-stands c = λ f named.
    let s = built_schema c.args.self in
    let x = built_struct c.args.self in
    let g = c.in_ok-field.field in
    IfOk-weaker c.init.result (HandsInit g x) (HandsInit f x) (λ v h. same_init s (field_named (struct_records s) c.args.field_name.now) g f c.in_ok-field.ensures.field named x v h) c.init.ensures.stands

pub returns-clause-cause : goal.returns-clause-cause
returns-clause-cause c = λ f named.
    let s = built_schema c.args.self in
    let g = c.in_ok-field.field in
    IfErr-weaker c.init.result (IsStartRefusal g) (IsStartRefusal f) (λ e h. same_start_refusal s (field_named (struct_records s) c.args.field_name.now) g f c.in_ok-field.ensures.field named e h) c.init.ensures.cause

pub returns-clause-owner : goal.returns-clause-owner
returns-clause-owner c = λ f named.
    let s = built_schema c.args.self in
    let a = struct_behind c.args.self in
    let p = place_of c.args.self in
    let g = c.in_ok-field.field in
    IfOk-weaker c.init.result (IsStartedOf a p g) (IsStartedOf a p f) (λ v h. same_started s (field_named (struct_records s) c.args.field_name.now) g f c.in_ok-field.ensures.field named a p v h) c.init.ensures.owner

pub init-requires-clause-belongs : goal.init-requires-clause-belongs
init-requires-clause-belongs c =
    found_belongs (built_schema c.args.self) (field_named (struct_records (built_schema c.args.self)) c.args.field_name.now) c.in_ok-field.field c.in_ok-field.ensures.field

pub init-requires-clause-ready : goal.init-requires-clause-ready
init-requires-clause-ready c = c.requires

pub returns-clause-ready : goal.returns-clause-ready
returns-clause-ready c = c.init.ensures.ready

pub returns-clause-none : goal.returns-clause-none
returns-clause-none c = λ none.
    absurd (not_named (built_schema c.args.self) (field_named (struct_records (built_schema c.args.self)) c.args.field_name.now) c.in_ok-field.field none c.in_ok-field.ensures.field)
