-- What get hands out of the field, taken as one of a kind.
use Rattle.std.proofs.Common.{inl}
use Rattle.std.proofs.lemmas.Result.{err_from_is_err_and}
use Rattle.capnp_schema.specs.FieldLists.{typed_of}
use Rattle.capnp_dynamic.specs.Built.{built_struct, place_of, struct_behind}
use Rattle.capnp_dynamic.specs.Handed.{HandsField, IsPartRefusal, IsPartWithin}
use Rattle.capnp_dynamic.specs.Owners.{IsGotOf}
use Rattle.capnp_dynamic.specs.Taken.{hands_list}
use Rattle.capnp_dynamic.specs.Steps.Taken.{IsNoList}
use Rattle.capnp_dynamic.specs.declared.dynamic_value.build.Builder.TheVariants as built
use Rattle.capnp_dynamic_readers.specs.Facts.Taken.{taken}
use Rattle.capnp_dynamic.proofs.Taken.{is_taken, mismatched, no_list}
use Rattle.capnp_dynamic.proofs.parts.build.list_in.Goals as goal

pub returns-in_err-list-clause-cause : goal.returns-in_err-list-clause-cause
returns-in_err-list-clause-cause c = λ f named.
    let p = err_from_is_err_and c.from_residual.result c.from_residual.ensures.1 in
    rw (p.1, p.2) (inl (c.in_err-list.ensures.cause f named))

pub returns-clause-stands : goal.returns-clause-stands
returns-clause-stands c = λ f named.
    taken built.List c.in_ok-list.list (HandsField f (built_struct c.args.builder)) c.list_of.result c.list_of.ensures.is (c.in_ok-list.ensures.stands f named)

pub returns-clause-cause : goal.returns-clause-cause
returns-clause-cause c = λ f named.
    let s = built_struct c.args.builder in
    mismatched (IsNoList c.in_ok-list.list) (hands_list (typed_of f)) (no_list f s c.in_ok-list.list (c.in_ok-list.ensures.stands f named)) (IsPartRefusal f s) (IsPartWithin f s)
    c.list_of.result (c.in_ok-list.ensures.within f named) c.list_of.ensures.refused

pub returns-clause-rests : goal.returns-clause-rests
returns-clause-rests c = λ f named rests kind.
    is_taken (IsNoList c.in_ok-list.list) (hands_list (typed_of f)) (no_list f (built_struct c.args.builder) c.in_ok-list.list (c.in_ok-list.ensures.stands f named))
    c.list_of.result c.list_of.ensures.refused kind

pub returns-clause-owner : goal.returns-clause-owner
returns-clause-owner c = λ f named.
    taken built.List c.in_ok-list.list (IsGotOf (struct_behind c.args.builder) (place_of c.args.builder) f) c.list_of.result c.list_of.ensures.is (c.in_ok-list.ensures.owner f named)
