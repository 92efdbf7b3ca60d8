-- What get hands out of the field, taken as one of a kind.
use Rattle.std.proofs.Common.{inl}
use Rattle.std.proofs.lemmas.Result.{err_from_is_err_and}
use Rattle.capnp_schema.specs.FieldLists.{typed_of}
use Rattle.capnp_dynamic.specs.Built.{built_struct, place_of, struct_behind}
use Rattle.capnp_dynamic.specs.Handed.{HandsField, IsPartRefusal, IsPartWithin}
use Rattle.capnp_dynamic.specs.Owners.{IsGotOf}
use Rattle.capnp_dynamic.specs.Taken.{hands_struct}
use Rattle.capnp_dynamic.specs.Steps.Taken.{IsNoStruct}
use Rattle.capnp_dynamic.specs.declared.dynamic_value.build.Builder.TheVariants as built
use Rattle.capnp_dynamic_readers.specs.Facts.Taken.{taken}
use Rattle.capnp_dynamic.proofs.Taken.{is_taken, mismatched, no_struct}
use Rattle.capnp_dynamic.proofs.parts.build.struct_in.Goals as goal

pub returns-in_err-part-clause-cause : goal.returns-in_err-part-clause-cause
returns-in_err-part-clause-cause c = λ f named.
    let p = err_from_is_err_and c.from_residual.result c.from_residual.ensures.1 in
    rw (p.1, p.2) (inl (c.in_err-part.ensures.cause f named))

pub returns-clause-stands : goal.returns-clause-stands
returns-clause-stands c = λ f named.
    taken built.Struct c.in_ok-part.part (HandsField f (built_struct c.args.builder)) c.struct_of.result c.struct_of.ensures.is (c.in_ok-part.ensures.stands f named)

pub returns-clause-cause : goal.returns-clause-cause
returns-clause-cause c = λ f named.
    let s = built_struct c.args.builder in
    mismatched (IsNoStruct c.in_ok-part.part) (hands_struct (typed_of f)) (no_struct f s c.in_ok-part.part (c.in_ok-part.ensures.stands f named)) (IsPartRefusal f s) (IsPartWithin f s)
    c.struct_of.result (c.in_ok-part.ensures.within f named) c.struct_of.ensures.refused

pub returns-clause-rests : goal.returns-clause-rests
returns-clause-rests c = λ f named rests kind.
    is_taken (IsNoStruct c.in_ok-part.part) (hands_struct (typed_of f)) (no_struct f (built_struct c.args.builder) c.in_ok-part.part (c.in_ok-part.ensures.stands f named))
    c.struct_of.result c.struct_of.ensures.refused kind

pub returns-clause-owner : goal.returns-clause-owner
returns-clause-owner c = λ f named.
    taken built.Struct c.in_ok-part.part (IsGotOf (struct_behind c.args.builder) (place_of c.args.builder) f) c.struct_of.result c.struct_of.ensures.is (c.in_ok-part.ensures.owner f named)
