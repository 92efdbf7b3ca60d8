-- What get hands out of the element, taken as one of a kind.
use Rattle.std.proofs.Common.{inl}
use Rattle.std.proofs.lemmas.Result.{err_from_is_err_and}
use Rattle.capnp_dynamic.specs.Built.{built_element}
use Rattle.capnp_dynamic.specs.Handed.{HandsElement, IsElementPartRefusal, IsElementWithin}
use Rattle.capnp_dynamic.specs.Owners.{IsElementGot}
use Rattle.capnp_dynamic.specs.Taken.{is_struct_type}
use Rattle.capnp_dynamic.specs.Steps.Taken.{IsNoStruct}
use Rattle.capnp_dynamic.specs.declared.dynamic_value.build.Builder.TheVariants as built
use Rattle.capnp_dynamic_readers.specs.Facts.Taken.{taken}
use Rattle.capnp_dynamic.proofs.Taken.{mismatched, no_struct_there}
use Rattle.capnp_dynamic.proofs.parts.build.struct_at.Goals as goal

pub returns-in_err-part-clause-cause : goal.returns-in_err-part-clause-cause
returns-in_err-part-clause-cause c = λ inside.
    let p = err_from_is_err_and c.from_residual.result c.from_residual.ensures.1 in
    rw (p.1, p.2) (inl c.in_err-part.ensures.cause)

pub returns-clause-stands : goal.returns-clause-stands
returns-clause-stands c = taken built.Struct c.in_ok-part.part (HandsElement c.args.list c.args.index) c.struct_of.result c.struct_of.ensures.is c.in_ok-part.ensures.stands

pub returns-clause-cause : goal.returns-clause-cause
returns-clause-cause c = λ inside.
    mismatched (IsNoStruct c.in_ok-part.part) (is_struct_type (built_element c.args.list)) (no_struct_there c.args.list c.args.index c.in_ok-part.part c.in_ok-part.ensures.stands)
    (IsElementPartRefusal c.args.list c.args.index) (IsElementWithin c.args.list c.args.index) c.struct_of.result c.in_ok-part.ensures.within c.struct_of.ensures.refused

pub returns-clause-owner : goal.returns-clause-owner
returns-clause-owner c = taken built.Struct c.in_ok-part.part (IsElementGot c.args.list c.args.index) c.struct_of.result c.struct_of.ensures.is c.in_ok-part.ensures.owner
