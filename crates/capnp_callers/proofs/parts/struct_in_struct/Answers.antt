-- The part is of the field that the first part was taken of.
use Rattle.capnp_dynamic.specs.Built.{built_struct}
use Rattle.capnp_dynamic.specs.declared.dynamic_value.build.Builder.TheVariants as built
use Rattle.capnp_callers.proofs.PartsOf.{in_part}
use Rattle.capnp_callers.proofs.parts.struct_in_struct.Goals as goal

pub returns-clause-stands : goal.returns-clause-stands
returns-clause-stands c = λ f named. in_part built.Struct f (built_struct c.args.builder) c.args.inner.now c.in_ok-part.part c.struct_in-2.result (c.in_ok-part.ensures.stands f named) c.struct_in-2.ensures.stands
