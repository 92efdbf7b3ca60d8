-- The part is of the field that the first part was taken of.
use Rattle.capnp_dynamic.specs.Built.{built_struct}
use Rattle.capnp_dynamic.specs.declared.dynamic_value.build.Builder.TheVariants as built
use Rattle.capnp_callers.proofs.PartsOf.{in_list}
use Rattle.capnp_callers.proofs.parts.struct_in_list.Goals as goal

pub returns-clause-stands : goal.returns-clause-stands
returns-clause-stands c = λ f named. in_list built.Struct f (built_struct c.args.builder) c.args.index c.in_ok-list.list c.struct_at.result (c.in_ok-list.ensures.stands f named) c.struct_at.ensures.stands
