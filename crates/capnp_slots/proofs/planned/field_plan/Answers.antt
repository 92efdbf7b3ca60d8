-- The plan of a field of an accepted set.
use Rattle.std.proofs.Common.{subst, ap, ◌∙◌}
use Rattle.capnp_schema.specs.Ranges.{HasRanges}
use Rattle.capnp_schema.specs.StructHandles.{IsStruct, set_of}
use Rattle.capnp_slots.proofs.FieldPlans.{field_plan_is}
use Rattle.capnp_slots.proofs.planned.field_plan.Goals as goal

pub returns : goal.returns
returns c =
    field_plan_is c.args.field c.plan.result
    (subst IsStruct c.get_containing_struct-schema.ensures.is c.get_containing_struct-schema.ensures.stands)
    (subst HasRanges (c.get_set.ensures ∙ ap set_of c.get_containing_struct-schema.ensures.is) c.numbers_fit.ensures)
    c.plans_stand.ensures c.plan.ensures.is
