use Rattle.std.proofs.Common.{◌≡◌, drop}
use Rattle.capnp_schema.specs.StructHandles.{generic_of, number_of, set_of}
use Rattle.capnp_schema.specs.Types.{seen_type, StructType}
use Rattle.capnp_words.specs.Seen.{steps_seen}
use Rattle.capnp_words.specs.Targets.{type_along}
use Rattle.capnp_words.proofs.target.target_type.Given as goal

abbrev pub invariant-loop-step : goal.invariant-loop-step
invariant-loop-step l =
    type_along (set_of l.fn.schema) (seen_type l.target) (steps_seen (drop l.step-index l.path.steps.items))
    ≡ type_along (set_of l.fn.schema) (StructType (number_of l.fn.schema) (generic_of l.fn.schema)) (steps_seen l.path.steps.items)
