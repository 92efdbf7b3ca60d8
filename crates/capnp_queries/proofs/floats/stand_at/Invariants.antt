-- The steps that are left lead from there to where all lead from the root.
use Rattle.std.proofs.Common.{◌≡◌, drop}
use Rattle.capnp_call.specs.Seen.{path_seen}
use Rattle.capnp_schema.specs.StructHandles.{generic_of, number_of, set_of}
use Rattle.capnp_schema.specs.Types.{StructType}
use Rattle.capnp_json.specs.Json.{plain}
use Rattle.capnp_queries.specs.Floats.{steps_on}
use Rattle.capnp_queries.specs.Steps.Stands.{stand_seen}
use Rattle.capnp_queries.proofs.floats.stand_at.Given as goal

abbrev pub invariant-loop-step : goal.invariant-loop-step
invariant-loop-step l =
    steps_on (set_of l.fn.schema) (path_seen (drop l.step-index l.fn.path)) (stand_seen l.now)
    ≡ steps_on (set_of l.fn.schema) (path_seen l.fn.path) (record { type = StructType (number_of l.fn.schema) (generic_of l.fn.schema); form = plain })
