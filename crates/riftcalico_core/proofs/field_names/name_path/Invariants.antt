-- The steps so far, and behind them those that are left, are those of the whole path.
use Rattle.std.proofs.Common.{◌≡◌, ◌++◌, Some, drop}
use Rattle.std.specs.Option.{option_map}
use Rattle.capnp_call.specs.Seen.{path_seen}
use Rattle.capnp_records.specs.Run.{root_type}
use Rattle.capnp_schema.specs.StructHandles.{number_of, set_of}
use Rattle.capnp_schema.specs.Types.{seen_type}
use Rattle.riftcalico_core.specs.FieldNames.{named_path}
use Rattle.riftcalico_core.proofs.field_names.name_path.Given as goal

abbrev pub invariant-loop-step : goal.invariant-loop-step
invariant-loop-step l =
    path_seen l.named.items ++ named_path (set_of l.fn.schema) (option_map seen_type l.target) (path_seen (drop l.step-index l.path))
    ≡ named_path (set_of l.fn.schema) (Some (root_type (set_of l.fn.schema) (number_of l.fn.schema))) (path_seen l.path)
