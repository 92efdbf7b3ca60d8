-- The steps that are left lead from there to where all lead from the root, and the spot there is of its type.
use Rattle.std.proofs.Common.{◌≡◌, ◌<◌, IfSome, drop}
use Rattle.std.specs.Option.{option_map}
use Rattle.capnp_schema.specs.StructHandles.{generic_of, number_of, set_of}
use Rattle.capnp_schema.specs.Types.{StructType, seen_type}
use Rattle.capnp_words.specs.Seen.{steps_seen}
use Rattle.capnp_words.specs.Targets.{type_along}
use Rattle.riftcalico_core.specs.LastFields.{last_spot, spot_along}
use Rattle.riftcalico_core.specs.SpotsSeen.{IsSpotOf, spot_seen}
use Rattle.riftcalico_core.proofs.last_field.find_spot.Given as goal

abbrev pub invariant-loop-index : goal.invariant-loop-index
invariant-loop-index l = record {
  spot : last_spot (set_of l.fn.schema) (option_map spot_seen l.now.spot) (seen_type l.now.of) (steps_seen (drop l.index l.path.steps.items))
      ≡ spot_along (set_of l.fn.schema) (StructType (number_of l.fn.schema) (generic_of l.fn.schema)) (steps_seen l.path.steps.items);
  type : type_along (set_of l.fn.schema) (seen_type l.now.of) (steps_seen (drop l.index l.path.steps.items))
      ≡ type_along (set_of l.fn.schema) (StructType (number_of l.fn.schema) (generic_of l.fn.schema)) (steps_seen l.path.steps.items);
  typed : IfSome l.now.spot (IsSpotOf (set_of l.fn.schema) (seen_type l.now.of));
  few : IfSome l.now.spot (λ p. p.depth < l.index);
}
