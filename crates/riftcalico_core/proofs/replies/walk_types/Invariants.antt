-- The steps that are left lead on from the type so far as all do from the first.
use Rattle.std.proofs.Common.{◌≡◌, drop}
use Rattle.capnp_call.specs.Seen.{path_seen}
use Rattle.capnp_schema.specs.Entries.{lists_seen}
use Rattle.capnp_schema.specs.Types.{seen_type}
use Rattle.riftcalico_core.specs.Replies.{types_along}
use Rattle.riftcalico_core.proofs.replies.walk_types.Given as goal

abbrev pub invariant-loop-step : goal.invariant-loop-step
invariant-loop-step l =
    types_along (lists_seen l.schemas) (seen_type l.target) (path_seen (drop l.step-index l.path)) ≡ types_along (lists_seen l.schemas) (seen_type l.initial.target) (path_seen l.path)
