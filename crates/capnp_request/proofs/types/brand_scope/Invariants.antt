-- No scope so far is it.
use Rattle.std.proofs.Common.{◌≡◌}
use Rattle.capnp_records.specs.Record.{Record}
use Rattle.capnp_request.specs.Steps.Handles.{values_left}
use Rattle.capnp_request.specs.Steps.Meant.{scope_in}
use Rattle.capnp_request.specs.Reading.{scopes_said}
use Rattle.capnp_request.specs.Terms.{TypeTerm}
use Rattle.capnp_request.proofs.types.brand_scope.Given as goal

abbrev pub invariant-loop-index : goal.invariant-loop-index
invariant-loop-index l = (inner : Record → TypeTerm) → scope_in (scopes_said inner (values_left l.said 0)) l.id ≡ scope_in (scopes_said inner (values_left l.said l.index)) l.id
