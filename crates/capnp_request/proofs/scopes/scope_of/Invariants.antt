-- No scope so far is it.
use Rattle.std.proofs.Common.{◌≡◌, drop}
use Rattle.capnp_request.specs.Steps.Bindings.{bounds}
use Rattle.capnp_request.specs.Scopes.{scope_among}
use Rattle.capnp_request.proofs.scopes.scope_of.Given as goal

abbrev pub invariant-loop-scope : goal.invariant-loop-scope
invariant-loop-scope l = scope_among (bounds l.scopes) l.id ≡ scope_among (bounds (drop l.scope-index l.scopes)) l.id
