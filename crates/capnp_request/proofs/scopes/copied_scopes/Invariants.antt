-- The scopes so far were copied.
use Rattle.std.proofs.Common.{◌≡◌, take}
use Rattle.capnp_request.specs.Steps.Bindings.{bounds}
use Rattle.capnp_request.proofs.scopes.copied_scopes.Given as goal

abbrev pub invariant-loop-scope : goal.invariant-loop-scope
invariant-loop-scope l = bounds l.copy.items ≡ bounds (take l.scope-index l.scopes)
