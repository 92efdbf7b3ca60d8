-- The scopes so far stand with nothing bound.
use Rattle.std.proofs.Common.{◌≡◌, map, take}
use Rattle.capnp_request.specs.Steps.Bindings.{bounds, with_nothing}
use Rattle.capnp_request.proofs.scopes.unbound.Given as goal

abbrev pub invariant-loop-scope : goal.invariant-loop-scope
invariant-loop-scope l = bounds l.scopes.items ≡ map with_nothing (take l.scope-index l.scope-items)
