-- What is left, with what all scopes bind, is what the rest binds beside the most.
use Rattle.std.proofs.Common.{◌≡◌, ◌+◌, drop}
use Rattle.capnp_request.specs.Steps.Bindings.{bounds}
use Rattle.capnp_request.specs.Types.{bound_count}
use Rattle.capnp_request.proofs.entries.are_few.Given as goal

abbrev pub invariant-loop-scope : goal.invariant-loop-scope
invariant-loop-scope l = l.left + bound_count (bounds l.scopes) ≡ 1024 + bound_count (bounds (drop l.scope-index l.scopes))
