use Rattle.std.proofs.Common.{arith, refl}
use Rattle.capnp_request.proofs.ScopesRead.{not_pushed, pushed}
use Rattle.capnp_request.proofs.schema_nodes.add_scope.Goals as goal

pub returns-clause-added : goal.returns-clause-added
returns-clause-added c = pushed c.args.scopes.now.items _ _ c.args.id c.args.distance c.args.parameters (omega arith) c.in_ok-push.ensures.items refl

pub returns-then-parameters-eq0-clause-added : goal.returns-then-parameters-eq0-clause-added
returns-then-parameters-eq0-clause-added c = not_pushed c.args.scopes.now.items c.args.id c.args.distance c.args.parameters c.if-parameters-eq0.true
