-- An id at the end of the row was met as one at its start is.
use Rattle.std.proofs.Common.{◌∙◌, ◌||◌, ap, nat_eq}
use Rattle.std.specs.HashSet.{contains}
use Rattle.capnp_request.specs.Scopes.{is_met}
use Rattle.capnp_request.proofs.ScopesRead.{met_behind}
use Rattle.capnp_request.proofs.met.Way.put.Goals as goal

pub returns-then-len-lt-FEW-clause-put : goal.returns-then-len-lt-FEW-clause-put
returns-then-len-lt-FEW-clause-put c = λ q. ap (λ ids. is_met ids q || contains nat_eq c.args.self.now.others q) c.in_ok-push.ensures.items ∙ met_behind c.args.self.now.few.items c.args.id q (contains nat_eq c.args.self.now.others q)
