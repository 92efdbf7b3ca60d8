use Rattle.std.proofs.Common.{ap, map}
use Rattle.capnp_request.specs.RequestSet.{request_set}
use Rattle.capnp_schema.specs.Schema.{seen_enum}
use Rattle.capnp_schema.specs.Facts.AcceptedLists.{lists_accepted}
use Rattle.capnp_request.proofs.RequestAccepted.{request_accepted}
use Rattle.capnp_request.proofs.request_set.records.Goals as goal

pub returns-clause-accepted : goal.returns-clause-accepted
returns-clause-accepted c = lists_accepted request_set request_accepted _ _ _ c.in_ok-nodes.ensures c.in_ok-brands.ensures (ap (map seen_enum) c.new.ensures.items)
