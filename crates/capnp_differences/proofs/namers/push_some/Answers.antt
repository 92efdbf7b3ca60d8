use Rattle.capnp_differences.proofs.Edges.{joins_no_pair, joins_some}
use Rattle.capnp_differences.proofs.namers.push_some.Goals as goal

pub returns-in_ok-push_edge-in-Some-clause-joined : goal.returns-in_ok-push_edge-in-Some-clause-joined
returns-in_ok-push_edge-in-Some-clause-joined c =
    joins_some c.args.namers.now.edges.items c.push_edge.new.namers.edges.items c.args.named c.in-Some.found c.args.namer c.in-Some.is c.in_ok-push_edge-in-Some.ensures.joined

pub returns-in-None-clause-joined : goal.returns-in-None-clause-joined
returns-in-None-clause-joined c = joins_no_pair c.args.namers.now.edges.items c.args.named c.args.namer c.in-None.is
