use Rattle.capnp_differences.proofs.Edges.{chained_none}
use Rattle.capnp_differences.proofs.namers.no_namers.Goals as goal

pub returns-clause-chained : goal.returns-clause-chained
returns-clause-chained c = chained_none (record { edges = c.new.result; last = c.new-2.result }) c.new.ensures.items c.new-2.ensures.empty
