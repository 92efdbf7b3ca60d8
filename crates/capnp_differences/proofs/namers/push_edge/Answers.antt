-- A new edge is chained behind the last one of the same struct, and joins the struct and what names it.
use Rattle.std.proofs.Common.{arith, refl}
use Rattle.capnp_differences.proofs.Edges.{chained_more, joins_one}
use Rattle.capnp_differences.proofs.namers.push_edge.Goals as goal

pub returns-clause-chained : goal.returns-clause-chained
returns-clause-chained c =
    chained_more c.args.namers.now (record { edges = c.push.new.self; last = c.insert.new.self }) (record { named = c.args.named; namer = c.args.namer; before = c.last_at-before.result })
    c.in_ok-push.ensures.items c.last_at-before.ensures c.len-number.result (let longer = c.in_ok-push.ensures.len in let counted = c.len-number.ensures in omega arith) c.in_ok-insert.ensures.updates c.requires

pub returns-clause-joined : goal.returns-clause-joined
returns-clause-joined c = rw c.in_ok-push.ensures.items (joins_one c.args.namers.now.edges.items (record { named = c.args.named; namer = c.args.namer; before = c.last_at-before.result }) c.args.named c.args.namer refl refl)
