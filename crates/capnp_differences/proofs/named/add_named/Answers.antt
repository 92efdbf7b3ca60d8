-- The walk adds what the fields before the index name, and nothing else.
-- Past the fields that both structs have, none names a pair.
use Rattle.std.proofs.Common.{arith}
use Rattle.capnp_schema.specs.Entries.{lists_seen}
use Rattle.capnp_differences.proofs.Adding.{named_all, named_more, named_none}
use Rattle.capnp_differences.proofs.named.add_named.Goals as goal

pub loop-i-init : goal.loop-i-init
loop-i-init c = named_none (lists_seen c.args.schemas.now) c.args.older c.args.newer c.args.pairs.now

pub loop-i-preserved : goal.loop-i-preserved
loop-i-preserved c = named_more (lists_seen c.args.schemas.now) c.args.older c.args.newer c.args.pairs.now c.loop-i.pairs c.add_some.new.pairs c.loop-i.i (omega arith) (omega arith) c.named_at.result c.named_at.ensures c.loop-i.invariant c.in_ok-add_some.ensures.added

pub returns-clause-added : goal.returns-clause-added
returns-clause-added c = named_all (lists_seen c.args.schemas.now) c.args.older c.args.newer c.args.pairs.now c.loop-i.pairs c.loop-i.i (omega arith) (λ k below here. let inside = c.shared_count-i-end.ensures.all k below here in omega arith) c.loop-i.invariant
