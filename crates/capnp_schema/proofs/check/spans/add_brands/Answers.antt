use Rattle.std.proofs.Common.{arith}
use Rattle.capnp_schema.specs.Entries.{lists_seen}
use Rattle.capnp_schema.proofs.Checking.SpanLemmas.{all_brands}
use Rattle.capnp_schema.proofs.check.spans.add_brands.Goals as goal

pub returns-clause-added : goal.returns-clause-added
returns-clause-added c = λ groups p. all_brands groups (lists_seen c.args.lists.now) c.args.brands.now c.loop-i.i p _ _ (omega arith) (c.loop-i.invariant groups p)
