-- The walk keeps that the list begins as it was, holds what the fields before name, and nothing else besides.
-- A refused step adds no other pair either.
use Rattle.std.proofs.Common.{Option, subst, arith}
use Rattle.capnp_schema.specs.Entries.{lists_seen}
use Rattle.capnp_compatible.specs.declared.pairs.Pair.{Pair}
use Rattle.capnp_compatible.specs.Closing.{listed_pairs}
use Rattle.capnp_compatible.specs.Steps.Closing.{Adds, Holds}
use Rattle.capnp_compatible.proofs.Growth.{far_only, grown_more}
use Rattle.capnp_compatible.proofs.named.add_named.Goals as goal

pub returns-in_err-add_some-clause-only : goal.returns-in_err-add_some-clause-only
returns-in_err-add_some-clause-only c = far_only c.args.lists (lists_seen c.args.schemas.now) c.args.older c.args.newer c.loop-i.i _ _ _ c.loop-i.invariant c.add_some.ensures.more c.add_some.ensures.begins
    (subst (λ (o : Option Pair). Adds c.loop-i.pairs c.add_some.new.pairs (λ sets. Holds sets o)) c.named_at.ensures c.add_some.ensures.only) _ (omega arith)

pub loop-i-preserved : goal.loop-i-preserved
loop-i-preserved c = grown_more c.args.lists (lists_seen c.args.schemas.now) c.args.older c.args.newer c.loop-i.i _ _ _ c.loop-i.invariant c.add_some.ensures.more c.add_some.ensures.begins
    (subst (λ (o : Option Pair). Adds c.loop-i.pairs c.add_some.new.pairs (λ sets. Holds sets o)) c.named_at.ensures c.add_some.ensures.only)
    (subst (λ (o : Option Pair). Holds (listed_pairs c.add_some.new.pairs) o) c.named_at.ensures c.in_ok-add_some.ensures.added) c.add_some.ensures.apart

pub returns-clause-only : goal.returns-clause-only
returns-clause-only c = λ pairs within holds. c.loop-i.invariant.only pairs within (λ k below. holds k (omega arith))
