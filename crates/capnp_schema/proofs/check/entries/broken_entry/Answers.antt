-- The walk keeps that all entries before the index meet the rule; the entry it stops at is read there, and breaks it.
use Rattle.std.proofs.Common.{arith, map, refl, sym}
use Rattle.std.proofs.lemmas.List.{length-map}
use Rattle.std.proofs.lemmas.Option.{slice_get_read}
use Rattle.capnp_schema.proofs.EntryWalk.{all_stand, entry_breaks, is_so_here, more_stand, none_stand, seen_at}
use Rattle.capnp_schema.proofs.check.entries.broken_entry.Goals as goal

pub loop-i-init : goal.loop-i-init
loop-i-init g c = none_stand _ g.E.Asked.is_met

pub loop-i-preserved : goal.loop-i-preserved
loop-i-preserved g c =
    let met = c.is_met.ensures.0 c.if-not-is_met.false in
    let at = seen_at g.E.Asked.seen _ c.loop-i.i _ (sym (slice_get_read _ _ c.loop-i.i c.index-entries-i.result refl c.loop-i-test.true c.index-entries-i.is)) in
    more_stand _ g.E.Asked.is_met _ c.loop-i.invariant (is_so_here (map g.E.Asked.seen c.args.entries.now) g.E.Asked.is_met c.loop-i.i _ at met)

pub returns-then-not-is_met : goal.returns-then-not-is_met
returns-then-not-is_met g c =
    let at = seen_at g.E.Asked.seen _ c.loop-i.i _ (sym (slice_get_read _ _ c.loop-i.i c.index-entries-i.result refl c.loop-i-test.true c.index-entries-i.is)) in
    entry_breaks (map g.E.Asked.seen c.args.entries.now) g.E.Asked.is_met c.loop-i.i _ at (λ met. let t = c.is_met.ensures.1 met in cc)

pub returns : goal.returns
returns g c = all_stand _ g.E.Asked.is_met _ c.loop-i.invariant (let n = length-map c.args.entries.now g.E.Asked.seen in omega arith)
