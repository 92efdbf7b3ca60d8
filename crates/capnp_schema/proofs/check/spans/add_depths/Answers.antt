-- At each depth the spans out so far, and what is reached from the brands left, are as at the start; the depths left fall by one.
-- At the end no depth is left.
use Rattle.std.proofs.Common.{◌≡◌, ◌+◌, ◌-◌, ◌∙◌, suc, ap, sym, arith, length}
use Rattle.capnp_schema.specs.Entries.{lists_seen}
use Rattle.capnp_schema.specs.Steps.Checking.Spans.{reached_spot}
use Rattle.capnp_schema.proofs.Checking.SpanLemmas.{reached_all}
use Rattle.capnp_schema.proofs.check.spans.add_depths.Goals as goal

pub loop-depth-preserved : goal.loop-depth-preserved
loop-depth-preserved c = λ p.
    let left : suc (length (lists_seen c.args.lists.now).brands - (c.loop-depth.depth + 1)) ≡ length (lists_seen c.args.lists.now).brands - c.loop-depth.depth = omega arith in
    c.in_ok-below.ensures.added (length (lists_seen c.args.lists.now).brands - (c.loop-depth.depth + 1)) p
    ∙ ap (λ brands. reached_spot (suc (length (lists_seen c.args.lists.now).brands - (c.loop-depth.depth + 1))) (lists_seen c.args.lists.now) c.loop-depth.out.items brands p) c.deref.ensures.value
    ∙ ap (λ groups. reached_spot groups (lists_seen c.args.lists.now) c.loop-depth.out.items c.loop-depth.brands.items p) left
    ∙ c.loop-depth.invariant p

pub returns-clause-added : goal.returns-clause-added
returns-clause-added c = λ p.
    let last : 0 ≡ length (lists_seen c.args.lists.now).brands - c.loop-depth.depth = omega arith in
    sym (reached_all (lists_seen c.args.lists.now) c.loop-depth.out.items c.loop-depth.brands.items p)
    ∙ ap (λ groups. reached_spot groups (lists_seen c.args.lists.now) c.loop-depth.out.items c.loop-depth.brands.items p) last
    ∙ c.loop-depth.invariant p
