-- Steps up the parents end at a struct, join a group known to stand in one, or break off without parent.
-- After more steps than brands they would never end.
use Rattle.std.proofs.Common.{sym, refl, arith}
use Rattle.std.proofs.lemmas.List.{length-map}
use Rattle.capnp_schema.specs.Entries.{lists_seen}
use Rattle.capnp_schema.specs.Schema.{seen_brand}
use Rattle.capnp_schema.proofs.Checking.GroupChains.{walk_ends, walk_joins, walk_broken, walk_more, walk_endless, parent_within}
use Rattle.capnp_schema.proofs.check.groups.stands_in_struct.Goals as goal

pub returns-then-not-is_group : goal.returns-then-not-is_group
returns-then-not-is_group c = let l = length-map c.args.lists.now.brands.items seen_brand in
    (λ _. walk_ends (lists_seen c.args.lists.now) c.requires.targets c.args.parents.now c.requires.table c.loop.counter c.args.group c.loop.at (omega arith) c.loop.invariant.steps (sym c.if-not-is_group.ensures), λ _. refl)

pub returns-in-None : goal.returns-in-None
returns-in-None c = (λ e. cc, λ stands. absurd (walk_broken (lists_seen c.args.lists.now) c.requires.targets c.args.parents.now c.requires.table c.loop.counter c.args.group c.loop.at c.loop.invariant.steps (sym c.if-not-is_group.ensures) c.in-None.ensures stands))

pub loop-preserved : goal.loop-preserved
loop-preserved c = record {
  steps = walk_more (lists_seen c.args.lists.now) c.requires.targets c.args.parents.now c.requires.table c.loop.counter c.args.group c.loop.at c.in-Some.brand _ c.loop.invariant.steps (sym c.if-not-is_group.ensures) c.in-Some.ensures;
  within = parent_within (lists_seen c.args.lists.now) c.requires.targets c.args.parents.now c.requires.table c.loop.at c.in-Some.brand _ c.in-Some.ensures;
}

pub returns : goal.returns
returns c = let l = length-map c.args.lists.now.brands.items seen_brand in
    (λ e. cc, λ stands. absurd (walk_endless (lists_seen c.args.lists.now) c.requires.targets c.args.parents.now c.requires.table c.loop.counter c.args.group c.loop.at c.loop.invariant.steps (omega arith) stands))

pub returns-then-is_known : goal.returns-then-is_known
returns-then-is_known c = (λ _. walk_joins (lists_seen c.args.lists.now) c.requires.targets c.args.parents.now c.requires.table c.loop.counter c.args.group c.loop.at c.loop.invariant.steps (c.requires.known.stands c.loop.at (sym c.if-is_known.ensures)), λ _. refl)
