-- A group's entry in the table is its only parent; without an entry, or with other section
-- sizes than its parent has, it can't stand.
use Rattle.std.proofs.Common.{sym, refl}
use Rattle.capnp_schema.specs.Entries.{lists_seen}
use Rattle.capnp_schema.proofs.Checking.GroupChains.{one_parent, sizes_differ, parent_within, without_parent}
use Rattle.capnp_schema.proofs.check.groups.group_stands.Goals as goal

pub returns-in_default-clause-no : goal.returns-in_default-clause-no
returns-in_default-clause-no c = λ _ stands. without_parent (lists_seen c.args.lists.now) c.requires.targets c.args.parents.now c.requires.table c.args.group (sym c.if-not-is_group.ensures) c.in_default.ensures (stands (sym c.if-not-is_group.ensures)).0

pub has_same_sizes-requires-clause-b_in : goal.has_same_sizes-requires-clause-b_in
has_same_sizes-requires-clause-b_in c = parent_within (lists_seen c.args.lists.now) c.requires.targets c.args.parents.now c.requires.table c.args.group c.in-Some.brand _ c.in-Some.ensures

pub returns-then-not-has_same_sizes-clause-no : goal.returns-then-not-has_same_sizes-clause-no
returns-then-not-has_same_sizes-clause-no c = λ _ stands. sizes_differ (lists_seen c.args.lists.now) c.requires.targets c.args.parents.now c.requires.table c.args.group c.in-Some.brand _ c.in-Some.ensures (stands (sym c.if-not-is_group.ensures)).0
    (λ same. let e = c.if-not-has_same_sizes.ensures.1 same in cc)

pub returns-clause-yes : goal.returns-clause-yes
returns-clause-yes c = λ yes group. (one_parent (lists_seen c.args.lists.now) c.requires.targets c.args.parents.now c.requires.table c.args.group c.in-Some.brand _ c.in-Some.ensures (c.if-not-has_same_sizes.ensures.0 refl), c.stands_in_struct.ensures.0 yes)
