-- An unnamed type is among the entry's own annotations or among its children's; where the
-- own ones are all named, the children decide.
use Rattle.capnp_schema.specs.Schema.{seen_types}
use Rattle.capnp_schema.specs.Steps.Checking.Types.{own}
use Rattle.capnp_schema.specs.Entries.{lists_seen}
use Rattle.capnp_schema.proofs.Checking.Types.{own_or_child, decided_at, decided_not, of_children}
use Rattle.capnp_schema.proofs.check.types.unnamed.Goals as goal

pub returns-then-not-all_named : goal.returns-then-not-all_named
returns-then-not-all_named c = own (decided_not (lists_seen c.args.lists.now) c.all_named.result c.deref.result.now c.args.types.now.own.items c.deref.ensures.value c.all_named.ensures c.if-not-all_named.true)

pub returns : goal.returns
returns c = own_or_child (lists_seen c.args.lists.now) (seen_types c.args.types.now) c.unnamed_child.result
    (decided_at (lists_seen c.args.lists.now) c.all_named.result c.deref.result.now c.args.types.now.own.items c.deref.ensures.value c.all_named.ensures c.if-not-all_named.false)
    (of_children (lists_seen c.args.lists.now) c.unnamed_child.result c.deref-2.result.now c.args.types.now.children.items c.deref-2.ensures.value c.unnamed_child.ensures)
