-- Whether the list has the type as its element again decides: it has below the most lists that are counted,
-- and at these it hasn't. A list is always seen as one.
use Rattle.capnp_request.proofs.BindingsCompared.{few_lists, full_lists, list_of_seen, not_list}
use Rattle.capnp_request.proofs.types.list_type.Goals as goal

pub unreachable-requires : goal.unreachable-requires
unreachable-requires c = not_list c.args.element c.list_of-list.result c.which.result c.list_of-list.ensures c.which.ensures c.in_default.not-List

pub returns-then-eq-clause-list : goal.returns-then-eq-clause-list
returns-then-eq-clause-list c = (few_lists c.args.element c.list_of-list.result c.in-List.inner c.which.result c.eq.result c.list_of-list.ensures c.which.ensures c.in-List.is c.eq.ensures c.if-eq.true, list_of_seen c.args.element c.list_of-list.result c.in-List.inner c.which.result c.eq.result c.list_of-list.ensures c.which.ensures c.in-List.is c.eq.ensures c.if-eq.true)

pub returns-clause-full : goal.returns-clause-full
returns-clause-full c = full_lists c.args.element c.list_of-list.result c.in-List.inner c.which.result c.eq.result c.list_of-list.ensures c.which.ensures c.in-List.is c.eq.ensures c.if-eq.false
