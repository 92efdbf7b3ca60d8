use Rattle.std.proofs.Common.{◌+◌, ◌*◌, ◌-◌, ◌≤◌, ◌≡◌, drop, map}
use Rattle.capnp_request.specs.Steps.Bindings.{bounds, seen_marked, with_nothing}
use Rattle.capnp_request.specs.Steps.Done.{so_far}
use Rattle.capnp_request.specs.Steps.Handles.{values_left}
use Rattle.capnp_request.specs.Steps.Nodes.{nodes_of}
use Rattle.capnp_request.specs.Steps.Numbers.{AreNumbered}
use Rattle.capnp_request.specs.Reading.{bindings_said, scopes_said, type_said}
use Rattle.capnp_request.specs.Types.{bind_scope, binding_types, brand_types}
use Rattle.capnp_request.specs.Work.{each}
use Rattle.capnp_request.proofs.Walks.{prefixed}
use Rattle.capnp_request.proofs.types.+types.Given as goal

abbrev pub decreases-type_of : goal.decreases-type_of
decreases-type_of l = 8 * l.depth

abbrev pub decreases-list_type_of : goal.decreases-list_type_of
decreases-list_type_of l = 8 * l.depth + 1

abbrev pub decreases-binding_type : goal.decreases-binding_type
decreases-binding_type l = 8 * l.depth + 1

abbrev pub decreases-bound_types : goal.decreases-bound_types
decreases-bound_types l = 8 * l.depth + 2

abbrev pub decreases-said_types : goal.decreases-said_types
decreases-said_types l = 8 * l.depth + 3

abbrev pub decreases-scope_types : goal.decreases-scope_types
decreases-scope_types l = 8 * l.depth + 4

abbrev pub decreases-bound_scopes : goal.decreases-bound_scopes
decreases-bound_scopes l = 8 * l.depth + 5

abbrev pub decreases-bindings_of : goal.decreases-bindings_of
decreases-bindings_of l = 8 * l.depth + 6

abbrev pub decreases-struct_type_of : goal.decreases-struct_type_of
decreases-struct_type_of l = 8 * l.depth + 7

-- So many scopes are bound.
abbrev pub invariant-bound_scopes-loop-scope : goal.invariant-bound_scopes-loop-scope
invariant-bound_scopes-loop-scope l = record {
  numbers : AreNumbered l.entries;
  done : each (bind_scope (brand_types (nodes_of l.context.nodes.now) l.context.strict (bounds l.inside) (scopes_said (type_said l.depth) (values_left l.said 0)))) (map with_nothing l.generic) (so_far l.fn.entries l.fn.seen)
      ≡ prefixed (bounds l.scopes.items) (each (bind_scope (brand_types (nodes_of l.context.nodes.now) l.context.strict (bounds l.inside) (scopes_said (type_said l.depth) (values_left l.said 0)))) (map with_nothing (drop l.scope-index l.generic)) (so_far l.entries l.seen));
}

-- So many bindings were read.
abbrev pub invariant-bound_types-loop-index : goal.invariant-bound_types-loop-index
invariant-bound_types-loop-index l = record {
  numbers : AreNumbered l.entries;
  below : l.index ≤ l.parameters;
  done : binding_types (nodes_of l.context.nodes.now) l.context.strict (bounds l.inside) (bindings_said (type_said l.depth) (values_left l.bindings 0)) l.parameters (so_far l.fn.entries l.fn.seen)
      ≡ prefixed (map seen_marked l.types.items) (binding_types (nodes_of l.context.nodes.now) l.context.strict (bounds l.inside) (bindings_said (type_said l.depth) (values_left l.bindings l.index)) (l.parameters - l.index) (so_far l.entries l.seen));
}
