-- Schema nodes by their ids, and their scopes.
use Rattle.std.specs.Prelude.{ℕ, zero, suc, ◌+◌, List, [], ◌∷◌, Bool, true, false, ◌==◌, ◌||◌, length, Option, Some, None, Ok, Err}
use Rattle.capnp_request.specs.Terms.{Said, SchemaNode}
use Rattle.capnp_request.specs.Work.{Bound}

abbrev pub some_where : {A : Type 0} → Bool → A → Option A → Option A
some_where true a rest = Some a
some_where false a rest = rest

-- where two nodes have one id, the first counts
abbrev pub node_named : List SchemaNode → ℕ → Option SchemaNode
node_named [] id = None
node_named (n ∷ ns) id = some_where (n.id == id) n (node_named ns id)

abbrev pub is_met : List ℕ → ℕ → Bool
is_met [] id = false
is_met (x ∷ xs) id = (x == id) || is_met xs id

-- a scope with nothing bound, where it has parameters
abbrev pub with_scope : (id distance : ℕ) → (parameters : ℕ) → List Bound → List Bound
with_scope id distance zero rest = rest
with_scope id distance (suc parameters) rest = record { scope = id; distance = distance; parameters = suc parameters; types = [] } ∷ rest

abbrev pub and_scope : (id distance : ℕ) → Said ℕ → Said (List Bound) → Said (List Bound)
and_scope id distance (Ok parameters) (Ok rest) = Ok (with_scope id distance parameters rest)
and_scope id distance (Ok parameters) (Err kind) = Err kind
and_scope id distance (Err kind) rest = Err kind

abbrev pub scopes_of_node : (ℕ → Said (List Bound)) → (distance id : ℕ) → Option SchemaNode → Said (List Bound)
scopes_of_node outer distance id None = Ok []
scopes_of_node outer distance id (Some n) = and_scope id distance n.parameters (outer n.scope)

-- The scopes of an id that have parameters, inmost first, with nothing bound: those of the node, of the node of its scope
-- id, and so on, up to an id that no node has or that was met. There are at most as many as there are nodes.
abbrev pub scopes_from : ℕ → List SchemaNode → (met : List ℕ) → (distance id : ℕ) → Said (List Bound)
scopes_from zero nodes met distance id = Ok []
scopes_from (suc steps) nodes met distance id =
    elim (is_met met id) [ true ↦ Ok [] | false ↦ scopes_of_node (scopes_from steps nodes (id ∷ met) (distance + 1)) distance id (node_named nodes id) ]

abbrev pub scopes_of : List SchemaNode → ℕ → Said (List Bound)
scopes_of nodes id = scopes_from (length nodes) nodes [] 0 id

-- the first scope of an id among those that are bound inside an entry
abbrev pub scope_among : List Bound → ℕ → Option Bound
scope_among [] id = None
scope_among (b ∷ bs) id = some_where (b.scope == id) b (scope_among bs id)

abbrev pub of_scope : {A : Type 0} → A → (Bound → A) → Option Bound → A
of_scope none f None = none
of_scope none f (Some b) = f b

-- what is bound to the parameters of a scope inside an entry
abbrev pub bound_types : {A : Type 0} → A → (Bound → A) → List Bound → ℕ → A
bound_types none f inside id = of_scope none f (scope_among inside id)
