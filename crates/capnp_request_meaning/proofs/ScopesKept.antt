-- The scopes of a node have nothing bound.
use Rattle.std.proofs.Common.{ℕ, zero, suc, ◌+◌, ◌≡◌, ◌∙◌, ap, arith, refl, subst, sym, Bool, true, false, List, [], ◌∷◌, length, map, Option, Some, None, Ok, Err}
use Rattle.capnp_request.specs.Scopes.{and_scope, is_met, node_named, scopes_from, scopes_of, scopes_of_node, with_scope}
use Rattle.capnp_request.specs.Terms.{Said, SchemaNode}
use Rattle.capnp_request.specs.Types.{bound_count, is_bound_count}
use Rattle.capnp_request.specs.Work.{Bound, MarkedType}
use Rattle.capnp_request_meaning.specs.Meaning.{AreUnbound, without_types}

abbrev SaysUnbound : Said (List Bound) → Type 0
SaysUnbound (Ok bs) = AreUnbound bs
SaysUnbound (Err kind) = Unit {0}

with_unbound : (id distance parameters : ℕ) (rest : List Bound) → AreUnbound rest → AreUnbound (with_scope id distance parameters rest)
with_unbound id distance zero rest h = h
with_unbound id distance (suc parameters) rest h = (refl, h)

and_unbound : (id distance : ℕ) (parameters : Said ℕ) (rest : Said (List Bound)) → SaysUnbound rest → SaysUnbound (and_scope id distance parameters rest)
and_unbound id distance (Ok parameters) (Ok rest) h = with_unbound id distance parameters rest h
and_unbound id distance (Ok parameters) (Err kind) h = tt
and_unbound id distance (Err kind) rest h = tt

node_unbound : (outer : ℕ → Said (List Bound)) (distance id : ℕ) (o : Option SchemaNode) → ((scope : ℕ) → SaysUnbound (outer scope)) → SaysUnbound (scopes_of_node outer distance id o)
node_unbound outer distance id None h = tt
node_unbound outer distance id (Some n) h = and_unbound id distance n.parameters (outer n.scope) (h n.scope)

unbound_from : (nodes : List SchemaNode) (steps : ℕ) (met : List ℕ) (distance id : ℕ) → SaysUnbound (scopes_from steps nodes met distance id)
unbound_from nodes zero met distance id = tt
unbound_from nodes (suc steps) met distance id = go (is_met met id) (λ scope. unbound_from nodes steps (id ∷ met) (distance + 1) scope)
  where
    go : (q : Bool) → ((scope : ℕ) → SaysUnbound (scopes_from steps nodes (id ∷ met) (distance + 1) scope))
        → SaysUnbound (elim q as (λ _. Said (List Bound)) [ true ↦ Ok [] | false ↦ scopes_of_node (scopes_from steps nodes (id ∷ met) (distance + 1)) distance id (node_named nodes id) ])
    go true h = tt
    go false h = node_unbound (scopes_from steps nodes (id ∷ met) (distance + 1)) distance id (node_named nodes id) h

pub scopes_unbound : (nodes : List SchemaNode) (id : ℕ) (bs : List Bound) → scopes_of nodes id ≡ Ok bs → AreUnbound bs
scopes_unbound nodes id bs e = subst SaysUnbound e (unbound_from nodes (length nodes) [] 0 id)

-- so no types count
pub none_bound : (bs : List Bound) → AreUnbound bs → bound_count bs ≡ 0
none_bound [] h = refl
none_bound (b ∷ bs) h = let none : length b.types ≡ 0 = ap (λ (xs : List MarkedType). length xs) h.0 in omega (arith, none, none_bound bs h.1)

pub never_many : (bs : List Bound) → AreUnbound bs → is_bound_count (bound_count bs) ≡ false → ⊥
never_many bs h many = let few : is_bound_count (bound_count bs) ≡ true = ap is_bound_count (none_bound bs h) in cc

-- without types they are the same
abbrev with_types : Bound → List MarkedType → Bound
with_types b ts = record { scope = b.scope; distance = b.distance; parameters = b.parameters; types = ts }

pub same_without : (bs : List Bound) → AreUnbound bs → map without_types bs ≡ bs
same_without [] h = refl
same_without (b ∷ bs) h = ap (λ xs. without_types b ∷ xs) (same_without bs h.1) ∙ ap (λ ts. with_types b ts ∷ bs) (sym h.0)

pub scopes_without : (nodes : List SchemaNode) (id : ℕ) (bs : List Bound) → scopes_of nodes id ≡ Ok bs → map without_types bs ≡ bs
scopes_without nodes id bs e = same_without bs (scopes_unbound nodes id bs e)
