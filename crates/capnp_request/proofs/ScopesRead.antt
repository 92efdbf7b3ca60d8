-- The scopes of a node, one more out at a time.
use Rattle.std.proofs.Common.{ℕ, ◌+◌, ◌<◌, ◌≡◌, ◌∙◌, ap, arith, refl, sym, zero, suc, nat_eq, ◌==◌, ◌||◌, Bool, true, false, not, List, [], ◌∷◌, ◌++◌, append_assoc, map, Option, Some, None, Ok, Err}
use Rattle.std.proofs.lemmas.List.{append-nil, map-append}
use Rattle.capnp_device.specs.declared.error.ErrorKind.{ErrorKind}
use Rattle.capnp_request.specs.Steps.Bindings.{with_nothing}
use Rattle.capnp_request.specs.Scopes.{and_scope, is_met, node_named, scopes_from, scopes_of, scopes_of_node, with_scope}
use Rattle.capnp_request.specs.Terms.{Said, SchemaNode}
use Rattle.capnp_request.specs.Work.{Bound}
use Rattle.capnp_request.specs.Steps.Way.{AreOnWay}
use Rattle.capnp_request.specs.declared.met.Way.{Way}
use Rattle.capnp_request.specs.declared.schema_nodes.GenericScope.{GenericScope}
use Rattle.capnp_request.proofs.NodesListed.{joined}

-- an id at the end of a row was met, whatever else was
pub met_behind : (ids : List ℕ) (id q : ℕ) (others : Bool) → (is_met (ids ++ id ∷ []) q || others) ≡ (nat_eq id q || (is_met ids q || others))
met_behind [] id q others = either (nat_eq id q)
  where
    either : (b : Bool) → ((b || false) || others) ≡ (b || others)
    either true = refl
    either false = refl
met_behind (x ∷ ids) id q others = either (x == q) (nat_eq id q) (met_behind ids id q others)
  where
    either : (a b : Bool) → (is_met (ids ++ id ∷ []) q || others) ≡ (b || (is_met ids q || others)) → ((a || is_met (ids ++ id ∷ []) q) || others) ≡ (b || ((a || is_met ids q) || others))
    either true true e = refl
    either true false e = refl
    either false b e = e

module _ (nodes : List SchemaNode) (first : ℕ) where
  -- so many steps are left, and these ids were met
  pub record ScopesSoFar (scopes : List GenericScope) (way : Way) (left distance id : ℕ) : Type 0 where
    pub ids : List ℕ
    pub are_met : AreOnWay way ids
    pub rest : scopes_of nodes first ≡ joined (map with_nothing scopes) (scopes_from left nodes ids distance id)

  module _ (scopes : List GenericScope) (way : Way) (left distance id : ℕ) (h : ScopesSoFar scopes way left distance id) where
    ended : scopes_from left nodes h.ids distance id ≡ Ok [] → scopes_of nodes first ≡ Ok (map with_nothing scopes)
    ended e = h.rest ∙ (ap (joined (map with_nothing scopes)) e ∙ ap (λ (xs : List Bound). Ok xs) (append-nil (map with_nothing scopes)))

    pub all_scopes : left ≡ 0 → scopes_of nodes first ≡ Ok (map with_nothing scopes)
    all_scopes none = ended (ap (λ n. scopes_from n nodes h.ids distance id) none)

    abbrev at_id : ℕ → Bool → Option SchemaNode → Said (List Bound)
    at_id steps q o = elim q as (λ _. Said (List Bound)) [ true ↦ Ok [] | false ↦ scopes_of_node (scopes_from steps nodes (id ∷ h.ids) (distance + 1)) distance id o ]

    pub no_node : None ≡ node_named nodes id → scopes_of nodes first ≡ Ok (map with_nothing scopes)
    no_node e = ended (go left (is_met h.ids id))
      where
        at : (steps : ℕ) (q : Bool) → at_id steps q None ≡ Ok []
        at steps true = refl
        at steps false = refl

        go : (n : ℕ) (q : Bool) → scopes_from n nodes h.ids distance id ≡ Ok []
        go zero q = refl
        go (suc n) q = ap (at_id n (is_met h.ids id)) (sym e) ∙ at n (is_met h.ids id)

    pub met_again : (added : Bool) → added ≡ not (is_met h.ids id) → added ≡ false → scopes_of nodes first ≡ Ok (map with_nothing scopes)
    met_again added is fails = ended (go left)
      where
        was_there : (q : Bool) → false ≡ not q → q ≡ true
        was_there true e = refl
        was_there false e = cc

        there : is_met h.ids id ≡ true
        there = was_there (is_met h.ids id) (sym fails ∙ is)

        go : (n : ℕ) → scopes_from n nodes h.ids distance id ≡ Ok []
        go zero = refl
        go (suc n) = ap (λ q. at_id n q (node_named nodes id)) there

    module _ (n : SchemaNode) (named : Some n ≡ node_named nodes id) (added : Bool) (is : added ≡ not (is_met h.ids id)) (holds : added ≡ true) (steps : ℕ) (one : left ≡ suc steps) where
      new : is_met h.ids id ≡ false
      new = was_new (is_met h.ids id) (sym holds ∙ is)
        where
          was_new : (q : Bool) → true ≡ not q → q ≡ false
          was_new true e = cc
          was_new false e = refl

      step : scopes_from left nodes h.ids distance id ≡ and_scope id distance n.parameters (scopes_from steps nodes (id ∷ h.ids) (distance + 1) n.scope)
      step = ap (λ m. scopes_from m nodes h.ids distance id) one ∙ (ap (λ q. at_id steps q (node_named nodes id)) new ∙ ap (at_id steps false) (sym named))

      pub parameters_unread : (kind : ErrorKind) → n.parameters ≡ Err kind → scopes_of nodes first ≡ Err kind
      parameters_unread kind e = h.rest ∙ (ap (joined (map with_nothing scopes)) step ∙ ap (λ p. joined (map with_nothing scopes) (and_scope id distance p (scopes_from steps nodes (id ∷ h.ids) (distance + 1) n.scope))) e)

      module _ (further : Way) (met : added ≡ true → AreOnWay further (id ∷ h.ids)) (scope : ℕ) (out : n.scope ≡ scope) (count : ℕ) (parameters : n.parameters ≡ Ok count) where
        rest_of : scopes_of nodes first ≡ joined (map with_nothing scopes) (and_scope id distance (Ok count) (scopes_from steps nodes (id ∷ h.ids) (distance + 1) scope))
        rest_of =
            h.rest
            ∙ (ap (joined (map with_nothing scopes)) step
            ∙ (ap (λ p. joined (map with_nothing scopes) (and_scope id distance p (scopes_from steps nodes (id ∷ h.ids) (distance + 1) n.scope))) parameters
            ∙ ap (λ x. joined (map with_nothing scopes) (and_scope id distance (Ok count) (scopes_from steps nodes (id ∷ h.ids) (distance + 1) x))) out))

        put : (xs : List Bound) (c : ℕ) (r : Said (List Bound)) → joined xs (and_scope id distance (Ok c) r) ≡ joined (xs ++ with_scope id distance c []) r
        put xs zero (Ok bs) = ap (λ (ys : List Bound). Ok (ys ++ bs)) (sym (append-nil xs))
        put xs zero (Err kind) = refl
        put xs (suc c) (Ok bs) = ap (λ (ys : List Bound). Ok ys) (sym (append_assoc xs (record { scope = id; distance = distance; parameters = suc c; types = [] } ∷ []) bs))
        put xs (suc c) (Err kind) = refl

        pub one_out : (more : List GenericScope) → map with_nothing more ≡ map with_nothing scopes ++ with_scope id distance count [] → ScopesSoFar more further steps (distance + 1) scope
        one_out more all = record {
          ids = id ∷ h.ids;
          are_met = met holds;
          rest = rest_of ∙ (put (map with_nothing scopes) count (scopes_from steps nodes (id ∷ h.ids) (distance + 1) scope) ∙ ap (λ (xs : List Bound). joined xs (scopes_from steps nodes (id ∷ h.ids) (distance + 1) scope)) (sym all));
        }

-- one scope more, where it has parameters
pub pushed : (scopes more : List GenericScope) (g : GenericScope) (id distance count : ℕ) → 0 < count → more ≡ scopes ++ g ∷ [] → with_nothing g ≡ record { scope = id; distance = distance; parameters = count; types = [] } →
    map with_nothing more ≡ map with_nothing scopes ++ with_scope id distance count []
pushed scopes more g id distance zero some all same = absurd (omega (arith, some))
pushed scopes more g id distance (suc c) some all same = ap (map with_nothing) all ∙ (map-append with_nothing scopes (g ∷ []) ∙ ap (λ (b : Bound). map with_nothing scopes ++ b ∷ []) same)

pub not_pushed : (scopes : List GenericScope) (id distance count : ℕ) → count ≡ 0 → map with_nothing scopes ≡ map with_nothing scopes ++ with_scope id distance count []
not_pushed scopes id distance count none = sym (append-nil (map with_nothing scopes)) ∙ ap (λ c. map with_nothing scopes ++ with_scope id distance c []) (sym none)
