-- Ids that have nodes, each once, are no more than there are nodes.
use Rattle.std.proofs.Common.{ℕ, suc, ◌≤◌, ◌≡◌, ◌∙◌, ◌==◌, ◌||◌, ap, arith, refl, Bool, true, false, List, [], ◌∷◌, length, slice_get, Some}
use Rattle.std.proofs.lemmas.Bool.{eqb-true}
use Rattle.capnp_request.specs.Order.{is_node_there}
use Rattle.capnp_request.specs.Scopes.{is_met, node_named}
use Rattle.capnp_request.specs.Terms.{SchemaNode}
use Rattle.capnp_request_meaning.proofs.RootsMeant.{unmet, unmet_all, unmet_one_fewer}

abbrev pub AreOnce : List ℕ → Type 0
AreOnce ids = (i j id : ℕ) → slice_get ids i ≡ Some id → slice_get ids j ≡ Some id → i ≡ j

module _ (nodes : List SchemaNode) where
  abbrev pub HaveNodes : List ℕ → Type 0
  HaveNodes ids = (i id : ℕ) → slice_get ids i ≡ Some id → is_node_there (node_named nodes id) ≡ true

  unmet_left : (ids met : List ℕ) → AreOnce ids → HaveNodes ids → ((i id : ℕ) → slice_get ids i ≡ Some id → is_met met id ≡ false) → length ids ≤ unmet nodes met
  unmet_left [] met once there new = omega arith
  unmet_left (x ∷ ids) met once there new =
      let fewer : suc (unmet nodes (x ∷ met)) ≤ unmet nodes met = unmet_one_fewer nodes x met (new 0 x refl) (there 0 x refl) in
      let rest : length ids ≤ unmet nodes (x ∷ met) = unmet_left ids (x ∷ met) (λ i j id a b. let e : suc i ≡ suc j = once (suc i) (suc j) id a b in omega (arith, e)) (λ i id a. there (suc i) id a) (λ i id a. another i id a (x == id) refl (new (suc i) id a)) in
      omega (arith, fewer, rest)
    where
      another : (i id : ℕ) → slice_get ids i ≡ Some id → (q : Bool) → (x == id) ≡ q → is_met met id ≡ false → ((x == id) || is_met met id) ≡ false
      another i id a true e f = let same : x ≡ id = eqb-true x id e in let none : suc i ≡ 0 = once (suc i) 0 id a (ap (λ y. Some y) same) in absurd (omega (arith, none))
      another i id a false e f = ap (λ q. q || is_met met id) e ∙ f

  pub ids_fit : (ids : List ℕ) → AreOnce ids → HaveNodes ids → length ids ≤ length nodes
  ids_fit ids once there =
      let fit : length ids ≤ unmet nodes [] = unmet_left ids [] once there (λ i id a. refl) in
      let all : unmet nodes [] ≡ length nodes = unmet_all nodes in
      omega (arith, fit, all)
