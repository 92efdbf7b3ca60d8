-- Each struct of the requested files is named.
use Rattle.std.proofs.Common.{ℕ, zero, suc, ◌+◌, ◌≤◌, ◌≡◌, ◌∙◌, ◌==◌, ◌&&◌, ◌||◌, ◌⊎◌, ap, arith, inl, inr, not, refl, subst, sym, Bool, true, false, List, [], ◌∷◌, ◌++◌, length, slice_get, Option, Some, Ok}
use Rattle.std.proofs.lemmas.Bool.{and_parts, eqb-true, eq-eqb, or_cases, or_left, or_parts, or_right}
use Rattle.std.proofs.lemmas.List.{append-nil, length-append}
use Rattle.capnp_request.specs.Order.{is_node_there, name_files, name_root, name_roots, new_ids}
use Rattle.capnp_request.specs.Scopes.{is_met, node_named, scopes_of, some_where}
use Rattle.capnp_request.specs.Terms.{RequestTerm, Said, SchemaNode}
use Rattle.capnp_request.specs.Types.{is_root, number_struct}
use Rattle.capnp_request.specs.Work.{Entry, Named, Whole, work_of, work_said, ◌>>=◌}
use Rattle.capnp_request_meaning.specs.Meaning.{AreUnbound, IsListed, NestedIn, OfFile}
use Rattle.capnp_request_meaning.proofs.EntriesKept.{IsNumbered, KeepsWhole, bound_unbound, struct_numbered}
use Rattle.capnp_request_meaning.proofs.ScopesKept.{scopes_unbound, scopes_without}
use Rattle.capnp_request_meaning.proofs.Works.{IsWork, bind, node_bind, of_work, said_bind, weaker}

-- ---- ids that were met ----

either_order : (p q r : Bool) → (q || (p || r)) ≡ (p || (q || r))
either_order true true r = refl
either_order true false r = refl
either_order false true r = refl
either_order false false r = refl

grouped : (p q r : Bool) → (p || (q || r)) ≡ ((p || q) || r)
grouped true q r = refl
grouped false q r = refl

pub met_append : (a b : List ℕ) (id : ℕ) → is_met (a ++ b) id ≡ (is_met a id || is_met b id)
met_append [] b id = refl
met_append (x ∷ a) b id = ap (λ q. (x == id) || q) (met_append a b id) ∙ grouped (x == id) (is_met a id) (is_met b id)

met_left : (a b : List ℕ) (id : ℕ) → is_met a id ≡ true → is_met (a ++ b) id ≡ true
met_left a b id h = met_append a b id ∙ or_left (is_met a id) (is_met b id) h

met_right : (a b : List ℕ) (id : ℕ) → is_met b id ≡ true → is_met (a ++ b) id ≡ true
met_right a b id h = met_append a b id ∙ or_right (is_met a id) (is_met b id) h

-- the same ids in another order
met_moved : (y : ℕ) (a b : List ℕ) (id : ℕ) → is_met (a ++ y ∷ b) id ≡ is_met (y ∷ (a ++ b)) id
met_moved y a b id = met_append a (y ∷ b) id ∙ (either_order (y == id) (is_met a id) (is_met b id) ∙ ap (λ q. (y == id) || q) (sym (met_append a b id)))

pub there_of : (o : Option SchemaNode) (n : SchemaNode) → o ≡ Some n → is_node_there o ≡ true
there_of o n e = ap is_node_there e

-- ---- how many nodes weren't met ----

abbrev pub one_where : Bool → ℕ
one_where true = 1
one_where false = 0

abbrev pub unmet : List SchemaNode → List ℕ → ℕ
unmet [] met = 0
unmet (n ∷ ns) met = one_where (not (is_met met n.id)) + unmet ns met

unmet_same : (ns : List SchemaNode) (a b : List ℕ) → ((id : ℕ) → is_met a id ≡ is_met b id) → unmet ns a ≡ unmet ns b
unmet_same [] a b h = refl
unmet_same (n ∷ ns) a b h = ap (λ q. one_where (not q) + unmet ns a) (h n.id) ∙ ap (λ m. one_where (not (is_met b n.id)) + m) (unmet_same ns a b h)

fewer : (p q : Bool) → one_where (not (p || q)) ≤ one_where (not q)
fewer true true = omega arith
fewer true false = omega arith
fewer false true = omega arith
fewer false false = omega arith

unmet_fewer : (ns : List SchemaNode) (id : ℕ) (met : List ℕ) → unmet ns (id ∷ met) ≤ unmet ns met
unmet_fewer [] id met = omega arith
unmet_fewer (n ∷ ns) id met =
    let one : one_where (not ((id == n.id) || is_met met n.id)) ≤ one_where (not (is_met met n.id)) = fewer (id == n.id) (is_met met n.id) in
    let rest : unmet ns (id ∷ met) ≤ unmet ns met = unmet_fewer ns id met in
    omega (arith, one, rest)

one_fewer : (p q : Bool) (a b : ℕ) → p ≡ true → q ≡ false → a ≤ b → suc (one_where (not (p || q)) + a) ≤ one_where (not q) + b
one_fewer true false a b p q h = omega (arith, h)
one_fewer true true a b p q h = absurd (cc)
one_fewer false q a b p r h = absurd (cc)

pub unmet_one_fewer : (ns : List SchemaNode) (id : ℕ) (met : List ℕ) → is_met met id ≡ false → is_node_there (node_named ns id) ≡ true → suc (unmet ns (id ∷ met)) ≤ unmet ns met
unmet_one_fewer [] id met new there = absurd (cc)
unmet_one_fewer (n ∷ ns) id met new there = go (n.id == id) refl there (unmet_one_fewer ns id met new)
  where
    go : (q : Bool) → (n.id == id) ≡ q → is_node_there (some_where q n (node_named ns id)) ≡ true → (is_node_there (node_named ns id) ≡ true → suc (unmet ns (id ∷ met)) ≤ unmet ns met)
        → suc (one_where (not ((id == n.id) || is_met met n.id)) + unmet ns (id ∷ met)) ≤ one_where (not (is_met met n.id)) + unmet ns met
    go true is h rest =
        let same : n.id ≡ id = eqb-true n.id id is in
        one_fewer (id == n.id) (is_met met n.id) (unmet ns (id ∷ met)) (unmet ns met) (eq-eqb id n.id (sym same)) (ap (λ i. is_met met i) same ∙ new) (unmet_fewer ns id met)
    go false is h rest =
        let one : one_where (not ((id == n.id) || is_met met n.id)) ≤ one_where (not (is_met met n.id)) = fewer (id == n.id) (is_met met n.id) in
        let more : suc (unmet ns (id ∷ met)) ≤ unmet ns met = rest h in
        omega (arith, one, more)

-- ---- ids that are new ----

not_true : (q : Bool) → not q ≡ true → q ≡ false
not_true true e = absurd (cc)
not_true false e = refl

module _ (nodes : List SchemaNode) where
  abbrev is_new : List ℕ → ℕ → Bool
  is_new met id = not (is_met met id) && is_node_there (node_named nodes id)

  abbrev new_where : Bool → ℕ → List ℕ → List ℕ → List ℕ
  new_where q id ids met = elim q as (λ _. List ℕ) [ true ↦ id ∷ new_ids nodes ids (id ∷ met) | false ↦ new_ids nodes ids met ]

  -- each takes the place of a node that wasn't met
  fuel_left : (ids met : List ℕ) → length (new_ids nodes ids met) + unmet nodes (new_ids nodes ids met ++ met) ≤ unmet nodes met
  fuel_left [] met = omega arith
  fuel_left (id ∷ ids) met = go (is_new met id) refl (fuel_left ids (id ∷ met)) (fuel_left ids met)
    where
      go : (q : Bool) → is_new met id ≡ q → length (new_ids nodes ids (id ∷ met)) + unmet nodes (new_ids nodes ids (id ∷ met) ++ id ∷ met) ≤ unmet nodes (id ∷ met)
          → length (new_ids nodes ids met) + unmet nodes (new_ids nodes ids met ++ met) ≤ unmet nodes met
          → length (new_where q id ids met) + unmet nodes (new_where q id ids met ++ met) ≤ unmet nodes met
      go true is h k =
          let parts = and_parts (not (is_met met id)) (is_node_there (node_named nodes id)) is in
          let new : List ℕ = new_ids nodes ids (id ∷ met) in
          let moved : unmet nodes (new_ids nodes ids (id ∷ met) ++ id ∷ met) ≡ unmet nodes (id ∷ (new_ids nodes ids (id ∷ met) ++ met)) = unmet_same nodes (new ++ id ∷ met) (id ∷ (new ++ met)) (met_moved id new met) in
          let less : suc (unmet nodes (id ∷ met)) ≤ unmet nodes met = unmet_one_fewer nodes id met (not_true (is_met met id) parts.0) parts.1 in
          omega (arith, h, moved, less)
      go false is h k = k

  both_false : (p q : Bool) → (not p && q) ≡ false → q ≡ true → p ≡ true
  both_false true q e h = refl
  both_false false true e h = absurd (cc)
  both_false false false e h = absurd (cc)

  -- all that have nodes are met then
  new_cover : (ids met : List ℕ) (y : ℕ) → is_met ids y ≡ true → is_node_there (node_named nodes y) ≡ true → is_met (new_ids nodes ids met ++ met) y ≡ true
  new_cover [] met y m there = absurd (cc)
  new_cover (id ∷ ids) met y m there = go (is_new met id) refl (or_cases (id == y) (is_met ids y) m) (new_cover ids (id ∷ met) y) (new_cover ids met y)
    where
      go : (q : Bool) → is_new met id ≡ q → ((id == y) ≡ true) ⊎ (is_met ids y ≡ true)
          → (is_met ids y ≡ true → is_node_there (node_named nodes y) ≡ true → is_met (new_ids nodes ids (id ∷ met) ++ id ∷ met) y ≡ true)
          → (is_met ids y ≡ true → is_node_there (node_named nodes y) ≡ true → is_met (new_ids nodes ids met ++ met) y ≡ true)
          → is_met (new_where q id ids met ++ met) y ≡ true
      go true is (inl same) h k = or_left (id == y) (is_met (new_ids nodes ids (id ∷ met) ++ met) y) same
      go true is (inr later) h k = sym (met_moved id (new_ids nodes ids (id ∷ met)) met y) ∙ h later there
      go false is (inl same) h k =
          let e : id ≡ y = eqb-true id y same in
          let here : is_node_there (node_named nodes id) ≡ true = ap (λ i. is_node_there (node_named nodes i)) e ∙ there in
          let old : is_met met y ≡ true = ap (λ i. is_met met i) (sym e) ∙ both_false (is_met met id) (is_node_there (node_named nodes id)) is here in
          met_right (new_ids nodes ids met) met y old
      go false is (inr later) h k = k later there

-- ---- roots ----

-- an entry of a struct node with nothing bound
pub record HasRoot (entries : List Entry) (id : ℕ) : Type 0 where
  pub number : ℕ
  pub entry : Entry
  pub numbered : slice_get entries number ≡ Some entry
  pub node : entry.node ≡ id
  pub whole : entry.place ≡ Whole
  pub unbound : AreUnbound entry.bound

-- an id was worked on: what is nested in its node is met, and it has an entry where it is a root
pub record IsWorkedOn (nodes : List SchemaNode) (all : List ℕ) (entries : List Entry) (id : ℕ) : Type 0 where
  pub node : SchemaNode
  pub nested : List ℕ
  pub first : node_named nodes id ≡ Some node
  pub listed : node.nested ≡ Ok nested
  pub inner : (x : ℕ) → is_met nested x ≡ true → is_node_there (node_named nodes x) ≡ true → is_met all x ≡ true
  pub root : is_root node.kind ≡ true → HasRoot entries id

-- all that are met in the end were met before, and don't stand in the queue, or are worked on
pub record IsClosed (nodes : List SchemaNode) (met queue : List ℕ) (entries : List Entry) : Type 0 where
  pub all : List ℕ
  pub within : (id : ℕ) → is_met met id ≡ true → is_met all id ≡ true
  pub closed : (id : ℕ) → is_met all id ≡ true → ((is_met met id ≡ true) × (is_met queue id ≡ false)) ⊎ IsWorkedOn nodes all entries id

module _ (K : List Entry → Type 0) (nodes : List SchemaNode) (whole : KeepsWhole K nodes) (strict : Bool) where
  pub root_named : (id : ℕ) (q : Bool) → IsWork K (name_root nodes strict id q) (λ none z. q ≡ true → HasRoot z.entries id)
  root_named id false = of_work K [] (λ (none : List ℕ) z. false ≡ true → HasRoot z.entries id) (λ z e. absurd (cc))
  root_named id true =
      said_bind K (scopes_of nodes id) (λ bound. number_struct id bound >>= (λ number. work_of [])) (λ none z. true ≡ true → HasRoot z.entries id) (λ bound is.
      bind K (number_struct id bound) (λ number. work_of []) (λ n z. IsNumbered id bound n z.entries) (λ none z. true ≡ true → HasRoot z.entries id)
      (struct_numbered K nodes whole id bound (is ∙ ap (λ xs. Ok xs) (sym (scopes_without nodes id bound is))))
      (λ n. of_work K [] (λ (none : List ℕ) z. IsNumbered id bound n z.entries → true ≡ true → HasRoot z.entries id)
      (λ z h e. record { number = n; entry = h.entry; numbered = h.numbered; node = h.node; whole = h.whole; unbound = bound_unbound h.entry.bound bound h.same (scopes_unbound nodes id bound is) })))

  -- one of the queue is worked on
  one_closed : (met : List ℕ) (id : ℕ) (ids : List ℕ) (n : SchemaNode) (nested : List ℕ) (entries : List Entry) → node_named nodes id ≡ Some n → n.nested ≡ Ok nested → (is_root n.kind ≡ true → HasRoot entries id)
      → IsClosed nodes (new_ids nodes nested met ++ met) (ids ++ new_ids nodes nested met) entries → IsClosed nodes met (id ∷ ids) entries
  one_closed met id ids n nested entries first listed root c = record { all = c.all; within = λ x m. c.within x (met_right (new_ids nodes nested met) met x m); closed = λ x a. one x (c.closed x a) }
    where
      this : IsWorkedOn nodes c.all entries id
      this = record { node = n; nested = nested; first = first; listed = listed; inner = λ x m there. c.within x (new_cover nodes nested met x m there); root = root }

      by : (x : ℕ) (q : Bool) → (id == x) ≡ q → is_met met x ≡ true → is_met ids x ≡ false → ((is_met met x ≡ true) × (is_met (id ∷ ids) x ≡ false)) ⊎ IsWorkedOn nodes c.all entries x
      by x true is m q = inr (subst (λ i. IsWorkedOn nodes c.all entries i) (eqb-true id x is) this)
      by x false is m q = inl (m, ap (λ p. p || is_met ids x) is ∙ q)

      old : (x : ℕ) → is_met (new_ids nodes nested met ++ met) x ≡ true → is_met (new_ids nodes nested met) x ≡ false → is_met met x ≡ true
      old x m new = go (or_cases (is_met (new_ids nodes nested met) x) (is_met met x) (sym (met_append (new_ids nodes nested met) met x) ∙ m))
        where
          go : (is_met (new_ids nodes nested met) x ≡ true) ⊎ (is_met met x ≡ true) → is_met met x ≡ true
          go (inl h) = absurd (cc)
          go (inr h) = h

      one : (x : ℕ) → ((is_met (new_ids nodes nested met ++ met) x ≡ true) × (is_met (ids ++ new_ids nodes nested met) x ≡ false)) ⊎ IsWorkedOn nodes c.all entries x → ((is_met met x ≡ true) × (is_met (id ∷ ids) x ≡ false)) ⊎ IsWorkedOn nodes c.all entries x
      one x (inr h) = inr h
      one x (inl h) =
          let parts = or_parts (is_met ids x) (is_met (new_ids nodes nested met) x) (sym (met_append ids (new_ids nodes nested met) x) ∙ h.1) in
          by x (id == x) refl (old x h.0 parts.1) parts.0

  abbrev IsClosedLater : (met queue : List ℕ) → List ℕ → Named → Type 0
  IsClosedLater met queue none z = IsClosed nodes met queue z.entries

  no_queue : (met : List ℕ) (entries : List Entry) → IsClosed nodes met [] entries
  no_queue met entries = record { all = met; within = λ id m. m; closed = λ id m. inl (m, refl) }

  roots_named : (steps : ℕ) (met queue : List ℕ) → length queue + unmet nodes met ≤ steps → IsWork K (name_roots nodes strict steps met queue) (IsClosedLater met queue)
  roots_named zero met [] h = of_work K [] (IsClosedLater met []) (λ z. no_queue met z.entries)
  roots_named zero met (id ∷ ids) h = absurd (omega (arith, h))
  roots_named (suc steps) met [] h = of_work K [] (IsClosedLater met []) (λ z. no_queue met z.entries)
  roots_named (suc steps) met (id ∷ ids) h =
      node_bind K (node_named nodes id) (λ n. work_said n.nested >>= (λ nested. name_root nodes strict id (is_root n.kind) >>= (λ none. name_roots nodes strict steps (new_ids nodes nested met ++ met) (ids ++ new_ids nodes nested met)))) (IsClosedLater met (id ∷ ids)) (λ n first.
      said_bind K n.nested (λ nested. name_root nodes strict id (is_root n.kind) >>= (λ none. name_roots nodes strict steps (new_ids nodes nested met ++ met) (ids ++ new_ids nodes nested met))) (IsClosedLater met (id ∷ ids)) (λ nested listed.
      bind K (name_root nodes strict id (is_root n.kind)) (λ none. name_roots nodes strict steps (new_ids nodes nested met ++ met) (ids ++ new_ids nodes nested met)) (λ none z. is_root n.kind ≡ true → HasRoot z.entries id) (IsClosedLater met (id ∷ ids)) (root_named id (is_root n.kind)) (λ none.
      weaker K (name_roots nodes strict steps (new_ids nodes nested met ++ met) (ids ++ new_ids nodes nested met)) (IsClosedLater (new_ids nodes nested met ++ met) (ids ++ new_ids nodes nested met)) (λ more z. (is_root n.kind ≡ true → HasRoot z.entries id) → IsClosed nodes met (id ∷ ids) z.entries)
      (λ more z closed root. one_closed met id ids n nested z.entries first listed root closed)
      (roots_named steps (new_ids nodes nested met ++ met) (ids ++ new_ids nodes nested met) (fits nested)))))
    where
      fits : (nested : List ℕ) → length (ids ++ new_ids nodes nested met) + unmet nodes (new_ids nodes nested met ++ met) ≤ steps
      fits nested =
          let left : length (new_ids nodes nested met) + unmet nodes (new_ids nodes nested met ++ met) ≤ unmet nodes met = fuel_left nodes nested met in
          let longer : length (ids ++ new_ids nodes nested met) ≡ length ids + length (new_ids nodes nested met) = length-append ids (new_ids nodes nested met) in
          omega (arith, h, left, longer)

-- ---- the structs of the requested files ----

abbrev pub AreRooted : RequestTerm → List Entry → Type 0
AreRooted r entries = (id : ℕ) (n : SchemaNode) → IsListed r id → node_named r.nodes id ≡ Some n → is_root n.kind ≡ true → HasRoot entries id

same_ids : (d : Said (List ℕ)) (a b : List ℕ) → d ≡ Ok a → d ≡ Ok b → a ≡ b
same_ids d a b e f = let h : ◌≡◌ {A = Said (List ℕ)} (Ok a) (Ok b) = sym e ∙ f in cc

same_nodes : (o : Option SchemaNode) (m n : SchemaNode) → o ≡ Some m → o ≡ Some n → m ≡ n
same_nodes o m n e f = let h : ◌≡◌ {A = Option SchemaNode} (Some m) (Some n) = sym e ∙ f in cc

module _ (r : RequestTerm) (files : List ℕ) (read : r.files ≡ Ok files) (entries : List Entry) (c : IsClosed r.nodes (new_ids r.nodes files []) (new_ids r.nodes files []) entries) where
  worked_on : (id : ℕ) → is_met c.all id ≡ true → IsWorkedOn r.nodes c.all entries id
  worked_on id m = go (c.closed id m)
    where
      go : ((is_met (new_ids r.nodes files []) id ≡ true) × (is_met (new_ids r.nodes files []) id ≡ false)) ⊎ IsWorkedOn r.nodes c.all entries id → IsWorkedOn r.nodes c.all entries id
      go (inl h) = let a : is_met (new_ids r.nodes files []) id ≡ true = h.0 in let b : is_met (new_ids r.nodes files []) id ≡ false = h.1 in absurd (cc)
      go (inr h) = h

  listed_met : (id : ℕ) → IsListed r id → is_node_there (node_named r.nodes id) ≡ true → is_met c.all id ≡ true
  listed_met id (OfFile ids id2 e m) there =
      let m2 : is_met files id ≡ true = ap (λ xs. is_met xs id) (same_ids r.files files ids read e) ∙ m in
      c.within id (ap (λ xs. is_met xs id) (sym (append-nil (new_ids r.nodes files []))) ∙ new_cover r.nodes files [] id m2 there)
  listed_met id (NestedIn outer n ids id2 l first e m) there =
      let w : IsWorkedOn r.nodes c.all entries outer = worked_on outer (listed_met outer l (there_of (node_named r.nodes outer) n first)) in
      let same : w.node ≡ n = same_nodes (node_named r.nodes outer) w.node n w.first first in
      let nested : w.nested ≡ ids = same_ids w.node.nested w.nested ids w.listed (ap (λ (k : SchemaNode). k.nested) same ∙ e) in
      w.inner id (ap (λ xs. is_met xs id) nested ∙ m) there

  all_rooted : AreRooted r entries
  all_rooted id n l first root =
      let w : IsWorkedOn r.nodes c.all entries id = worked_on id (listed_met id l (there_of (node_named r.nodes id) n first)) in
      w.root (ap (λ (k : SchemaNode). is_root k.kind) (same_nodes (node_named r.nodes id) w.node n w.first first) ∙ root)

-- as many steps as nodes are enough
pub unmet_all : (ns : List SchemaNode) → unmet ns [] ≡ length ns
unmet_all [] = refl
unmet_all (n ∷ ns) = let h : unmet ns [] ≡ length ns = unmet_all ns in omega (arith, h)

enough : (nodes : List SchemaNode) (ids : List ℕ) → length (new_ids nodes ids []) + unmet nodes (new_ids nodes ids []) ≤ length nodes
enough nodes ids =
    let left : length (new_ids nodes ids []) + unmet nodes (new_ids nodes ids [] ++ []) ≤ unmet nodes [] = fuel_left nodes ids [] in
    let same : unmet nodes (new_ids nodes ids [] ++ []) ≡ unmet nodes (new_ids nodes ids []) = ap (λ xs. unmet nodes xs) (append-nil (new_ids nodes ids [])) in
    omega (arith, left, same, unmet_all nodes)

pub files_named : (K : List Entry → Type 0) (r : RequestTerm) → KeepsWhole K r.nodes → (strict : Bool) → IsWork K (name_files r.nodes strict r.files) (λ none z. AreRooted r z.entries)
files_named K r whole strict = said_bind K r.files (λ ids. name_roots r.nodes strict (length r.nodes) (new_ids r.nodes ids []) (new_ids r.nodes ids [])) (λ none z. AreRooted r z.entries) (λ ids read.
    weaker K (name_roots r.nodes strict (length r.nodes) (new_ids r.nodes ids []) (new_ids r.nodes ids [])) (λ none z. IsClosed r.nodes (new_ids r.nodes ids []) (new_ids r.nodes ids []) z.entries) (λ none z. AreRooted r z.entries)
    (λ none z c. all_rooted r ids read z.entries c)
    (roots_named K r.nodes whole strict (length r.nodes) (new_ids r.nodes ids []) (new_ids r.nodes ids []) (enough r.nodes ids)))
