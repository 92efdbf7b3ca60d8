-- The ids that a request lists, those that are put into a queue, and the roots among them.
use Rattle.std.proofs.Common.{ℕ, zero, suc, ◌+◌, ◌-◌, ◌<◌, ◌≤◌, ◌≡◌, ◌==◌, ◌∙◌, arith, ap, refl, sym, append_assoc, drop, get_or, length, nat_eq, slice_get, Bool, true, false, not, ◌&&◌, ◌||◌, List, [], ◌∷◌, ◌++◌, Some, None, Ok, Err}
use Rattle.std.proofs.lemmas.List.{append-nil}
use Rattle.std.proofs.lemmas.Option.{slice_get_within}
use Rattle.std.specs.List.{list_any}
use Rattle.std.specs.HashSet.{HashSet}
use Rattle.capnp_device.specs.declared.error.ErrorKind.{ErrorKind}
use Rattle.capnp_device.specs.declared.error.ErrorKind.TheVariants.{NodeNotFound}
use Rattle.capnp_records.specs.Record.{Record, values_from}
use Rattle.capnp_request.specs.declared.handles.RequestList.{RequestList}
use Rattle.capnp_request.specs.Steps.Handles.{values_left}
use Rattle.capnp_request.specs.Steps.Seen.{element_in, list_seen}
use Rattle.capnp_request.specs.Steps.Met.{AreMet}
use Rattle.capnp_request.specs.Order.{at_node, is_node_there, name_files, name_root, name_roots, new_ids}
use Rattle.capnp_request.specs.Reading.{all_said, both_said, each_said, node_said, whole_list, id_said}
use Rattle.capnp_request.specs.Parts.{request_read_at}
use Rattle.capnp_request.specs.Scopes.{is_met, node_named, scopes_of}
use Rattle.capnp_request.specs.Terms.{Said, SchemaNode}
use Rattle.capnp_request.specs.Types.{is_root, number_struct}
use Rattle.capnp_request.specs.Work.{Bound, Named, Work, work_of, work_said, ◌>>=◌, work_continued}
use Rattle.capnp_request.proofs.ListsSaid.{length_of}
use Rattle.capnp_request.proofs.OrderMade.{drop_at, drop_past}
use Rattle.capnp_request.proofs.Works.{then_err, then_ok}

-- ---- lists of what is said ----

abbrev pub said_behind : {A : Type 0} → List A → Said (List A) → Said (List A)
said_behind xs (Ok ys) = Ok (xs ++ ys)
said_behind xs (Err kind) = Err kind

pub behind_none : {A : Type 0} (r : Said (List A)) → said_behind [] r ≡ r
behind_none (Ok ys) = refl
behind_none (Err kind) = refl

pub behind_end : {A : Type 0} (xs : List A) (rest : List (Said A)) → rest ≡ [] → said_behind xs (all_said rest) ≡ Ok xs
behind_end xs rest e = ap (λ r. said_behind xs (all_said r)) e ∙ ap (λ ys. Ok ys) (append-nil xs)

pub behind_more : {A : Type 0} (xs : List A) (x : A) (all rest : List (Said A)) → all ≡ Ok x ∷ rest → said_behind (xs ++ x ∷ []) (all_said rest) ≡ said_behind xs (all_said all)
behind_more {A = A} xs x all rest e = sym (ap (λ r. said_behind xs (all_said r)) e ∙ go (all_said rest))
  where
    go : (r : Said (List A)) → said_behind xs (both_said (Ok x) r) ≡ said_behind (xs ++ x ∷ []) r
    go (Ok ys) = ap (λ zs. Ok zs) (sym (append_assoc xs (x ∷ []) ys))
    go (Err kind) = refl

pub behind_refused : {A : Type 0} (xs : List A) (kind : ErrorKind) (all rest : List (Said A)) → all ≡ Err kind ∷ rest → said_behind xs (all_said all) ≡ Err kind
behind_refused xs kind all rest e = ap (λ r. said_behind xs (all_said r)) e

-- what the structs of a list say, all of them
pub whole_read : {A : Type 0} (l : RequestList) (b : ℕ) (f : Record → A) → whole_list b f (list_seen l) ≡ all_said (each_said b f (values_left l 0))
unfolding values_left
whole_read l b f = let e : length_of l ≡ length_of l - 0 = omega arith in ap (λ n. all_said (each_said b f (values_from (element_in l) 0 n))) e

-- ---- ids that were met ----

met_append : (a b : List ℕ) (id : ℕ) → is_met (a ++ b) id ≡ (is_met a id || is_met b id)
met_append [] b id = refl
met_append (x ∷ a) b id = ap (λ q. (x == id) || q) (met_append a b id) ∙ go (x == id) (is_met a id) (is_met b id)
  where
    go : (p q r : Bool) → (p || (q || r)) ≡ ((p || q) || r)
    go true q r = refl
    go false q r = refl

-- the same ids in another order
pub met_moved : (a b c : List ℕ) (id : ℕ) → is_met (b ++ (a ++ c)) id ≡ is_met ((a ++ b) ++ c) id
met_moved a b c id =
    met_append b (a ++ c) id ∙ (ap (λ q. is_met b id || q) (met_append a c id) ∙ (go (is_met a id) (is_met b id) (is_met c id)
    ∙ sym (met_append (a ++ b) c id ∙ ap (λ q. q || is_met c id) (met_append a b id))))
  where
    go : (p q r : Bool) → (q || (p || r)) ≡ ((p || q) || r)
    go true true r = refl
    go true false r = refl
    go false true r = refl
    go false false r = refl

-- the first id before the others
pub new_first : (nodes : List SchemaNode) (id : ℕ) (ids met : List ℕ) → new_ids nodes (id ∷ ids) met ≡ new_ids nodes (id ∷ []) met ++ new_ids nodes ids (new_ids nodes (id ∷ []) met ++ met)
new_first nodes id ids met = go (not (is_met met id) && is_node_there (node_named nodes id))
  where
    go : (q : Bool) → (elim q as (λ _. List ℕ) [ true ↦ id ∷ new_ids nodes ids (id ∷ met) | false ↦ new_ids nodes ids met ])
        ≡ (elim q as (λ _. List ℕ) [ true ↦ id ∷ [] | false ↦ [] ]) ++ new_ids nodes ids ((elim q as (λ _. List ℕ) [ true ↦ id ∷ [] | false ↦ [] ]) ++ met)
    go true = refl
    go false = refl

-- at the beginning none was met
pub none_met : {S : Type 0} (set : HashSet ℕ S) → set.keys ≡ [] → AreMet set []
none_met set e = λ q. ap (λ (ks : List ℕ). list_any (nat_eq q) ks) e

-- ---- the queue ----

pub drop_behind : (xs ys : List ℕ) (i : ℕ) → i ≤ length xs → drop i (xs ++ ys) ≡ drop i xs ++ ys
drop_behind xs ys zero h = refl
drop_behind [] ys (suc i) h = absurd (omega (arith, h))
drop_behind (x ∷ xs) ys (suc i) h = drop_behind xs ys i (omega (arith, h))

pub queue_left : (xs : List ℕ) (i : ℕ) → i < length xs → drop i xs ≡ get_or xs i 0 ∷ drop (i + 1) xs
queue_left [] i h = absurd (omega (arith, h))
queue_left (x ∷ xs) zero h = refl
queue_left (x ∷ xs) (suc i) h = let e : suc i + 1 ≡ suc (i + 1) = omega arith in queue_left xs i (omega (arith, h)) ∙ ap (λ n. get_or xs i 0 ∷ drop n (x ∷ xs)) (sym e)

pub nothing_left : (xs : List ℕ) (i : ℕ) → length xs ≤ i → drop i xs ≡ []
nothing_left [] zero h = refl
nothing_left [] (suc i) h = refl
nothing_left (x ∷ xs) zero h = absurd (omega (arith, h))
nothing_left (x ∷ xs) (suc i) h = nothing_left xs i (omega (arith, h))

-- what is nested in a node
pub nested_in : (r : Record) → (node_said r).nested ≡ whole_list 6 (id_said 6) (request_read_at 2 3 r)
unfolding node_said
nested_in r = refl

module _ (nodes : List SchemaNode) (strict : Bool) (id : ℕ) (root : Bool) (s : Named) where
  abbrev numbered_root : List Bound → Work (List ℕ)
  numbered_root bound = number_struct id bound >>= (λ number. work_of [])

  module _ (is : root ≡ true) where
    pub root_unscoped : (kind : ErrorKind) → scopes_of nodes id ≡ Err kind → name_root nodes strict id root s ≡ Err kind
    root_unscoped kind e = ap (λ b. name_root nodes strict id b s) is ∙ ap (λ r. work_continued numbered_root (work_said r s)) e

    module _ (bound : List Bound) (scopes : scopes_of nodes id ≡ Ok bound) where
      pub root_unnumbered : (kind : ErrorKind) → number_struct id bound s ≡ Err kind → name_root nodes strict id root s ≡ Err kind
      root_unnumbered kind e = ap (λ b. name_root nodes strict id b s) is ∙ (ap (λ r. work_continued numbered_root (work_said r s)) scopes ∙ ap (work_continued (λ number. work_of [])) e)

      pub root_numbered : (number : ℕ) (after : Named) → number_struct id bound s ≡ Ok (number, after) → name_root nodes strict id root s ≡ Ok ([], after)
      root_numbered number after e = ap (λ b. name_root nodes strict id b s) is ∙ (ap (λ r. work_continued numbered_root (work_said r s)) scopes ∙ ap (work_continued (λ number. work_of [])) e)

module _ (nodes : List SchemaNode) (strict : Bool) where
  pub no_queue : (steps : ℕ) (met : List ℕ) (s : Named) → name_roots nodes strict steps met [] s ≡ Ok ([], s)
  no_queue zero met s = refl
  no_queue (suc steps) met s = refl

  pub no_steps : (met queue : List ℕ) (s : Named) → name_roots nodes strict 0 met queue s ≡ Ok ([], s)
  no_steps met queue s = refl

  module _ (steps : ℕ) (met : List ℕ) (id : ℕ) (ids : List ℕ) (s : Named) where
    abbrev rest : List ℕ → List ℕ → Work (List ℕ)
    rest nested none = name_roots nodes strict steps (new_ids nodes nested met ++ met) (ids ++ new_ids nodes nested met)

    abbrev within : SchemaNode → Work (List ℕ)
    within n = work_said n.nested >>= (λ nested. name_root nodes strict id (is_root n.kind) >>= rest nested)

    pub root_missing : node_named nodes id ≡ None → name_roots nodes strict (suc steps) met (id ∷ ids) s ≡ Err NodeNotFound
    root_missing e = ap (λ o. at_node o within s) e

    module _ (n : SchemaNode) (found : node_named nodes id ≡ Some n) where
      begun : name_roots nodes strict (suc steps) met (id ∷ ids) s ≡ within n s
      begun = ap (λ o. at_node o within s) found

      pub nested_refused : (kind : ErrorKind) → n.nested ≡ Err kind → name_roots nodes strict (suc steps) met (id ∷ ids) s ≡ Err kind
      nested_refused kind e = begun ∙ ap (λ x. work_continued (λ nested. name_root nodes strict id (is_root n.kind) >>= rest nested) (work_said x s)) e

      module _ (nested : List ℕ) (listed : n.nested ≡ Ok nested) where
        opened : name_roots nodes strict (suc steps) met (id ∷ ids) s ≡ (name_root nodes strict id (is_root n.kind) >>= rest nested) s
        opened = begun ∙ ap (λ x. work_continued (λ nested. name_root nodes strict id (is_root n.kind) >>= rest nested) (work_said x s)) listed

        pub root_refused : (kind : ErrorKind) → name_root nodes strict id (is_root n.kind) s ≡ Err kind → name_roots nodes strict (suc steps) met (id ∷ ids) s ≡ Err kind
        root_refused kind e = opened ∙ then_err (name_root nodes strict id (is_root n.kind)) (rest nested) s kind e

        pub root_named : (after : Named) → name_root nodes strict id (is_root n.kind) s ≡ Ok ([], after) →
            name_roots nodes strict (suc steps) met (id ∷ ids) s ≡ name_roots nodes strict steps (new_ids nodes nested met ++ met) (ids ++ new_ids nodes nested met) after
        root_named after e = opened ∙ then_ok (name_root nodes strict id (is_root n.kind)) (rest nested) s after [] e

-- ---- one step of each loop ----

module _ (nodes : List SchemaNode) (ids : List ℕ) (i : ℕ) (ms : List ℕ) where
  abbrev new_here : List ℕ
  new_here = new_ids nodes (get_or ids i 0 ∷ []) ms

  abbrev met_here : List ℕ
  met_here = new_here ++ ms

  split_here : i < length ids → new_ids nodes (drop i ids) ms ≡ new_here ++ new_ids nodes (drop (i + 1) ids) met_here
  split_here inside = ap (λ xs. new_ids nodes xs ms) (queue_left ids i inside) ∙ new_first nodes (get_or ids i 0) (drop (i + 1) ids) ms

  pub put_more : (queue after whole : List ℕ) → i < length ids → queue ++ new_ids nodes (drop i ids) ms ≡ whole → after ≡ queue ++ new_here → after ++ new_ids nodes (drop (i + 1) ids) met_here ≡ whole
  put_more queue after whole inside e f =
      ap (λ xs. xs ++ new_ids nodes (drop (i + 1) ids) met_here) f ∙ (append_assoc queue new_here (new_ids nodes (drop (i + 1) ids) met_here) ∙ (ap (λ xs. queue ++ xs) (sym (split_here inside)) ∙ e))

  pub met_stays : (id : ℕ) → i < length ids → is_met (new_ids nodes (drop (i + 1) ids) met_here ++ met_here) id ≡ is_met (new_ids nodes (drop i ids) ms ++ ms) id
  met_stays id inside = met_moved new_here (new_ids nodes (drop (i + 1) ids) met_here) ms id ∙ ap (λ xs. is_met (xs ++ ms) id) (sym (split_here inside))

  pub none_new : length ids ≤ i → new_ids nodes (drop i ids) ms ≡ []
  none_new past = ap (λ xs. new_ids nodes xs ms) (nothing_left ids i past)

module _ (nodes : List SchemaNode) (strict : Bool) (count position : ℕ) (met queue : List ℕ) (id : ℕ) (s : Named) (inside : position < count) (here : slice_get queue position ≡ Some id) where
  pub at_id : name_roots nodes strict (count - position) met (drop position queue) s ≡ name_roots nodes strict (suc (count - (position + 1))) met (id ∷ drop (position + 1) queue) s
  at_id =
      let e : count - position ≡ suc (count - (position + 1)) = omega (arith, inside) in
      ap (λ n. name_roots nodes strict n met (drop position queue) s) e ∙ ap (λ xs. name_roots nodes strict (suc (count - (position + 1))) met xs s) (drop_at queue position id here)

  pub behind_id : (added after : List ℕ) → after ≡ queue ++ added → drop (position + 1) after ≡ drop (position + 1) queue ++ added
  behind_id added after e = ap (drop (position + 1)) e ∙ drop_behind queue added (position + 1) (omega (arith, slice_get_within queue position id here))

-- the queue at the beginning, and at its end
module _ (nodes : List SchemaNode) (strict : Bool) (s : Named) where
  pub roots_begun : (queue before ids : List ℕ) → queue ≡ before ++ ids → before ≡ [] → name_roots nodes strict (length nodes - 0) ids (drop 0 queue) s ≡ name_roots nodes strict (length nodes) ids ids s
  roots_begun queue before ids e none =
      let all : length nodes - 0 ≡ length nodes = omega arith in
      let same : queue ≡ ids = e ∙ ap (λ (xs : List ℕ). xs ++ ids) none in
      ap (λ n. name_roots nodes strict n ids (drop 0 queue) s) all ∙ ap (λ (xs : List ℕ). name_roots nodes strict (length nodes) ids xs s) same

  pub queue_over : (steps position : ℕ) (met queue : List ℕ) → slice_get queue position ≡ None → name_roots nodes strict steps met (drop position queue) s ≡ Ok ([], s)
  queue_over steps position met queue none = ap (λ (xs : List ℕ). name_roots nodes strict steps met xs s) (drop_past queue position none) ∙ no_queue nodes strict steps met s

  pub steps_over : (steps : ℕ) (met queue : List ℕ) → steps ≡ 0 → name_roots nodes strict steps met queue s ≡ Ok ([], s)
  steps_over steps met queue none = ap (λ n. name_roots nodes strict n met queue s) none ∙ no_steps nodes strict met queue s

-- ---- the requested files ----

module _ (nodes : List SchemaNode) (strict : Bool) (files : Said (List ℕ)) (s : Named) where
  abbrev from_ids : List ℕ → Work (List ℕ)
  from_ids ids = name_roots nodes strict (length nodes) (new_ids nodes ids []) (new_ids nodes ids [])

  pub files_refused : (kind : ErrorKind) → files ≡ Err kind → name_files nodes strict files s ≡ Err kind
  files_refused kind e = ap (λ r. work_continued from_ids (work_said r s)) e

  pub files_opened : (ids : List ℕ) → files ≡ Ok ids → name_files nodes strict files s ≡ name_roots nodes strict (length nodes) (new_ids nodes ids []) (new_ids nodes ids []) s
  files_opened ids e = ap (λ r. work_continued from_ids (work_said r s)) e
