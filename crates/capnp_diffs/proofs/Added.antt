-- How changes are added one after another, and from one step further out.
use Rattle.std.proofs.Common.{◌≡◌, refl, List, [], ◌∷◌, ◌++◌, true, false, map, ap, ap₂, sym, ◌∙◌, subst}
use Rattle.capnp_schema.specs.Schema.{Schemas}
use Rattle.capnp_records.specs.Call.{PathStep}
use Rattle.capnp_records.specs.Record.{Value}
use Rattle.capnp_diffs.specs.Changes.{Change, all_behind, same_leaf, unless_same}
use Rattle.capnp_diffs.specs.Found.{AreReady, IsReady, change_seen, changes_seen, goal_seen}
use Rattle.capnp_diffs.specs.Steps.Adding.{Adds, all_within, one_change, within}
use Rattle.capnp_call.specs.Seen.{path_seen, step_seen}
use Rattle.capnp_call.specs.declared.calls.Op.{Op}
use Rattle.capnp_call.specs.declared.calls.Step.{Step}
use Rattle.capnp_diffs.specs.declared.change.Change.{Change as FoundChange}

append_none : {A : Type 0} (xs : List A) → (xs ++ []) ≡ xs
append_none [] = refl
append_none (x ∷ xs) = ap (λ ys. x ∷ ys) (append_none xs)

append_both : {A : Type 0} (xs ys zs : List A) → ((xs ++ ys) ++ zs) ≡ (xs ++ (ys ++ zs))
append_both [] ys zs = refl
append_both (x ∷ xs) ys zs = ap (λ us. x ∷ us) (append_both xs ys zs)

map_both : {A B : Type 0} (f : A → B) (xs ys : List A) → map f (xs ++ ys) ≡ (map f xs ++ map f ys)
map_both f [] ys = refl
map_both f (x ∷ xs) ys = ap (λ us. f x ∷ us) (map_both f xs ys)

ready_behind : (set : Schemas) (old : List FoundChange) (c : FoundChange) → IsReady set c.op → AreReady set old → AreReady set (old ++ c ∷ [])
ready_behind set [] c is are = (is, tt)
ready_behind set (d ∷ old) c is are = (are.0, ready_behind set old c is are.1)

-- one change comes behind the others
pub one_added : (set : Schemas) (path : List Step) (last : Step) (o : Op) (old new : List FoundChange) (c : FoundChange) → new ≡ (old ++ c ∷ []) → c.path.items ≡ path → c.last ≡ last → c.op ≡ o → IsReady set o → Adds set path old new (one_change last (goal_seen o))
one_added set path last o old new c is at_path at_last at_op ready = record {
  found = ap changes_seen is ∙ (map_both change_seen old (c ∷ []) ∙ ap (λ x. changes_seen old ++ x ∷ []) same);
  ready = λ are. subst (AreReady set) (sym is) (ready_behind set old c (subst (IsReady set) (sym at_op) ready) are);
}
  where
    same : change_seen c ≡ within (path_seen path) (record { path = []; last = step_seen last; goal = goal_seen o })
    same = ap₂ (λ (p : List PathStep) (r : Change). record { path = p; last = r.last; goal = r.goal }) (ap path_seen at_path ∙ sym (append_none (path_seen path)))
        (ap₂ (λ (l : Step) (q : Op). record { path = []; last = step_seen l; goal = goal_seen q }) at_last at_op)

pub adds_none : (set : Schemas) (path : List Step) (old : List FoundChange) → Adds set path old old []
adds_none set path old = record { found = sym (append_none (changes_seen old)); ready = λ are. are }

pub adds_both : (set : Schemas) (path : List Step) (old mid new : List FoundChange) (xs ys : List Change) → Adds set path old mid xs → Adds set path mid new ys → Adds set path old new (xs ++ ys)
adds_both set path old mid new xs ys first second = record {
  found =
      second.found
      ∙ (ap (λ zs. zs ++ all_within (path_seen path) ys) first.found
      ∙ (append_both (changes_seen old) (all_within (path_seen path) xs) (all_within (path_seen path) ys)
      ∙ ap (λ zs. changes_seen old ++ zs) (sym (map_both (within (path_seen path)) xs ys))));
  ready = λ are. second.ready (first.ready are);
}

within_behind : (path : List PathStep) (step : PathStep) (cs : List Change) → all_within (path ++ step ∷ []) cs ≡ all_within path (all_behind step cs)
within_behind path step [] = refl
within_behind path step (c ∷ cs) = ap₂ (λ (p : List PathStep) (ds : List Change). record { path = p; last = c.last; goal = c.goal } ∷ ds) (append_both path (step ∷ []) c.path) (within_behind path step cs)

-- what is added from one step further in is added behind that step
pub adds_behind : (set : Schemas) (path inner : List Step) (step : Step) (old new : List FoundChange) (cs : List Change) → inner ≡ (path ++ step ∷ []) → Adds set inner old new cs → Adds set path old new (all_behind (step_seen step) cs)
adds_behind set path inner step old new cs is adds = record {
  found =
      adds.found
      ∙ ap (λ ds. changes_seen old ++ ds)
      (ap (λ p. all_within p cs) (ap path_seen is ∙ map_both step_seen path (step ∷ []))
      ∙ within_behind (path_seen path) (step_seen step) cs);
  ready = adds.ready;
}

-- a leaf that is the same adds nothing, and one that differs is put whole
pub same_added : (set : Schemas) (path : List Step) (old : List FoundChange) (v w : Value) (c : Change) → same_leaf v w ≡ true → Adds set path old old (unless_same (same_leaf v w) c)
same_added set path old v w c e = subst (λ q. Adds set path old old (unless_same q c)) (sym e) (adds_none set path old)

pub other_added : (set : Schemas) (path : List Step) (old new : List FoundChange) (v w : Value) (c : Change) → same_leaf v w ≡ false → Adds set path old new (c ∷ []) → Adds set path old new (unless_same (same_leaf v w) c)
other_added set path old new v w c e adds = subst (λ q. Adds set path old new (unless_same q c)) (sym e) adds

-- along a path as a slice
pub adds_along : (set : Schemas) (slice path : List Step) (old new : List FoundChange) {cs : List Change} → slice ≡ path → Adds set slice old new cs → Adds set path old new cs
adds_along set slice path old new {cs = cs} is adds = subst (λ (xs : List Step). Adds set xs old new cs) is adds

-- ---- alone ----

within_nothing : (cs : List Change) → all_within [] cs ≡ cs
within_nothing [] = refl
within_nothing (c ∷ cs) = ap (λ ds. c ∷ ds) (within_nothing cs)

-- what is added at the root, where nothing was found before
pub record AddsAlone (set : Schemas) (new : List FoundChange) (cs : List Change) : Type 0 where
  pub found : changes_seen new ≡ cs
  pub ready : AreReady set new

pub added_alone : (set : Schemas) (path : List Step) (old new : List FoundChange) (cs : List Change) → path ≡ [] → old ≡ [] → Adds set path old new cs → AddsAlone set new cs
added_alone set path old new cs at_root nothing adds = record {
  found =
      adds.found
      ∙ (ap₂ (λ (xs : List FoundChange) (steps : List Step). changes_seen xs ++ all_within (path_seen steps) cs) nothing at_root
      ∙ within_nothing cs);
  ready = adds.ready (subst (AreReady set) (sym nothing) tt);
}
