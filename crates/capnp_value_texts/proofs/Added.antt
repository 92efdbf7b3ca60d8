-- How calls are added one after another, and from one step further out.
use Rattle.std.proofs.Common.{◌≡◌, refl, List, [], ◌∷◌, ◌++◌, map, ap, ap₂, sym, ◌∙◌, subst}
use Rattle.capnp_records.specs.Call.{Call, PathStep}
use Rattle.capnp_call.specs.Seen.{path_seen, step_seen}
use Rattle.capnp_call.specs.declared.calls.Step.{Step}
use Rattle.capnp_value_texts.specs.Calls.{all_behind}
use Rattle.capnp_value_texts.specs.Made.{calls_made, goal_op, made_call}
use Rattle.capnp_value_texts.specs.Steps.Adding.{Adds, all_within, one_made, within}
use Rattle.capnp_value_texts.specs.declared.made.Goal.{Goal}
use Rattle.capnp_value_texts.specs.declared.made.Made.{Made}

pub append_none : {A : Type 0} (xs : List A) → (xs ++ []) ≡ xs
append_none [] = refl
append_none (x ∷ xs) = ap (λ ys. x ∷ ys) (append_none xs)

pub append_both : {A : Type 0} (xs ys zs : List A) → ((xs ++ ys) ++ zs) ≡ (xs ++ (ys ++ zs))
append_both [] ys zs = refl
append_both (x ∷ xs) ys zs = ap (λ us. x ∷ us) (append_both xs ys zs)

map_both : {A B : Type 0} (f : A → B) (xs ys : List A) → map f (xs ++ ys) ≡ (map f xs ++ map f ys)
map_both f [] ys = refl
map_both f (x ∷ xs) ys = ap (λ us. f x ∷ us) (map_both f xs ys)

-- one call comes behind the others
pub one_added : (path : List Step) (last : Step) (g : Goal) (old new : List Made) (m : Made) → new ≡ (old ++ m ∷ []) → m.path.items ≡ path → m.last ≡ last → m.goal ≡ g → Adds path old new (one_made last g)
one_added path last g old new m is at_path at_last at_goal =
    ap calls_made is ∙ (map_both made_call old (m ∷ []) ∙ ap (λ x. calls_made old ++ x ∷ []) same)
  where
    same : made_call m ≡ within (path_seen path) (record { path = []; last = step_seen last; op = goal_op g })
    same = ap₂ (λ (p : List PathStep) (r : Call). record { path = p; last = r.last; op = r.op }) (ap path_seen at_path ∙ sym (append_none (path_seen path)))
        (ap₂ (λ (l : Step) (q : Goal). record { path = []; last = step_seen l; op = goal_op q }) at_last at_goal)

pub adds_none : (path : List Step) (old : List Made) → Adds path old old []
adds_none path old = sym (append_none (calls_made old))

pub adds_both : (path : List Step) (old mid new : List Made) (xs ys : List Call) → Adds path old mid xs → Adds path mid new ys → Adds path old new (xs ++ ys)
adds_both path old mid new xs ys first second =
    second
    ∙ (ap (λ zs. zs ++ all_within (path_seen path) ys) first
    ∙ (append_both (calls_made old) (all_within (path_seen path) xs) (all_within (path_seen path) ys)
    ∙ ap (λ zs. calls_made old ++ zs) (sym (map_both (within (path_seen path)) xs ys))))

within_behind : (path : List PathStep) (step : PathStep) (cs : List Call) → all_within (path ++ step ∷ []) cs ≡ all_within path (all_behind step cs)
within_behind path step [] = refl
within_behind path step (c ∷ cs) = ap₂ (λ (p : List PathStep) (ds : List Call). record { path = p; last = c.last; op = c.op } ∷ ds) (append_both path (step ∷ []) c.path) (within_behind path step cs)

-- what is added from one step further in is added behind that step
pub adds_behind : (path inner : List Step) (step : Step) (old new : List Made) (cs : List Call) → inner ≡ (path ++ step ∷ []) → Adds inner old new cs → Adds path old new (all_behind (step_seen step) cs)
adds_behind path inner step old new cs is adds =
    adds
    ∙ ap (λ ds. calls_made old ++ ds)
    (ap (λ p. all_within p cs) (ap path_seen is ∙ map_both step_seen path (step ∷ []))
    ∙ within_behind (path_seen path) (step_seen step) cs)

-- along a path as a slice
pub adds_along : (slice path : List Step) (old new : List Made) (cs : List Call) → slice ≡ path → Adds slice old new cs → Adds path old new cs
adds_along slice path old new cs is adds = subst (λ (xs : List Step). Adds xs old new cs) is adds

within_nothing : (cs : List Call) → all_within [] cs ≡ cs
within_nothing [] = refl
within_nothing (c ∷ cs) = ap (λ ds. c ∷ ds) (within_nothing cs)

-- what is added at the root, where nothing was made before
pub added_alone : (path : List Step) (old new : List Made) (cs : List Call) → path ≡ [] → old ≡ [] → Adds path old new cs → calls_made new ≡ cs
added_alone path old new cs at_root nothing adds =
    adds
    ∙ (ap₂ (λ (xs : List Made) (steps : List Step). calls_made xs ++ all_within (path_seen steps) cs) nothing at_root
    ∙ within_nothing cs)
