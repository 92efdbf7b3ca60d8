-- What is found where structs or lists stand behind two pointers, or nothing does.
use Rattle.std.proofs.Common.{ℕ, suc, ◌-◌, ◌≡◌, refl, [], ◌∷◌, ◌++◌, List, length, take, Bool, true, false, ◌==◌, Some, None, arith, ap, ap₂, sym, subst, ◌∙◌}
use Rattle.capnp_wire.specs.Reading.{list_length}
use Rattle.capnp_wire.specs.Standing.{list_of, struct_of}
use Rattle.capnp_wire.specs.declared.list_reader.ListReader.{ListReader}
use Rattle.capnp_wire.specs.declared.struct_reader.StructReader.{StructReader}
use Rattle.capnp_schema.specs.Schema.{Schemas}
use Rattle.capnp_schema.specs.StructHandles.{set_of}
use Rattle.capnp_schema.specs.Types.{ListType, SchemaType, StructType}
use Rattle.capnp_schema.specs.declared.schema.structs.StructSchema.{StructSchema}
use Rattle.capnp_records.specs.Facts.ListValues.{below_of, count_values_from}
use Rattle.capnp_records.specs.Part.{value_count}
use Rattle.capnp_records.specs.Reading.{element_value, reads}
use Rattle.capnp_records.specs.Record as value
use Rattle.capnp_records.specs.Record.{Endless, Value, Values}
use Rattle.capnp_dynamic_readers.specs.Typed.{struct_type}
use Rattle.capnp_call.specs.Seen.{path_seen, step_seen}
use Rattle.capnp_call.specs.declared.calls.Step.{Step}
use Rattle.capnp_diffs.specs.Changes.{Change, Clears, IsRowTold, OnlyIf, list_changes, row_changes, whole_change}
use Rattle.capnp_diffs.specs.Found.{changes_seen}
use Rattle.capnp_diffs.specs.Steps.Adding.{Adds, IsFoundAt, IsRecordFound, IsRowFound, all_within, elements_in, one_change, whole_record}
use Rattle.capnp_diffs.specs.Steps.Leaves.{list_value, struct_value}
use Rattle.capnp_diffs.specs.declared.change.Change.{Change as FoundChange}
use Rattle.capnp_diffs.proofs.Added.{adds_behind, adds_none}

-- what is added at a path is added at the same one
pub at_path : (set : Schemas) (p q : List Step) (old new : List FoundChange) (cs : List Change) → p ≡ q → Adds set p old new cs → Adds set q old new cs
at_path set p q old new cs is adds = subst (λ r. Adds set r old new cs) is adds

pub found_path : (set : Schemas) (step : Step) (t : SchemaType) (v w : Value) (p q : List Step) (old new : List FoundChange) → p ≡ q → IsFoundAt set step t v w p old new → IsFoundAt set step t v w q old new
found_path set step t v w p q old new is found = subst (λ r. IsFoundAt set step t v w r old new) is found

pub no_items : {A : Type 0} (xs : List A) → length xs ≡ 0 → xs ≡ []
no_items [] h = refl
no_items (x ∷ xs) h = absurd (omega (arith, h))

-- a path without the step that was added last
pub path_left : {A : Type 0} (xs ys zs : List A) (x : A) (n : ℕ) → n ≡ length ys → ys ≡ (xs ++ x ∷ []) → zs ≡ take (n - 1) ys → zs ≡ xs
path_left {A = A} xs ys zs x n counted e is = is ∙ (ap (λ m. take (m - 1) ys) counted ∙ (ap (λ us. take (length us - 1) us) e ∙ without_last xs))
  where
    count : (us : List A) (u : A) → length (us ++ u ∷ []) ≡ suc (length us)
    count [] u = refl
    count (v ∷ us) u = ap suc (count us u)

    take_all : (us : List A) (u : A) → take (length us) (us ++ u ∷ []) ≡ us
    take_all [] u = refl
    take_all (v ∷ us) u = ap (λ ws. v ∷ ws) (take_all us u)

    without_last : (us : List A) → take (length (us ++ x ∷ []) - 1) (us ++ x ∷ []) ≡ us
    without_last us =
        let fewer : length (us ++ x ∷ []) - 1 ≡ length us = omega (arith, count us x) in
        ap (λ n. take n (us ++ x ∷ [])) fewer ∙ take_all us x

module _ (set : Schemas) (step : Step) (path : List Step) (old new : List FoundChange) where
  -- the same of other values
  pub found_as : (t : SchemaType) (v w v' w' : Value) → v ≡ v' → w ≡ w' → IsFoundAt set step t v' w' path old new → IsFoundAt set step t v w path old new
  found_as t v w v' w' e f found = subst (λ x. IsFoundAt set step t x w path old new) (sym e) (subst (λ y. IsFoundAt set step t v' y path old new) (sym f) found)

  -- ---- structs ----

  module _ (b g : ℕ) (v w : Value) where
    pub struct_cleared : (r : StructReader) → v ≡ struct_value set b (Some r) → w ≡ struct_value set b None → Adds set path old new (one_change step Clears) → IsFoundAt set step (StructType b g) v w path old new
    struct_cleared r e f adds = found_as (StructType b g) v w _ _ e f (record { adds = adds; told = (tt, refl, tt) })

    pub struct_new : (q : StructReader) → v ≡ struct_value set b None → w ≡ struct_value set b (Some q) →
        Adds set path old new (whole_change (step_seen step) (StructType b g) (value.Struct (reads set (struct_of q) b)) ∷ []) → IsFoundAt set step (StructType b g) v w path old new
    struct_new q e f adds = found_as (StructType b g) v w _ _ e f (record { adds = adds; told = (tt, tt, tt) })

    pub struct_inside : (r q : StructReader) (inner : List Step) → inner ≡ (path ++ step ∷ []) → v ≡ struct_value set b (Some r) → w ≡ struct_value set b (Some q) →
        IsRecordFound set b (whole_record set r b) (whole_record set q b) inner old new → IsFoundAt set step (StructType b g) v w path old new
    unfolding whole_record
    struct_inside r q inner is e f found = found_as (StructType b g) v w _ _ e f (record { adds = adds_behind set path inner step old new _ is found.adds; told = found.told })

  -- ---- lists ----

  module _ (e : SchemaType) (v w : Value) where
    pub list_cleared : (l : ListReader) → v ≡ list_value set e (Some l) → w ≡ list_value set e None → Adds set path old new (one_change step Clears) → IsFoundAt set step (ListType e) v w path old new
    list_cleared l p q adds = found_as (ListType e) v w _ _ p q (record { adds = adds; told = (tt, refl, tt) })

    pub list_new : (m : ListReader) → v ≡ list_value set e None → w ≡ list_value set e (Some m) →
        Adds set path old new (whole_change (step_seen step) (ListType e) (list_value set e (Some m)) ∷ []) → IsFoundAt set step (ListType e) v w path old new
    list_new m p q adds = found_as (ListType e) v w _ _ p q (record { adds = adds; told = (tt, tt, tt) })

    pub list_there : (l m : ListReader) → v ≡ list_value set e (Some l) → w ≡ list_value set e (Some m) → IsFoundAt set step (ListType e) (list_value set e (Some l)) (list_value set e (Some m)) path old new → IsFoundAt set step (ListType e) v w path old new
    list_there l m p q found = found_as (ListType e) v w _ _ p q found

-- nothing stands there
module _ (set : Schemas) (step : Step) (path : List Step) (old : List FoundChange) where
  pub struct_none : (b g : ℕ) (v w : Value) → v ≡ struct_value set b None → w ≡ struct_value set b None → IsFoundAt set step (StructType b g) v w path old old
  struct_none b g v w e f = found_as set step path old old (StructType b g) v w _ _ e f (record { adds = adds_none set path old; told = (tt, tt, tt) })

  pub list_none : (e : SchemaType) (v w : Value) → v ≡ list_value set e None → w ≡ list_value set e None → IsFoundAt set step (ListType e) v w path old old
  list_none e v w p q = found_as set step path old old (ListType e) v w _ _ p q (record { adds = adds_none set path old; told = (tt, tt, tt) })

-- ---- two lists of a type ----

test_false : (m n : ℕ) → (m ≡ n → ⊥) → (m == n) ≡ false
test_false m n differ = grind (arith, differ)

other_length : (step : Step) (e : SchemaType) (ws : Values) (cs : List Change) → list_changes (step_seen step) e ws false cs ≡ whole_change (step_seen step) (ListType e) (value.Elements ws) ∷ []
other_length step (StructType b g) ws cs = refl
other_length step e ws [] = refl
other_length step e ws (c ∷ cs) = refl

unchanged : (step : Step) (e : SchemaType) (ws : Values) → list_changes (step_seen step) e ws true [] ≡ []
unchanged step (StructType b g) ws = refl
unchanged step e ws = refl

put_whole : (step : Step) (e : SchemaType) (ws : Values) (cs : List Change) → ((b g : ℕ) → e ≡ StructType b g → ⊥) → (cs ≡ [] → ⊥) → list_changes (step_seen step) e ws true cs ≡ whole_change (step_seen step) (ListType e) (value.Elements ws) ∷ []
put_whole step e ws [] plain some = absurd (some refl)
put_whole step (StructType b g) ws (c ∷ cs) plain some = absurd (plain b g refl)
put_whole step e ws (c ∷ cs) plain some = refl

module _ (set : Schemas) (step : Step) (path : List Step) (old new : List FoundChange) (e : SchemaType) (l m : ListReader) where
  abbrev rows : List Change
  rows = row_changes set e 0 (elements_in set l e) (elements_in set m e)

  abbrev are_told : Type 0
  are_told = IsRowTold set e (elements_in set l e) (elements_in set m e)

  -- what is found where the lengths are the same or not
  by_length : (q : Bool) → (list_length (list_of l) == list_length (list_of m)) ≡ q → Adds set path old new (list_changes (step_seen step) e (elements_in set m e) q rows) → OnlyIf q are_told →
      IsFoundAt set step (ListType e) (list_value set e (Some l)) (list_value set e (Some m)) path old new
  unfolding elements_in
  by_length q e' adds told = record {
    adds = subst (λ (x : Bool). Adds set path old new (list_changes (step_seen step) e (elements_in set m e) x rows)) (sym counts) adds;
    told = subst (λ (x : Bool). OnlyIf x are_told) (sym counts) told;
  }
    where
      counted : (x : ListReader) → value_count (elements_in set x e) ≡ list_length (list_of x)
      counted x = count_values_from (element_value set (list_of x) (below_of set (list_of x)) Endless e) 0 (list_length (list_of x))

      counts : (value_count (elements_in set l e) == value_count (elements_in set m e)) ≡ q
      counts = ap₂ (λ (i j : ℕ). i == j) (counted l) (counted m) ∙ e'

  abbrev pub put_changes : List Change
  put_changes = whole_change (step_seen step) (ListType e) (list_value set e (Some m)) ∷ []

  pub lists_of_lengths : (list_length (list_of l) ≡ list_length (list_of m) → ⊥) → Adds set path old new put_changes → IsFoundAt set step (ListType e) (list_value set e (Some l)) (list_value set e (Some m)) path old new
  unfolding elements_in
  lists_of_lengths differ adds =
      by_length false (test_false (list_length (list_of l)) (list_length (list_of m)) differ)
      (subst (Adds set path old new) (sym (other_length step e (elements_in set m e) rows)) adds) tt

  module _ (same : list_length (list_of l) ≡ list_length (list_of m)) where
    same_test : (list_length (list_of l) == list_length (list_of m)) ≡ true
    same_test = grind (arith, same)

    -- structs, of which each is gone into
    pub structs_inside : (b g : ℕ) → StructType b g ≡ e → (inner : List Step) → inner ≡ (path ++ step ∷ []) → IsRowFound set e 0 (elements_in set l e) (elements_in set m e) inner old new →
        IsFoundAt set step (ListType e) (list_value set e (Some l)) (list_value set e (Some m)) path old new
    structs_inside b g is inner at found =
        by_length true same_test (subst (λ (t : SchemaType). Adds set path old new (list_changes (step_seen step) t (elements_in set m e) true rows)) is (adds_behind set path inner step old new rows at found.adds)) found.told

    pub others_put : ((b g : ℕ) → e ≡ StructType b g → ⊥) → (rows ≡ [] → ⊥) → are_told → Adds set path old new put_changes →
        IsFoundAt set step (ListType e) (list_value set e (Some l)) (list_value set e (Some m)) path old new
    unfolding elements_in
    others_put plain some told adds =
        by_length true same_test (subst (Adds set path old new) (sym (put_whole step e (elements_in set m e) rows plain some)) adds) told

module _ (set : Schemas) (step : Step) (path : List Step) (old : List FoundChange) (e : SchemaType) (l m : ListReader) where
  pub others_same : list_length (list_of l) ≡ list_length (list_of m) → row_changes set e 0 (elements_in set l e) (elements_in set m e) ≡ [] → IsRowTold set e (elements_in set l e) (elements_in set m e) →
      IsFoundAt set step (ListType e) (list_value set e (Some l)) (list_value set e (Some m)) path old old
  others_same same none told =
      by_length set step path old old e l m true (same_test set step path old old e l m same)
      (subst (Adds set path old old) (sym (ap (list_changes (step_seen step) e (elements_in set m e) true) none ∙ unchanged step e (elements_in set m e))) (adds_none set path old)) told

-- the elements of a list of structs, by their schema
pub rows_of_schema : (set : Schemas) (schema : StructSchema) (e : SchemaType) (l m : ListReader) (inner : List Step) (old new : List FoundChange) → set_of schema ≡ set → struct_type schema ≡ e →
    IsRowFound (set_of schema) (struct_type schema) 0 (elements_in (set_of schema) l (struct_type schema)) (elements_in (set_of schema) m (struct_type schema)) inner old new → IsRowFound set e 0 (elements_in set l e) (elements_in set m e) inner old new
rows_of_schema set schema e l m inner old new at_set is found =
    subst (λ t. IsRowFound set t 0 (elements_in set l t) (elements_in set m t) inner old new) is
    (subst (λ s. IsRowFound s (struct_type schema) 0 (elements_in s l (struct_type schema)) (elements_in s m (struct_type schema)) inner old new) at_set found)

-- ---- the changes of elements that were found alone ----

within_none : (path : List Step) (cs : List Change) → all_within (path_seen path) cs ≡ [] → cs ≡ []
within_none path [] e = refl
within_none path (c ∷ cs) e = absurd (some_none e)
  where
    some_none : {A : Type 0} {x : A} {xs : List A} → (x ∷ xs) ≡ [] → ⊥
    some_none e = cc

seen_none : (cs : List FoundChange) → changes_seen cs ≡ [] → cs ≡ []
seen_none [] e = refl
seen_none (c ∷ cs) e = absurd (some_none e)
  where
    some_none : {A : Type 0} {x : A} {xs : List A} → (x ∷ xs) ≡ [] → ⊥
    some_none e = cc

module _ (set : Schemas) (path : List Step) (found old : List FoundChange) (cs : List Change) (begins : old ≡ []) (adds : Adds set path old found cs) where
  alone : changes_seen found ≡ all_within (path_seen path) cs
  alone = adds.found ∙ ap (λ (xs : List FoundChange). changes_seen xs ++ all_within (path_seen path) cs) begins

  pub none_found : found ≡ [] → cs ≡ []
  none_found none = within_none path cs (sym alone ∙ ap changes_seen none)

  pub some_found : (found ≡ [] → ⊥) → cs ≡ [] → ⊥
  some_found some none = some (seen_none found (alone ∙ ap (all_within (path_seen path)) none))
