-- The first of the parts that are refused is the one that a path leads to, whose steps are each the first that is refused.
use Rattle.std.proofs.Common.{ℕ, zero, suc, ◌+◌, ◌<◌, ◌≤◌, ◌≡◌, refl, List, [], ◌∷◌, ◌++◌, length, map, Bool, true, Some, None, ap, sym, arith, ◌∙◌}
use Rattle.capnp_device.specs.declared.error.ErrorKind.{ErrorKind}
use Rattle.capnp_schema.specs.Schema.{Schemas, VoidValue, default_of, field_at, fields_of}
use Rattle.capnp_records.specs.Default.{read_of}
use Rattle.capnp_records.specs.Part.{nth_value, part_at, value_count}
use Rattle.capnp_dynamic_readers.specs.Shown.{set_seen}
use Rattle.capnp_dynamic_readers.specs.declared.dynamic_value.Reader.{Reader as DynamicValue}
use Rattle.capnp_check.specs.Faults.{ShownPart, behind_step, first_part, if_shown, is_step_shown, most_steps, parts_behind, parts_from, parts_within, refused_parts, step_at}
use Rattle.capnp_check.specs.Places.{ElementParts, IsFirstStep, IsPathTo, NoParts, RecordParts, RefusedAs, TextParts, element_parts, field_parts, part_word, parts_after, place_words, root_parts}
use Rattle.capnp_check.specs.Steps.PlaceSteps.{parts_refusal, parts_seen, steps_below}
use Rattle.capnp_check.specs.declared.parts_below.OpenValue.{OpenValue}
use Rattle.capnp_check.specs.declared.place.PlaceStep.{PlaceStep}
use Rattle.capnp_check.specs.declared.place.PlaceStep.TheVariants.{Field, Element}
use Rattle.capnp_dynamic_readers.specs.Facts.ItemsInOrder.{by_order}
use Rattle.capnp_check.proofs.NoneRefused.{none_behind, none_refused, refused_append, refused_behind}
use Rattle.capnp_check.proofs.OpenValues.{part_refusal, value_refusal}
use Rattle.capnp_check.proofs.RootSteps.{root_few}

first_map : (f : ShownPart → ShownPart) (xs ys : List ShownPart) (x : ShownPart) → first_part xs ≡ Some x → first_part (map f xs ++ ys) ≡ Some (f x)
first_map f [] ys x e = cc
first_map f (z ∷ zs) ys x e = ap Some (ap f (same e))
  where
    same : Some z ≡ Some x → z ≡ x
    same e = cc

-- those before a step have none that is refused
module _ (set : Schemas) (within : TextParts → List ShownPart) (parts : TextParts) (i : ℕ) (x : ShownPart)
    (there : is_step_shown set parts i ≡ true) (found : first_part (refused_parts (within (parts_after set parts (step_at parts i)))) ≡ Some x)
    (none : (j : ℕ) → j < i → is_step_shown set parts j ≡ true → refused_parts (within (parts_after set parts (step_at parts j))) ≡ []) where
  abbrev own : ℕ → List ShownPart
  own k = if_shown (is_step_shown set parts k) (parts_behind set within parts (step_at parts k))

  first_from : (k count : ℕ) → k ≤ i → i < k + count → first_part (refused_parts (parts_from set within parts k count)) ≡ Some (behind_step (step_at parts i) (part_word set parts (step_at parts i)) x)
  unfolding parts_from
  first_from k zero le lt = absurd (omega (arith, le, lt))
  first_from k (suc more) le lt =
      ap first_part (refused_append (own k) (parts_from set within parts (suc k) more))
      ∙ by_order k i
      (λ less.
      ap (λ (xs : List ShownPart). first_part (xs ++ refused_parts (parts_from set within parts (suc k) more))) (none_behind set within parts k (none k less))
      ∙ first_from (suc k) more (omega (arith, less)) (omega (arith, lt)))
      (λ same. here k same)
      (λ more_than. absurd (omega (arith, more_than, le)))
    where
      rest : List ShownPart
      rest = refused_parts (parts_from set within parts (suc k) more)

      here : (k : ℕ) → k ≡ i → first_part (refused_parts (own k) ++ rest) ≡ Some (behind_step (step_at parts i) (part_word set parts (step_at parts i)) x)
      here k same =
          ap (λ (m : ℕ). first_part (refused_parts (own m) ++ rest)) same
          ∙ (ap (λ (q : Bool). first_part (refused_parts (if_shown q (parts_behind set within parts (step_at parts i))) ++ rest)) there
          ∙ (ap (λ (xs : List ShownPart). first_part (xs ++ rest)) (refused_behind (step_at parts i) (part_word set parts (step_at parts i)) (within (parts_after set parts (step_at parts i))))
          ∙ first_map (behind_step (step_at parts i) (part_word set parts (step_at parts i))) (refused_parts (within (parts_after set parts (step_at parts i)))) rest x found))

pub path_first : (set : Schemas) (path : List PlaceStep) (n : ℕ) (from : TextParts) (kind : ErrorKind) → IsPathTo set path from (RefusedAs kind) → length path ≤ n →
    first_part (refused_parts (parts_within set n from)) ≡ Some (record { path = path; words = place_words set from path; refusal = Some kind })
unfolding IsPathTo place_words parts_within
path_first set [] n from kind is le = ap (λ (z : TextParts). first_part (refused_parts (parts_within set n z))) is ∙ go n
  where
    go : (n : ℕ) → first_part (refused_parts (parts_within set n (RefusedAs kind))) ≡ Some (record { path = []; words = []; refusal = Some kind })
    go zero = refl
    go (suc n) = refl
path_first set (step ∷ path) zero from kind is le = absurd (omega (arith, le))
path_first set (Field i ∷ path) (suc n) (RecordParts left b r) kind is le =
    first_from set (parts_within set n) (RecordParts left b r) i (record { path = path; words = place_words set (field_parts set left b r i) path; refusal = Some kind })
    is.0.shown (path_first set path n (field_parts set left b r i) kind is.1 (omega (arith, le)))
    (λ j lt there.
    none_refused set n (field_parts set left b r j)
    (sym (part_refusal set left (default_of (field_at set b j).field) (field_at set b j).type (part_at r (field_at set b j).field j)) ∙ is.0.before j lt there))
    0 (length (fields_of set b)) (omega arith) (let lt = is.0.inside in omega (arith, lt))
path_first set (Element i ∷ path) (suc n) (ElementParts left t vs) kind is le =
    first_from set (parts_within set n) (ElementParts left t vs) i (record { path = path; words = place_words set (element_parts set left t vs i) path; refusal = Some kind })
    refl (path_first set path n (element_parts set left t vs i) kind is.1 (omega (arith, le)))
    (λ j lt there.
    none_refused set n (element_parts set left t vs j)
    (sym (value_refusal set left t (read_of set VoidValue t (nth_value vs j))) ∙ is.0.before j lt))
    0 (value_count vs) (omega arith) (let lt = is.0.inside in omega (arith, lt))
path_first set (Element i ∷ path) (suc n) (RecordParts left b r) kind is le = absurd is.0
path_first set (Field i ∷ path) (suc n) (ElementParts left t vs) kind is le = absurd is.0
path_first set (step ∷ path) (suc n) NoParts kind is le = absurd (no_step set step is.0)
  where
    no_step : (set : Schemas) (step : PlaceStep) → IsFirstStep set NoParts step → ⊥
    no_step set (Field i) h = h
    no_step set (Element i) h = h
path_first set (step ∷ path) (suc n) (RefusedAs own) kind is le = absurd (no_step set step is.0)
  where
    no_step : (set : Schemas) (step : PlaceStep) → IsFirstStep set (RefusedAs own) step → ⊥
    no_step set (Field i) h = h
    no_step set (Element i) h = h

-- ---- a search ----

pub none_first : (v : DynamicValue) → parts_refusal (set_seen v) (root_parts v) ≡ None → (n : ℕ) → most_steps (set_seen v) ≤ n → None ≡ first_part (refused_parts (parts_within (set_seen v) n (root_parts v)))
none_first v none = λ n le. sym (ap first_part (none_refused (set_seen v) n (root_parts v) none))

pub found_first : (v : DynamicValue) (path : List PlaceStep) (words : List ℕ) (kind : ErrorKind) → IsPathTo (set_seen v) path (root_parts v) (RefusedAs kind) → words ≡ place_words (set_seen v) (root_parts v) path →
    length path ≤ most_steps (set_seen v) → (n : ℕ) → most_steps (set_seen v) ≤ n → Some (record { path = path; words = words; refusal = Some kind }) ≡ first_part (refused_parts (parts_within (set_seen v) n (root_parts v)))
found_first v path words kind is told short = λ n le.
    ap (λ (ws : List ℕ). Some (record { path = path; words = ws; refusal = Some kind })) told
    ∙ sym (path_first (set_seen v) path n (root_parts v) kind is (omega (arith, short, le)))

pub path_short : (steps more most : ℕ) → steps + more ≤ most → steps ≤ most
path_short steps more most le = omega (arith, le)

pub short_start : (v : DynamicValue) (path : List PlaceStep) (o : OpenValue) → path ≡ [] → parts_seen o ≡ root_parts v → length path + steps_below (set_seen v) o ≤ most_steps (set_seen v)
short_start v path o none e = (let few = root_few v o e in let empty = ap length none in omega (arith, few, empty))

pub short_on : (set : Schemas) (path new : List PlaceStep) (step : PlaceStep) (current next : OpenValue) → new ≡ path ++ step ∷ [] → steps_below set next < steps_below set current → length path + steps_below set current ≤ most_steps set → length new + steps_below set next ≤ most_steps set
short_on set path new step current next e less short = (let longer = ap length e ∙ length_more path in omega (arith, longer, less, short))
  where
    length_more : (xs : List PlaceStep) → length (xs ++ step ∷ []) ≡ length xs + 1
    length_more [] = refl
    length_more (x ∷ xs) = (let e = length_more xs in omega (arith, e))
