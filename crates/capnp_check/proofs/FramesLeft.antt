-- What is to come behind the values that lead to where a visit stands.
use Rattle.std.proofs.Common.{ℕ, ◌+◌, ◌-◌, ◌<◌, ◌≤◌, ◌≡◌, refl, List, [], ◌∷◌, ◌++◌, length, map, Option, Some, None, ap, sym, subst, arith, append_assoc, ◌∙◌}
use Rattle.capnp_device.specs.declared.error.ErrorKind.{ErrorKind}
use Rattle.capnp_schema.specs.Schema.{Schemas}
use Rattle.capnp_dynamic_readers.specs.Shown.{set_seen}
use Rattle.capnp_dynamic_readers.specs.declared.dynamic_value.Reader.{Reader as DynamicValue}
use Rattle.capnp_check.specs.Faults.{ShownPart, behind_step, itself, parts_within, refusal_itself, refused_parts, shown_within, with_refused}
use Rattle.capnp_check.specs.Places.{part_word, root_parts}
use Rattle.capnp_check.specs.Steps.Frames.{AreNoneLeft, AreOpenIn, IsEnough, IsNextPart, IsVisit, behind_frame, next_index, part_above, parts_left, parts_rest, rest_of, step_index}
use Rattle.capnp_check.specs.Steps.PlaceSteps.{IsOpenIn, parts_seen, steps_below}
use Rattle.capnp_check.specs.declared.parts_below.OpenValue.{OpenValue}
use Rattle.capnp_check.specs.declared.place.PlaceStep.{PlaceStep}
use Rattle.capnp_check.specs.declared.visits.Frame.{Frame}
use Rattle.capnp_check.proofs.PartsVisited.{whole_within}

-- a value none of whose parts was visited, and one after a step
abbrev pub at_start : OpenValue → Frame
at_start value = record { value = value; last = None }

abbrev pub past_step : Frame → PlaceStep → Frame
past_step f step = record { value = f.value; last = Some step }

-- ---- the innermost ----

left_popped : (set : Schemas) (n : ℕ) (fs : List Frame) (f : Frame) → AreNoneLeft set f.value (next_index f.last) → parts_left set n (fs ++ f ∷ []) ≡ parts_left set n fs
unfolding parts_left
left_popped set n [] f none = none (n - 1)
left_popped set n (g ∷ gs) f none = ap (λ (xs : List ShownPart). map (behind_frame set g) xs ++ rest_of set (n - 1) g) (left_popped set (n - 1) gs f none)

enough_popped : (set : Schemas) (n : ℕ) (fs : List Frame) (f : Frame) → IsEnough set n (fs ++ f ∷ []) → IsEnough set n fs
unfolding IsEnough
enough_popped set n [] f h = tt {0}
enough_popped set n (g ∷ gs) f h = (h.0, enough_popped set (n - 1) gs f h.1)

less_left : (below own n : ℕ) → below < own → own ≤ n → below ≤ n - 1
less_left below own n lt le = omega (arith, lt, le)

left_entered : (set : Schemas) (n : ℕ) (fs : List Frame) (f : Frame) (step : PlaceStep) (part : OpenValue) → IsEnough set n (fs ++ f ∷ []) → IsNextPart set f.value (next_index f.last) step part →
    parts_left set n (fs ++ f ∷ [])
    ≡ part_above set (fs ++ past_step f step ∷ []) (refusal_itself (parts_seen part)) ∷ parts_left set n (fs ++ past_step f step ∷ at_start part ∷ [])
unfolding IsEnough part_above parts_left
left_entered set n [] f step part h next =
    next.rest (n - 1)
    ∙ ap (λ (xs : List ShownPart). map (behind_step step (part_word set (parts_seen f.value) step)) xs ++ parts_rest set (n - 1) (parts_seen f.value) (step_index step + 1))
    (whole_within set (n - 1) part (less_left (steps_below set part) (steps_below set f.value) n next.less h.0))
left_entered set n (g ∷ gs) f step part h next = ap (λ (xs : List ShownPart). map (behind_frame set g) xs ++ rest_of set (n - 1) g) (left_entered set (n - 1) gs f step part h.1 next)

enough_entered : (set : Schemas) (n : ℕ) (fs : List Frame) (f : Frame) (step : PlaceStep) (part : OpenValue) → IsEnough set n (fs ++ f ∷ []) → IsNextPart set f.value (next_index f.last) step part →
    IsEnough set n (fs ++ past_step f step ∷ at_start part ∷ [])
unfolding IsEnough
enough_entered set n [] f step part h next = (h.0, (less_left (steps_below set part) (steps_below set f.value) n next.less h.0, tt {0}))
enough_entered set n (g ∷ gs) f step part h next = (h.0, enough_entered set (n - 1) gs f step part h.1 next)

-- ---- of one set ----

pub open_parts : (set : Schemas) (fs : List Frame) (f : Frame) → AreOpenIn set (fs ++ f ∷ []) → AreOpenIn set fs × IsOpenIn set f.value
unfolding AreOpenIn
open_parts set [] f h = (tt {0}, h.0)
open_parts set (g ∷ gs) f h = (let rest = open_parts set gs f h.1 in ((h.0, rest.0), rest.1))

pub open_more : (set : Schemas) (fs : List Frame) (f : Frame) → AreOpenIn set fs → IsOpenIn set f.value → AreOpenIn set (fs ++ f ∷ [])
unfolding AreOpenIn
open_more set [] f h own = (own, tt {0})
open_more set (g ∷ gs) f h own = (h.0, open_more set gs f h.1 own)

pub open_none : (set : Schemas) (fs : List Frame) → fs ≡ [] → AreOpenIn set fs
unfolding AreOpenIn
open_none set fs e = subst (AreOpenIn set) (sym e) (tt {0})

-- ---- a visit ----

one_refused : (o : Option ErrorKind) (x : ShownPart) (xs : List ShownPart) → with_refused o x [] ++ xs ≡ with_refused o x xs
one_refused None x xs = refl
one_refused (Some kind) x xs = refl

pub visit_popped : (set : Schemas) (n visited : ℕ) (all found : List ShownPart) (fs : List Frame) (f : Frame) → AreNoneLeft set f.value (next_index f.last) → IsVisit set n all visited found (fs ++ f ∷ []) → IsVisit set n all visited found fs
visit_popped set n visited all found fs f none visit = record {
  refused = ap (λ (xs : List ShownPart). found ++ refused_parts xs) (sym (left_popped set n fs f none)) ∙ visit.refused;
  count = ap (λ (xs : List ShownPart). visited + length xs) (sym (left_popped set n fs f none)) ∙ visit.count;
  enough = enough_popped set n fs f visit.enough;
}

pub visit_on : (set : Schemas) (n visited : ℕ) (all found : List ShownPart) (fs : List Frame) (f : Frame) (step : PlaceStep) (part : OpenValue) → IsNextPart set f.value (next_index f.last) step part → IsVisit set n all visited found (fs ++ f ∷ []) →
    IsVisit set n all (visited + 1) (found ++ refused_parts (part_above set (fs ++ past_step f step ∷ []) (refusal_itself (parts_seen part)) ∷ [])) (fs ++ past_step f step ∷ at_start part ∷ [])
visit_on set n visited all found fs f step part next visit = record {
  refused =
      append_assoc found (refused_parts (x ∷ [])) (refused_parts xs)
      ∙ (ap (λ (ys : List ShownPart). found ++ ys) (one_refused x.refusal x (refused_parts xs))
      ∙ (ap (λ (ys : List ShownPart). found ++ refused_parts ys) (sym entered) ∙ visit.refused));
  count = (let now = visit.count in let more = ap length entered in omega (arith, now, more));
  enough = enough_entered set n fs f step part visit.enough next;
}
  where
    x : ShownPart
    x = part_above set (fs ++ past_step f step ∷ []) (refusal_itself (parts_seen part))

    xs : List ShownPart
    xs = parts_left set n (fs ++ past_step f step ∷ at_start part ∷ [])

    entered : parts_left set n (fs ++ f ∷ [])
        ≡ part_above set (fs ++ past_step f step ∷ []) (refusal_itself (parts_seen part)) ∷ parts_left set n (fs ++ past_step f step ∷ at_start part ∷ [])
    entered = left_entered set n fs f step part visit.enough next

-- one part at least is to come
pub visit_more : (set : Schemas) (n visited : ℕ) (all found : List ShownPart) (fs : List Frame) (f : Frame) (step : PlaceStep) (part : OpenValue) → IsNextPart set f.value (next_index f.last) step part → IsVisit set n all visited found (fs ++ f ∷ []) →
    visited < length all
visit_more set n visited all found fs f step part next visit =
    let now = visit.count in
    let more = ap length (left_entered set n fs f step part visit.enough next) in
    omega (arith, now, more)

one_more : (x : ShownPart) (xs all : List ShownPart) → all ≡ x ∷ xs → 1 + length xs ≡ length all
one_more x xs all e = (let counted = ap length e in omega (arith, counted))

none_length : (xs : List ShownPart) → xs ≡ [] → length xs ≡ 0
none_length xs e = ap length e

pub visit_start : (v : DynamicValue) (n : ℕ) (o : OpenValue) → parts_seen o ≡ root_parts v → steps_below (set_seen v) o ≤ n →
    IsVisit (set_seen v) n (shown_within n v) 1 (refused_parts (part_above (set_seen v) [] (refusal_itself (parts_seen o)) ∷ [])) (at_start o ∷ [])
unfolding IsEnough part_above parts_left
visit_start v n o e le = record {
  refused = one_refused (refusal_itself (parts_seen o)) (itself (parts_seen o)) (refused_parts (parts_rest (set_seen v) (n - 1) (parts_seen o) 0)) ∙ ap refused_parts (sym whole);
  count = one_more (itself (parts_seen o)) (parts_rest (set_seen v) (n - 1) (parts_seen o) 0) (shown_within n v) whole;
  enough = (le, tt {0});
}
  where
    whole : parts_within (set_seen v) n (root_parts v) ≡ itself (parts_seen o) ∷ parts_rest (set_seen v) (n - 1) (parts_seen o) 0
    whole = ap (parts_within (set_seen v) n) (sym e) ∙ whole_within (set_seen v) n o le

pub visit_done : (set : Schemas) (n visited : ℕ) (all found : List ShownPart) (fs : List Frame) → fs ≡ [] → IsVisit set n all visited found fs → (found ≡ refused_parts all) × (visited ≡ length all)
unfolding parts_left
visit_done set n visited all found fs e visit =
    (sym (append_none found) ∙ (ap (λ (gs : List Frame). found ++ refused_parts (parts_left set n gs)) (sym e) ∙ visit.refused), (let now = visit.count in let none = none_length (parts_left set n fs) (ap (parts_left set n) e) in omega (arith, now, none)))
  where
    append_none : (xs : List ShownPart) → xs ++ [] ≡ xs
    append_none [] = refl
    append_none (x ∷ xs) = ap (λ (ys : List ShownPart). x ∷ ys) (append_none xs)

-- ---- a count alone ----

pub record IsCounted (set : Schemas) (n : ℕ) (all : List ShownPart) (visited : ℕ) (frames : List Frame) : Type 0 where
  pub count : visited + length (parts_left set n frames) ≡ length all
  pub enough : IsEnough set n frames

pub count_start : (v : DynamicValue) (n : ℕ) (o : OpenValue) → parts_seen o ≡ root_parts v → steps_below (set_seen v) o ≤ n → IsCounted (set_seen v) n (shown_within n v) 1 (at_start o ∷ [])
count_start v n o e le = (let visit = visit_start v n o e le in record { count = visit.count; enough = visit.enough })

pub count_popped : (set : Schemas) (n visited : ℕ) (all : List ShownPart) (fs : List Frame) (f : Frame) → AreNoneLeft set f.value (next_index f.last) → IsCounted set n all visited (fs ++ f ∷ []) → IsCounted set n all visited fs
count_popped set n visited all fs f none counted = record {
  count = ap (λ (xs : List ShownPart). visited + length xs) (sym (left_popped set n fs f none)) ∙ counted.count;
  enough = enough_popped set n fs f counted.enough;
}

pub count_on : (set : Schemas) (n visited : ℕ) (all : List ShownPart) (fs : List Frame) (f : Frame) (step : PlaceStep) (part : OpenValue) → IsNextPart set f.value (next_index f.last) step part → IsCounted set n all visited (fs ++ f ∷ []) →
    IsCounted set n all (visited + 1) (fs ++ past_step f step ∷ at_start part ∷ [])
count_on set n visited all fs f step part next counted = record {
  count = (let now = counted.count in let more = ap length (left_entered set n fs f step part counted.enough next) in omega (arith, now, more));
  enough = enough_entered set n fs f step part counted.enough next;
}

pub count_more : (set : Schemas) (n visited : ℕ) (all : List ShownPart) (fs : List Frame) (f : Frame) (step : PlaceStep) (part : OpenValue) → IsNextPart set f.value (next_index f.last) step part → IsCounted set n all visited (fs ++ f ∷ []) → visited < length all
count_more set n visited all fs f step part next counted =
    let now = counted.count in
    let more = ap length (left_entered set n fs f step part counted.enough next) in
    omega (arith, now, more)

pub count_done : (set : Schemas) (n visited : ℕ) (all : List ShownPart) (fs : List Frame) → fs ≡ [] → IsCounted set n all visited fs → visited ≡ length all
unfolding parts_left
count_done set n visited all fs e counted = (let now = counted.count in let none = none_length (parts_left set n fs) (ap (parts_left set n) e) in omega (arith, now, none))
