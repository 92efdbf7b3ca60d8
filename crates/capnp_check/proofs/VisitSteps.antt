-- The steps of a visit, as its lists of frames change.
use Rattle.std.proofs.Common.{ℕ, zero, suc, ◌+◌, ◌-◌, ◌*◌, ◌<◌, ◌≤◌, ◌≡◌, refl, List, [], ◌∷◌, ◌++◌, length, ap, sym, subst, arith, append_assoc, ◌∙◌}
use Rattle.capnp_schema.specs.Schema.{Schemas}
use Rattle.capnp_dynamic_readers.specs.Shown.{set_seen}
use Rattle.capnp_dynamic_readers.specs.declared.dynamic_value.Reader.{Reader as DynamicValue}
use Rattle.capnp_check.specs.Faults.{ShownPart, most_steps, parts_within, refusal_itself, refused_parts, shown_within}
use Rattle.capnp_check.specs.Places.{TextParts, root_parts}
use Rattle.capnp_check.specs.Steps.Frames.{AreNoneLeft, AreOpenIn, IsNextPart, IsVisit, next_index, part_above}
use Rattle.capnp_check.specs.Steps.PlaceSteps.{IsOpenIn, parts_seen}
use Rattle.capnp_check.specs.declared.parts_below.OpenValue.{OpenValue}
use Rattle.capnp_check.specs.declared.place.PlaceStep.{PlaceStep}
use Rattle.capnp_check.specs.declared.visits.Frame.{Frame}
use Rattle.capnp_check.proofs.FramesLeft.{IsCounted, at_start, count_more, count_on, count_popped, count_start, open_more, open_none, open_parts, past_step, visit_more, visit_on, visit_popped, visit_start}
use Rattle.capnp_check.proofs.RootSteps.{root_few}

-- ---- the lists ----

one_frame : (fs new : List Frame) (f : Frame) → fs ≡ [] → new ≡ fs ++ f ∷ [] → f ∷ [] ≡ new
one_frame fs new f none is = sym (is ∙ ap (λ (gs : List Frame). gs ++ f ∷ []) none)

two_frames : (fs mid new : List Frame) (f g : Frame) → mid ≡ fs ++ f ∷ [] → new ≡ mid ++ g ∷ [] → fs ++ f ∷ g ∷ [] ≡ new
two_frames fs mid new f g e is = sym (is ∙ (ap (λ (gs : List Frame). gs ++ g ∷ []) e ∙ append_assoc fs (f ∷ []) (g ∷ [])))

pub length_less : (left visited : ℕ) (fs old : List Frame) (f : Frame) → old ≡ fs ++ f ∷ [] → 2 * left + length fs < 2 * left + length old
length_less left visited fs old f e = (let longer = ap length e ∙ length_of_more fs in omega (arith, longer))
  where
    length_of_more : (xs : List Frame) → length (xs ++ f ∷ []) ≡ length xs + 1
    length_of_more [] = refl
    length_of_more (x ∷ xs) = (let e = length_of_more xs in omega (arith, e))

pub length_more : (limit visited : ℕ) (fs old mid new : List Frame) (f g h : Frame) → old ≡ fs ++ f ∷ [] → mid ≡ fs ++ g ∷ [] → new ≡ mid ++ h ∷ [] → visited < limit → 2 * (limit - (visited + 1)) + length new < 2 * (limit - visited) + length old
length_more limit visited fs old mid new f g h e m n lt =
    let first = ap length e ∙ length_of_more fs f in
    let second = ap length m ∙ length_of_more fs g in
    let third = ap length n ∙ length_of_more mid h in
    omega (arith, first, second, third, lt)
  where
    length_of_more : (xs : List Frame) (y : Frame) → length (xs ++ y ∷ []) ≡ length xs + 1
    length_of_more [] y = refl
    length_of_more (x ∷ xs) y = (let e = length_of_more xs y in omega (arith, e))

pub nil_from_length : (fs : List Frame) → length fs ≡ 0 → fs ≡ []
nil_from_length [] e = refl
nil_from_length (f ∷ fs) e = absurd (omega (arith, e))

pub below_limit : (visited limit : ℕ) → visited ≤ limit → (visited ≡ limit → ⊥) → visited < limit
below_limit visited limit le other = omega (arith, le, other)

-- the value itself is shown
pub one_shown : (set : Schemas) (n : ℕ) (parts : TextParts) → 0 < length (parts_within set n parts)
unfolding parts_within
one_shown set zero parts = omega arith
one_shown set (suc n) parts = omega arith

-- ---- open values ----

module _ (set : Schemas) (old fs : List Frame) (f : Frame) (popped : old ≡ fs ++ f ∷ []) (are : AreOpenIn set old) where
  pub open_popped : AreOpenIn set fs
  open_popped = (open_parts set fs f (subst (AreOpenIn set) popped are)).0

  pub open_own : IsOpenIn set f.value
  open_own = (open_parts set fs f (subst (AreOpenIn set) popped are)).1

  pub open_past : (step : PlaceStep) (mid : List Frame) → mid ≡ fs ++ past_step f step ∷ [] → AreOpenIn set mid
  open_past step mid e = subst (AreOpenIn set) (sym e) (open_more set fs (past_step f step) open_popped open_own)

  pub open_next : (step : PlaceStep) (part : OpenValue) (mid new : List Frame) → mid ≡ fs ++ past_step f step ∷ [] → new ≡ mid ++ at_start part ∷ [] → IsOpenIn set part → AreOpenIn set new
  open_next step part mid new e is in_set = subst (AreOpenIn set) (sym is) (open_more set mid (at_start part) (open_past step mid e) in_set)

pub open_first : (set : Schemas) (fs new : List Frame) (o : OpenValue) → fs ≡ [] → new ≡ fs ++ at_start o ∷ [] → IsOpenIn set o → AreOpenIn set new
open_first set fs new o none is in_set = subst (AreOpenIn set) (sym is) (open_more set fs (at_start o) (open_none set fs none) in_set)

-- ---- a visit ----

pub visit_begun : (v : DynamicValue) (o : OpenValue) (fs new : List Frame) (old told : List ShownPart) → parts_seen o ≡ root_parts v → fs ≡ [] → old ≡ [] →
    told ≡ old ++ refused_parts (part_above (set_seen v) fs (refusal_itself (parts_seen o)) ∷ []) → new ≡ fs ++ at_start o ∷ [] →
    (n : ℕ) → most_steps (set_seen v) ≤ n → IsVisit (set_seen v) n (shown_within n v) 1 told new
visit_begun v o fs new old told e none empty is frames = λ n le.
    let few = root_few v o e in
    subst (IsVisit (set_seen v) n (shown_within n v) 1 told) (one_frame fs new (at_start o) none frames)
    (subst (λ (xs : List ShownPart). IsVisit (set_seen v) n (shown_within n v) 1 xs (at_start o ∷ [])) (sym told_is)
    (visit_start v n o e (omega (arith, few, le))))
  where
    told_is : told ≡ refused_parts (part_above (set_seen v) [] (refusal_itself (parts_seen o)) ∷ [])
    told_is =
        is
        ∙ (ap (λ (xs : List ShownPart). xs ++ refused_parts (part_above (set_seen v) fs (refusal_itself (parts_seen o)) ∷ [])) empty
        ∙ ap (λ (gs : List Frame). refused_parts (part_above (set_seen v) gs (refusal_itself (parts_seen o)) ∷ [])) none)

module _ (set : Schemas) (n visited : ℕ) (all found : List ShownPart) (old fs : List Frame) (f : Frame) (popped : old ≡ fs ++ f ∷ []) (visit : IsVisit set n all visited found old) where
  pub visit_out : AreNoneLeft set f.value (next_index f.last) → IsVisit set n all visited found fs
  visit_out none = visit_popped set n visited all found fs f none (subst (IsVisit set n all visited found) popped visit)

  pub visit_short : (step : PlaceStep) (part : OpenValue) → IsNextPart set f.value (next_index f.last) step part → visited < length all
  visit_short step part next = visit_more set n visited all found fs f step part next (subst (IsVisit set n all visited found) popped visit)

  pub visit_in : (step : PlaceStep) (part : OpenValue) (mid new : List Frame) (told : List ShownPart) → IsNextPart set f.value (next_index f.last) step part → mid ≡ fs ++ past_step f step ∷ [] → new ≡ mid ++ at_start part ∷ [] →
      told ≡ found ++ refused_parts (part_above set mid (refusal_itself (parts_seen part)) ∷ []) → IsVisit set n all (visited + 1) told new
  visit_in step part mid new told next e is more =
      subst (IsVisit set n all (visited + 1) told) (two_frames fs mid new (past_step f step) (at_start part) e is)
      (subst (λ (xs : List ShownPart). IsVisit set n all (visited + 1) xs (fs ++ past_step f step ∷ at_start part ∷ [])) (sym told_is)
      (visit_on set n visited all found fs f step part next (subst (IsVisit set n all visited found) popped visit)))
    where
      told_is : told ≡ found ++ refused_parts (part_above set (fs ++ past_step f step ∷ []) (refusal_itself (parts_seen part)) ∷ [])
      told_is = more ∙ ap (λ (gs : List Frame). found ++ refused_parts (part_above set gs (refusal_itself (parts_seen part)) ∷ [])) e

-- ---- a count ----

pub count_begun : (v : DynamicValue) (o : OpenValue) (fs new : List Frame) → parts_seen o ≡ root_parts v → fs ≡ [] → new ≡ fs ++ at_start o ∷ [] → (n : ℕ) → most_steps (set_seen v) ≤ n → IsCounted (set_seen v) n (shown_within n v) 1 new
count_begun v o fs new e none frames = λ n le.
    let few = root_few v o e in
    subst (IsCounted (set_seen v) n (shown_within n v) 1) (one_frame fs new (at_start o) none frames) (count_start v n o e (omega (arith, few, le)))

module _ (set : Schemas) (n visited : ℕ) (all : List ShownPart) (old fs : List Frame) (f : Frame) (popped : old ≡ fs ++ f ∷ []) (counted : IsCounted set n all visited old) where
  pub count_out : AreNoneLeft set f.value (next_index f.last) → IsCounted set n all visited fs
  count_out none = count_popped set n visited all fs f none (subst (IsCounted set n all visited) popped counted)

  pub count_short : (step : PlaceStep) (part : OpenValue) → IsNextPart set f.value (next_index f.last) step part → visited < length all
  count_short step part next = count_more set n visited all fs f step part next (subst (IsCounted set n all visited) popped counted)

  pub count_in : (step : PlaceStep) (part : OpenValue) (mid new : List Frame) → IsNextPart set f.value (next_index f.last) step part → mid ≡ fs ++ past_step f step ∷ [] → new ≡ mid ++ at_start part ∷ [] → IsCounted set n all (visited + 1) new
  count_in step part mid new next e is =
      subst (IsCounted set n all (visited + 1)) (two_frames fs mid new (past_step f step) (at_start part) e is)
      (count_on set n visited all fs f step part next (subst (IsCounted set n all visited) popped counted))
