-- The place of a part is the last steps of all values that lead to it.
use Rattle.std.proofs.Common.{ℕ, zero, suc, ◌+◌, ◌<◌, ◌≤◌, ◌≡◌, refl, List, [], ◌∷◌, ◌++◌, drop, get_or, length, Option, Some, None, ap, ap₂, append-nil, append_assoc, arith, subst, sym, ◌∙◌}
use Rattle.capnp_device.specs.declared.error.ErrorKind.{ErrorKind}
use Rattle.capnp_schema.specs.Schema.{Schemas}
use Rattle.capnp_check.specs.Faults.{ShownPart, refusal_itself, refused_parts}
use Rattle.capnp_check.specs.Steps.Frames.{AreOpenIn, behind_frame, behind_last, part_above, steps_told, words_told}
use Rattle.capnp_check.specs.Steps.PlaceSteps.{IsOpenIn, own_number, parts_seen}
use Rattle.capnp_check.specs.declared.parts_below.OpenValue.{OpenValue}
use Rattle.capnp_check.specs.declared.parts_below.OpenValue.TheVariants as opened
use Rattle.capnp_check.specs.declared.place.PlaceStep.{PlaceStep}
use Rattle.capnp_check.specs.declared.visits.Frame.{Frame}

abbrev pub steps_of : List Frame → List PlaceStep
steps_of [] = []
steps_of (f ∷ fs) = steps_told f.last ++ steps_of fs

abbrev pub words_of : Schemas → List Frame → List ℕ
words_of set [] = []
words_of set (f ∷ fs) = words_told set (parts_seen f.value) f.last ++ words_of set fs

pub above_told : (set : Schemas) (fs : List Frame) (o : Option ErrorKind) → part_above set fs o ≡ record { path = steps_of fs; words = words_of set fs; refusal = o }
unfolding part_above
above_told set [] o = refl
above_told set (f ∷ fs) o = ap (behind_frame set f) (above_told set fs o) ∙ own f.last
  where
    own : (last : Option PlaceStep) →
        behind_last set (parts_seen f.value) last (record { path = steps_of fs; words = words_of set fs; refusal = o })
        ≡ record { path = steps_told last ++ steps_of fs; words = words_told set (parts_seen f.value) last ++ words_of set fs; refusal = o }
    own None = refl
    own (Some step) = refl

-- ---- from frame to frame ----

drop_at : {X : Type 0} (xs : List X) (i : ℕ) (x : X) → i < length xs → x ≡ get_or xs i x → drop i xs ≡ x ∷ drop (i + 1) xs
drop_at [] i x lt e = absurd (omega (arith, lt))
drop_at (y ∷ ys) zero x lt e = ap (λ z. z ∷ ys) (sym e)
drop_at (y ∷ ys) (suc i) x lt e = drop_at ys i x (omega (arith, lt)) e ∙ ap (λ n. x ∷ drop n (y ∷ ys)) (suc_next i)
  where
    suc_next : (i : ℕ) → suc (i + 1) ≡ suc i + 1
    suc_next i = omega arith

drop_past : {X : Type 0} (xs : List X) (i : ℕ) → length xs ≤ i → drop i xs ≡ []
drop_past [] zero h = refl
drop_past [] (suc i) h = refl
drop_past (x ∷ xs) zero h = absurd (omega (arith, h))
drop_past (x ∷ xs) (suc i) h = drop_past xs i (omega (arith, h))

open_at : (set : Schemas) (fs : List Frame) (i : ℕ) (f : Frame) → i < length fs → f ≡ get_or fs i f → AreOpenIn set fs → IsOpenIn set f.value
unfolding AreOpenIn
open_at set [] i f lt e h = absurd (omega (arith, lt))
open_at set (g ∷ gs) zero f lt e h = subst_open (sym e) h.0
  where
    subst_open : {g f : Frame} → g ≡ f → IsOpenIn set g.value → IsOpenIn set f.value
    subst_open e h = subst (λ (z : Frame). IsOpenIn set z.value) e h
open_at set (g ∷ gs) (suc i) f lt e h = open_at set gs i f (omega (arith, lt)) e h.1

module _ (fs : List Frame) (i : ℕ) (f : Frame) (lt : i < length fs) (is : f ≡ get_or fs i f) where
  pub steps_next : (old new : List PlaceStep) → new ≡ old ++ steps_told f.last → old ++ steps_of (drop i fs) ≡ steps_of fs → new ++ steps_of (drop (i + 1) fs) ≡ steps_of fs
  steps_next old new e so_far =
      ap (λ (xs : List PlaceStep). xs ++ steps_of (drop (i + 1) fs)) e
      ∙ (append_assoc old (steps_told f.last) (steps_of (drop (i + 1) fs))
      ∙ (ap (λ (gs : List Frame). old ++ steps_of gs) (sym (drop_at fs i f lt is)) ∙ so_far))

  pub words_next : (set : Schemas) (old new : List ℕ) → new ≡ old ++ words_told set (parts_seen f.value) f.last → old ++ words_of set (drop i fs) ≡ words_of set fs → new ++ words_of set (drop (i + 1) fs) ≡ words_of set fs
  words_next set old new e so_far =
      ap (λ (xs : List ℕ). xs ++ words_of set (drop (i + 1) fs)) e
      ∙ (append_assoc old (words_told set (parts_seen f.value) f.last) (words_of set (drop (i + 1) fs))
      ∙ (ap (λ (gs : List Frame). old ++ words_of set gs) (sym (drop_at fs i f lt is)) ∙ so_far))

  pub open_there : (set : Schemas) → AreOpenIn set fs → IsOpenIn set f.value
  open_there set h = open_at set fs i f lt is h

pub steps_done : (fs : List Frame) (i : ℕ) (path : List PlaceStep) → length fs ≤ i → path ++ steps_of (drop i fs) ≡ steps_of fs → path ≡ steps_of fs
steps_done fs i path le e = sym (append-nil path) ∙ (ap (λ (gs : List Frame). path ++ steps_of gs) (sym (drop_past fs i le)) ∙ e)

pub words_done : (set : Schemas) (fs : List Frame) (i : ℕ) (words : List ℕ) → length fs ≤ i → words ++ words_of set (drop i fs) ≡ words_of set fs → words ≡ words_of set fs
words_done set fs i words le e = sym (append-nil words) ∙ (ap (λ (gs : List Frame). words ++ words_of set gs) (sym (drop_past fs i le)) ∙ e)

pub place_above : (set : Schemas) (fs : List Frame) (path : List PlaceStep) (words : List ℕ) (kind : ErrorKind) → path ≡ steps_of fs → words ≡ words_of set fs →
    record { path = path; words = words; refusal = Some kind } ≡ part_above set fs (Some kind)
place_above set fs path words kind e f = ap₂ (λ (xs : List PlaceStep) (ys : List ℕ). record { path = xs; words = ys; refusal = Some kind }) e f ∙ sym (above_told set fs (Some kind))

-- ---- a part that isn't refused ----

itself_own : (o : OpenValue) → refusal_itself (parts_seen o) ≡ own_number o
itself_own opened.Whole = refl
itself_own (opened.Refused kind) = refl
itself_own (opened.Struct s left) = refl
itself_own (opened.List l left) = refl

pub told_none : (set : Schemas) (fs : List Frame) (o : OpenValue) (xs : List ShownPart) → None ≡ own_number o → xs ≡ xs ++ refused_parts (part_above set fs (refusal_itself (parts_seen o)) ∷ [])
told_none set fs o xs e = sym
    (ap (λ (r : Option ErrorKind). xs ++ refused_parts (part_above set fs r ∷ [])) (itself_own o ∙ sym e)
    ∙ (ap (λ (x : ShownPart). xs ++ refused_parts (x ∷ [])) (above_told set fs None) ∙ append-nil xs))

pub told_some : (set : Schemas) (fs : List Frame) (o : OpenValue) (kind : ErrorKind) (xs ys : List ShownPart) (x : ShownPart) → Some kind ≡ own_number o → x ≡ part_above set fs (Some kind) → ys ≡ xs ++ x ∷ [] → ys ≡ xs ++ refused_parts (part_above set fs (refusal_itself (parts_seen o)) ∷ [])
told_some set fs o kind xs ys x e is more =
    more
    ∙ (ap (λ (z : ShownPart). xs ++ z ∷ []) (is ∙ above_told set fs (Some kind))
    ∙ sym
    (ap (λ (r : Option ErrorKind). xs ++ refused_parts (part_above set fs r ∷ [])) (itself_own o ∙ sym e)
    ∙ ap (λ (z : ShownPart). xs ++ refused_parts (z ∷ [])) (above_told set fs (Some kind))))
