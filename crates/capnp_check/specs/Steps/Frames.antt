-- Where a visit of all parts stands: what is still to come behind the parts that lead there.
use Rattle.std.specs.Prelude.{ℕ, ◌+◌, ◌-◌, ◌<◌, ◌≤◌, ◌≡◌, List, [], ◌∷◌, ◌++◌, length, map, ⊤, Option, Some, None}
use Rattle.capnp_device.specs.declared.error.ErrorKind.{ErrorKind}
use Rattle.capnp_schema.specs.Schema.{Schemas}
use Rattle.capnp_check.specs.Faults.{ShownPart, behind_step, parts_from, parts_within, refused_parts, step_count}
use Rattle.capnp_check.specs.Places.{TextParts, part_word}
use Rattle.capnp_check.specs.Steps.PlaceSteps.{IsOpenIn, parts_seen, steps_below}
use Rattle.capnp_check.specs.declared.parts_below.OpenValue.{OpenValue}
use Rattle.capnp_check.specs.declared.place.PlaceStep.{PlaceStep}
use Rattle.capnp_check.specs.declared.place.PlaceStep.TheVariants.{Field, Element}
use Rattle.capnp_check.specs.declared.visits.Frame.{Frame}

-- ---- a value whose parts are visited ----

abbrev pub step_index : PlaceStep → ℕ
step_index (Field i) = i
step_index (Element i) = i

-- the index of the part behind the last one
abbrev pub next_index : Option PlaceStep → ℕ
next_index None = 0
next_index (Some step) = step_index step + 1

-- what is to come of a value from an index on
abbrev pub parts_rest : Schemas → ℕ → TextParts → ℕ → List ShownPart
parts_rest set n parts i = parts_from set (parts_within set n) parts i (step_count set parts - i)

abbrev pub rest_of : Schemas → ℕ → Frame → List ShownPart
rest_of set n f = parts_rest set n (parts_seen f.value) (next_index f.last)

-- the next part that is shown
pub record IsNextPart (set : Schemas) (value : OpenValue) (i : ℕ) (step : PlaceStep) (part : OpenValue) : Type 0 where
  pub rest : (n : ℕ) →
      parts_rest set n (parts_seen value) i
      ≡ map (behind_step step (part_word set (parts_seen value) step)) (parts_within set n (parts_seen part)) ++ parts_rest set n (parts_seen value) (step_index step + 1)
  pub of_set : IsOpenIn set part
  pub less : steps_below set part < steps_below set value

abbrev pub AreNoneLeft : Schemas → OpenValue → ℕ → Type 0
AreNoneLeft set value i = (n : ℕ) → parts_rest set n (parts_seen value) i ≡ []

-- ---- the values that lead to where it stands, the outermost first ----

-- a part behind the last step of a frame
abbrev pub behind_last : Schemas → TextParts → Option PlaceStep → ShownPart → ShownPart
behind_last set parts None x = x
behind_last set parts (Some step) x = behind_step step (part_word set parts step) x

abbrev pub behind_frame : Schemas → Frame → ShownPart → ShownPart
behind_frame set f x = behind_last set (parts_seen f.value) f.last x

-- a part that all frames lead to
unfoldable pub part_above : Schemas → List Frame → Option ErrorKind → ShownPart
part_above set [] refusal = record { path = []; words = []; refusal = refusal }
part_above set (f ∷ fs) refusal = behind_frame set f (part_above set fs refusal)

-- the steps and the words of it
abbrev pub steps_told : Option PlaceStep → List PlaceStep
steps_told None = []
steps_told (Some step) = step ∷ []

abbrev pub words_told : Schemas → TextParts → Option PlaceStep → List ℕ
words_told set parts None = []
words_told set parts (Some step) = 46 ∷ part_word set parts step

-- all that is to come: of the innermost first
unfoldable pub parts_left : Schemas → ℕ → List Frame → List ShownPart
parts_left set n [] = []
parts_left set n (f ∷ fs) = map (behind_frame set f) (parts_left set (n - 1) fs) ++ rest_of set (n - 1) f

unfoldable pub IsEnough : Schemas → ℕ → List Frame → Type 0
IsEnough set n [] = ⊤
IsEnough set n (f ∷ fs) = (steps_below set f.value ≤ n) × IsEnough set (n - 1) fs

unfoldable pub AreOpenIn : Schemas → List Frame → Type 0
AreOpenIn set [] = ⊤
AreOpenIn set (f ∷ fs) = IsOpenIn set f.value × AreOpenIn set fs

-- what was visited and what is to come are all
pub record IsVisit (set : Schemas) (n : ℕ) (all : List ShownPart) (visited : ℕ) (found : List ShownPart) (frames : List Frame) : Type 0 where
  pub refused : found ++ refused_parts (parts_left set n frames) ≡ refused_parts all
  pub count : visited + length (parts_left set n frames) ≡ length all
  pub enough : IsEnough set n frames
