-- The words of a place, step by step.
use Rattle.std.proofs.Common.{List, [], ◌∷◌, ◌++◌, ℕ, ◌≡◌, ◌∙◌, ap, append-nil, append_assoc, sym}
use Rattle.capnp_schema.specs.Schema.{Schemas}
use Rattle.capnp_check.specs.Places.{IsPathTo, TextParts, parts_after, place_words, part_word}
use Rattle.capnp_check.specs.Steps.PlaceSteps.{parts_seen}
use Rattle.capnp_check.specs.declared.parts_below.OpenValue.{OpenValue}
use Rattle.capnp_check.specs.declared.place.PlaceStep.{PlaceStep}

-- one step more has its word behind those before
words_further : (set : Schemas) (path : List PlaceStep) (step : PlaceStep) (from to : TextParts) → IsPathTo set path from to →
    place_words set from (path ++ step ∷ []) ≡ place_words set from path ++ 46 ∷ part_word set to step
unfolding IsPathTo place_words
words_further set [] step from to is = ap (λ (ws : List ℕ). 46 ∷ ws) (append-nil (part_word set from step) ∙ ap (λ (z : TextParts). part_word set z step) is)
words_further set (s ∷ path) step from to is =
    ap (λ (ws : List ℕ). 46 ∷ part_word set from s ++ ws) (words_further set path step (parts_after set from s) to is.1)
    ∙ ap (λ (ws : List ℕ). 46 ∷ ws) (sym (append_assoc (part_word set from s) (place_words set (parts_after set from s) path) (46 ∷ part_word set to step)))

pub words_start : (set : Schemas) (from : TextParts) (path : List PlaceStep) (words : List ℕ) → path ≡ [] → words ≡ [] → words ≡ place_words set from path
unfolding place_words
words_start set from path words none empty = empty ∙ ap (place_words set from) (sym none)

pub words_on : (set : Schemas) (from : TextParts) (path new : List PlaceStep) (step : PlaceStep) (current : OpenValue) (words more : List ℕ) →
    new ≡ path ++ step ∷ [] → IsPathTo set path from (parts_seen current) → words ≡ place_words set from path → more ≡ words ++ 46 ∷ part_word set (parts_seen current) step →
    more ≡ place_words set from new
words_on set from path new step current words more e is w m =
    m ∙ (ap (λ (ws : List ℕ). ws ++ 46 ∷ part_word set (parts_seen current) step) w
    ∙ (sym (words_further set path step from (parts_seen current) is) ∙ ap (place_words set from) (sym e)))
