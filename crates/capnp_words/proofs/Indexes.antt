-- The last step of a path as an index.
use Rattle.std.proofs.Common.{ℕ, ◌≡◌, List, [], ◌∷◌, ◌++◌, Option, Some, None, Ok, ap, refl, sym, ◌∙◌}
use Rattle.std.proofs.lemmas.List.{map-append}
use Rattle.capnp_records.specs.Call.{PathStep}
use Rattle.capnp_words.specs.Calls.{indexed, step_index, with_front}
use Rattle.capnp_words.specs.Reads.{Read, read_as, stands_or}
use Rattle.capnp_words.specs.Seen.{step_text_seen, steps_seen}
use Rattle.capnp_words.specs.declared.path.PathStep.{PathStep as WordStep}

-- an index behind some steps
abbrev pub after_steps : List PathStep → ℕ → Read (List PathStep × ℕ)
after_steps ss i = Ok (ss, i)

behind : (end : ℕ) (s : PathStep) (ss : List PathStep) (o : Option ℕ) → read_as (with_front s) (stands_or o end (after_steps ss)) ≡ stands_or o end (after_steps (s ∷ ss))
behind end s ss None = refl
behind end s ss (Some i) = refl

pub indexed_last : (end : ℕ) (ss : List PathStep) (s : PathStep) → indexed end (ss ++ s ∷ []) ≡ stands_or (step_index s) end (after_steps ss)
indexed_last end [] s = refl
indexed_last end (a ∷ []) s = behind end a [] (step_index s)
indexed_last end (a ∷ b ∷ ss) s = ap (read_as (with_front a)) (indexed_last end (b ∷ ss) s) ∙ behind end a (b ∷ ss) (step_index s)

-- the steps as the code has them, before the last is taken and then
taken_last : (end : ℕ) (before after : List WordStep) (x : WordStep) → before ≡ after ++ x ∷ [] → indexed end (steps_seen before) ≡ stands_or (step_index (step_text_seen x)) end (after_steps (steps_seen after))
taken_last end before after x e =
    ap (λ (xs : List WordStep). indexed end (steps_seen xs)) e ∙ (ap (indexed end) (map-append step_text_seen after (x ∷ [])) ∙ indexed_last end (steps_seen after) (step_text_seen x))

-- by what the last is
pub taken_as : (end : ℕ) (before after : List WordStep) (x : WordStep) (o : Option ℕ) → before ≡ after ++ x ∷ [] → o ≡ step_index (step_text_seen x) → stands_or o end (after_steps (steps_seen after)) ≡ indexed end (steps_seen before)
taken_as end before after x o e is = ap (λ (z : Option ℕ). stands_or z end (after_steps (steps_seen after))) is ∙ sym (taken_last end before after x e)
