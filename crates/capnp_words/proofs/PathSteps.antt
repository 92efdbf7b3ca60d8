-- The steps of a path, one after another.
use Rattle.std.proofs.Common.{◌≡◌, ℕ, ◌+◌, ◌<◌, List, [], ◌∷◌, ◌++◌, length, Bool, Ok, Err, refl, ap, sym, ◌∙◌, append_assoc, arith}
use Rattle.std.specs.List.{position_or_len, before_first, after_first, slice_split}
use Rattle.std.proofs.lemmas.List.Splits.{slice_split_first, slice_split_none}
use Rattle.std.proofs.lemmas.List.Sums.{fails_before_first}
use Rattle.std.proofs.lemmas.List.{map-append, length-take, length-drop}
use Rattle.capnp_records.specs.Call.{PathStep}
use Rattle.capnp_words.specs.declared.path.PathStep.{PathStep as WordStep}
use Rattle.capnp_words.specs.Reads.{Read, read_as, read_then}
use Rattle.capnp_words.specs.Paths.{is_dot, step_at, parts_at, steps_at}
use Rattle.capnp_words.specs.Seen.{step_text_seen, steps_seen}

-- no byte passes
pub split_none : (p : ℕ → Bool) (bs : List ℕ) → position_or_len p bs ≡ length bs → slice_split p bs ≡ bs ∷ []
split_none p bs e = slice_split_none p bs (λ k d h. fails_before_first p bs k d (omega (arith, e, h)))

pub last_step : (place : ℕ) (bs : List ℕ) → position_or_len is_dot bs ≡ length bs → steps_at place bs ≡ read_then (step_at place bs) (λ s. Ok (s ∷ []))
last_step place bs e = ap (parts_at place) (split_none is_dot bs e)

pub next_step : (place : ℕ) (bs : List ℕ) → position_or_len is_dot bs < length bs
    → steps_at place bs ≡ read_then (step_at place (before_first is_dot bs)) (λ s. read_as (λ ss. s ∷ ss) (steps_at (place + (length (before_first is_dot bs) + 1)) (after_first is_dot bs)))
next_step place bs h = ap (parts_at place) (slice_split_first is_dot bs 0 h)

-- what a step that was read, or was refused, makes of what the steps so far stand before
pub with_step : (done : List PathStep) (s : PathStep) (r : Read (List PathStep)) → read_as (λ ss. done ++ ss) (read_as (λ ss. s ∷ ss) r) ≡ read_as (λ ss. (done ++ (s ∷ [])) ++ ss) r
with_step done s (Ok ss) = ap Ok (sym (append_assoc done (s ∷ []) ss))
with_step done s (Err place) = refl

-- a step that is read, where more follow
pub goes_on : (done : List WordStep) (step : WordStep) (place : ℕ) (bs : List ℕ) (all : Read (List PathStep))
    → read_as (λ ss. steps_seen done ++ ss) (steps_at place bs) ≡ all
    → position_or_len is_dot bs < length bs
    → Ok (step_text_seen step) ≡ step_at place (before_first is_dot bs)
    → read_as (λ ss. steps_seen (done ++ (step ∷ [])) ++ ss) (steps_at (place + (length (before_first is_dot bs) + 1)) (after_first is_dot bs)) ≡ all
goes_on done step place bs all invariant more read =
    let next : steps_at place bs ≡ read_as (λ ss. step_text_seen step ∷ ss) (steps_at (place + (length (before_first is_dot bs) + 1)) (after_first is_dot bs)) =
    rw (next_step place bs more, ← read) refl in
    let seen : steps_seen (done ++ (step ∷ [])) ≡ steps_seen done ++ (step_text_seen step ∷ []) = map-append step_text_seen done (step ∷ []) in
    rw (seen, ← with_step (steps_seen done) (step_text_seen step) (steps_at (place + (length (before_first is_dot bs) + 1)) (after_first is_dot bs)), ← next) invariant

-- a step that is refused, where more follow
pub stops : (done : List PathStep) (fault place : ℕ) (bs : List ℕ) (all : Read (List PathStep))
    → read_as (λ ss. done ++ ss) (steps_at place bs) ≡ all
    → position_or_len is_dot bs < length bs
    → Err fault ≡ step_at place (before_first is_dot bs)
    → Err fault ≡ all
stops done fault place bs all invariant more read =
    let next : steps_at place bs ≡ Err fault = rw (next_step place bs more, ← read) refl in
    let left : read_as (λ ss. done ++ ss) (Err fault) ≡ all = rw next at invariant in
    left

-- the last step
pub ends : (done : List WordStep) (step : WordStep) (place : ℕ) (bs : List ℕ) (all : Read (List PathStep))
    → read_as (λ ss. steps_seen done ++ ss) (steps_at place bs) ≡ all
    → position_or_len is_dot bs ≡ length bs
    → Ok (step_text_seen step) ≡ step_at place bs
    → Ok (steps_seen (done ++ (step ∷ []))) ≡ all
ends done step place bs all invariant last read =
    let next : steps_at place bs ≡ Ok (step_text_seen step ∷ []) = rw (last_step place bs last, ← read) refl in
    let left : read_as (λ ss. steps_seen done ++ ss) (Ok (step_text_seen step ∷ [])) ≡ all = rw next at invariant in
    ap Ok (map-append step_text_seen done (step ∷ [])) ∙ left

pub ends_refused : (done : List PathStep) (fault place : ℕ) (bs : List ℕ) (all : Read (List PathStep))
    → read_as (λ ss. done ++ ss) (steps_at place bs) ≡ all
    → position_or_len is_dot bs ≡ length bs
    → Err fault ≡ step_at place bs
    → Err fault ≡ all
ends_refused done fault place bs all invariant last read =
    let next : steps_at place bs ≡ Err fault = rw (last_step place bs last, ← read) refl in
    let left : read_as (λ ss. done ++ ss) (Err fault) ≡ all = rw next at invariant in
    left

-- the bytes before and after the first that passes, and that one, are all
pub lengths_around : (p : ℕ → Bool) (bs : List ℕ) → position_or_len p bs < length bs → length (before_first p bs) + 1 + length (after_first p bs) ≡ length bs
lengths_around p bs h = omega (arith, h, length-take (position_or_len p bs) bs, length-drop (position_or_len p bs + 1) bs)
