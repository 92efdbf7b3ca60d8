-- The member decides: 11 is text, 12 data, 13 a struct's words, 14 a list's, and past these an unknown kind.
-- A copy is refused for memory alone.
use Rattle.std.proofs.Common.{ℕ, List, arith, ap, refl, sym, ◌∙◌, ◌≡◌, Ok}
use Rattle.std.proofs.lemmas.Result.{err_from_is_err_and}
use Rattle.capnp_schema.specs.Schema.{DataValue, StructValue, TextValue}
use Rattle.capnp_sets.specs.Steps.Handles.{meta_record_in}
use Rattle.capnp_sets.specs.Values.{value_by}
use Rattle.capnp_sets.proofs.AppliedReads.{cause_right, made}
use Rattle.capnp_sets.proofs.Bases.{list_made, only_memory, past_kinds}
use Rattle.capnp_sets.proofs.PartsRead.{blob_refused, blob_there, text_refused, text_there}
use Rattle.capnp_sets.proofs.values.pointer_value.Goals as goal

pub returns-then-member-gt14-clause-refused : goal.returns-then-member-gt14-clause-refused
returns-then-member-gt14-clause-refused c = λ _. past_kinds (meta_record_in 5 c.args.reader.now) c.args.member c.if-member-gt14.true

pub returns-in_err-text-clause-refused : goal.returns-in_err-text-clause-refused
unfolding value_by
returns-in_err-text-clause-refused c = let p = err_from_is_err_and c.from_residual.result c.from_residual.ensures.1 in rw (p.1, p.2) (λ _. rw c.if-member-eq11.true (cause_right _ _ _ (text_refused _ _ _ c.in_err-text.ensures)))

pub returns-then-member-eq11-clause-read : goal.returns-then-member-eq11-clause-read
unfolding value_by
returns-then-member-eq11-clause-read c = rw c.if-member-eq11.true (made refl (text_there _ _ _ c.in_ok-text.ensures) ∙ ap (λ (b : List ℕ). Ok (TextValue b)) (sym c.in_ok-letters.ensures.read))

pub returns-in_err-data-clause-refused : goal.returns-in_err-data-clause-refused
unfolding value_by
returns-in_err-data-clause-refused c = let p = err_from_is_err_and c.from_residual-in_err-data.result c.from_residual-in_err-data.ensures.1 in rw (p.1, p.2) (λ _. rw c.if-member-eq12.true (cause_right _ _ _ (blob_refused _ _ _ c.in_err-data.ensures)))

pub returns-then-member-eq12-clause-read : goal.returns-then-member-eq12-clause-read
unfolding value_by
returns-then-member-eq12-clause-read c = rw c.if-member-eq12.true (made refl (blob_there _ _ _ c.in_ok-data.ensures) ∙ ap (λ (b : List ℕ). Ok (DataValue b)) (sym c.in_ok-bytes.ensures.read))

pub returns-in_err-inner-clause-refused : goal.returns-in_err-inner-clause-refused
unfolding value_by
returns-in_err-inner-clause-refused c = let p = err_from_is_err_and c.from_residual-in_err-inner.result c.from_residual-in_err-inner.ensures.1 in rw (p.1, p.2) (λ _. rw c.if-member-eq13.true (cause_right _ _ _ (blob_refused _ _ _ c.in_err-inner.ensures)))

pub returns-then-member-eq13-clause-read : goal.returns-then-member-eq13-clause-read
unfolding value_by
returns-then-member-eq13-clause-read c = rw c.if-member-eq13.true (made refl (blob_there _ _ _ c.in_ok-inner.ensures) ∙ ap (λ (b : List ℕ). Ok (StructValue b)) (sym c.in_ok-words.ensures.read))

pub returns-in_err-elements-clause-refused : goal.returns-in_err-elements-clause-refused
unfolding value_by
returns-in_err-elements-clause-refused c =
    let last : c.args.member ≡ 14 = omega arith in
    let p = err_from_is_err_and c.from_residual-in_err-elements.result c.from_residual-in_err-elements.ensures.1 in rw (p.1, p.2) (λ _. rw last (cause_right _ _ _ (blob_refused _ _ _ c.in_err-elements.ensures)))

pub returns-clause-read : goal.returns-clause-read
unfolding value_by
returns-clause-read c =
    let last : c.args.member ≡ 14 = omega arith in
    list_made c.list_words.result _ _ (rw last (made refl (blob_there _ _ _ c.in_ok-elements.ensures))) c.list_words.ensures.read

pub returns-clause-refused : goal.returns-clause-refused
returns-clause-refused c = only_memory c.list_words.result _ c.list_words.ensures.refused
