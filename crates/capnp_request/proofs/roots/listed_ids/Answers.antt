-- The ids gathered, before those that the list still says, are the whole list's. An element that can't be read refuses it.
use Rattle.std.proofs.Common.{ℕ, [], rules, ◌+◌, ◌<◌, ◌≤◌, ◌≡◌, ◌∙◌, ◌∷◌, ap, arith, sym, Ok}
use Rattle.std.proofs.lemmas.Result.{err_from_is_err_and}
use Rattle.capnp_request.specs.Steps.Seen.{record_seen}
use Rattle.capnp_request.specs.Steps.Handles.{values_left}
use Rattle.capnp_request.specs.Reading.{all_said, each_said, id_said, number_in, whole_list}
use Rattle.capnp_request.proofs.ListsSaid.{length_of, said_fault, said_none, said_record}
use Rattle.capnp_request.proofs.RootsNamed.{behind_end, behind_more, behind_none, behind_refused, said_behind, whole_read}
use Rattle.capnp_request.proofs.roots.listed_ids.Goals as goal

pub returns-in_err-listed-clause-said : goal.returns-in_err-listed-clause-said
returns-in_err-listed-clause-said c =
    let p = err_from_is_err_and c.from_residual.result c.from_residual.ensures.1 in
    rw (p.1, p.2) (λ is. ap (whole_list c.args.inner (id_said c.args.inner)) (sym c.in_err-listed.ensures.refused))

pub returns-in_err-element-clause-said : goal.returns-in_err-element-clause-said
returns-in_err-element-clause-said c =
    let within : c.loop-at.at < length_of c.in_ok-listed.listed = omega arith in
    let p = err_from_is_err_and c.from_residual-in_err-element.result c.from_residual-in_err-element.ensures.1 in
    rw (p.1, p.2) (λ is. ap (whole_list c.args.inner (id_said c.args.inner)) (sym c.in_ok-listed.ensures.read) ∙ (whole_read c.in_ok-listed.listed c.args.inner (id_said c.args.inner)
    ∙ (sym c.loop-at.invariant ∙ behind_refused c.loop-at.ids.items _ _ _ (said_fault c.in_ok-listed.listed c.args.inner (id_said c.args.inner) c.loop-at.at _ c.in_ok-listed.ensures.elements within c.in_err-element.ensures.refused))))

pub loop-at-init : goal.loop-at-init
loop-at-init c =
    let e : c.new-ids.result.items ≡ [] = search rules in
    ap (λ xs. said_behind xs (all_said (each_said c.args.inner (id_said c.args.inner) (values_left c.in_ok-listed.listed 0)))) e ∙ behind_none (all_said (each_said c.args.inner (id_said c.args.inner) (values_left c.in_ok-listed.listed 0)))

pub loop-at-preserved : goal.loop-at-preserved
loop-at-preserved c =
    let within : c.loop-at.at < length_of c.in_ok-listed.listed = omega arith in
    ap (λ ids. said_behind ids (all_said (each_said c.args.inner (id_said c.args.inner) (values_left c.in_ok-listed.listed (c.loop-at.at + 1))))) c.in_ok-push.ensures.items
    ∙ (behind_more c.loop-at.ids.items _ _ _ (said_record c.in_ok-listed.listed c.args.inner (id_said c.args.inner) c.loop-at.at (record_seen c.in_ok-element.element) c.in_ok-listed.ensures.elements within c.in_ok-element.ensures.read
    ∙ ap (λ (n : ℕ). Ok n ∷ each_said c.args.inner (id_said c.args.inner) (values_left c.in_ok-listed.listed (c.loop-at.at + 1))) (ap number_in (sym c.u64_at.ensures))) ∙ c.loop-at.invariant)

pub returns-clause-said : goal.returns-clause-said
returns-clause-said c =
    let past : length_of c.in_ok-listed.listed ≤ c.loop-at.at = omega arith in
    ap (whole_list c.args.inner (id_said c.args.inner)) (sym c.in_ok-listed.ensures.read) ∙ (whole_read c.in_ok-listed.listed c.args.inner (id_said c.args.inner)
    ∙ (sym c.loop-at.invariant ∙ behind_end c.loop-at.ids.items _ (said_none c.in_ok-listed.listed c.args.inner (id_said c.args.inner) c.loop-at.at past)))
