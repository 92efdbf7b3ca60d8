-- Appends to one list, and paths that are the same.
use Rattle.std.proofs.Common.{ℕ, ◌<◌, ◌+◌, ◌≡◌, List, [], ◌∷◌, ◌++◌, length, get_or, take, arith, ap, ap₂, sym, subst, ◌∙◌}
use Rattle.std.proofs.lemmas.List.{map-append, take_all, take_more}
use Rattle.capnp_records.specs.Call.{PathStep, Source}
use Rattle.capnp_call.specs.Seen.{path_seen, step_seen}
use Rattle.capnp_call.specs.declared.calls.Step.{Step}
use Rattle.capnp_dynamic_readers.specs.declared.dynamic_value.Reader.{Reader as DynamicValue}
use Rattle.capnp_slots.specs.SetValues.{source_of}
use Rattle.capnp_edits.specs.Changes.{Append}
use Rattle.capnp_edit_calls.specs.ActsMade.{AreAppends, IsAppendTo}
use Rattle.capnp_edit_calls.specs.ChangesSeen.{change_seen, sources_of}
use Rattle.capnp_edit_calls.specs.declared.acts.Act.{Act}
use Rattle.capnp_edit_calls.specs.declared.acts.Act.TheVariants as act
use Rattle.capnp_edit_calls.specs.declared.edit.ListEdit.{ListEdit}

-- ---- paths ----

pub same_more : (a b : List Step) (i : ℕ) (x y : Step) → i < length a → i < length b → x ≡ get_or a i x → y ≡ get_or b i y → path_seen (take i a) ≡ path_seen (take i b) → step_seen x ≡ step_seen y → path_seen (take (i + 1) a) ≡ path_seen (take (i + 1) b)
same_more a b i x y in_a in_b is_x is_y h e =
    ap path_seen (take_more a i x in_a ∙ ap (λ z. take i a ++ z ∷ []) (sym is_x)) ∙ (map-append step_seen (take i a) (x ∷ [])
    ∙ (ap₂ (λ xs z. xs ++ z ∷ []) h e ∙ sym (ap path_seen (take_more b i y in_b ∙ ap (λ z. take i b ++ z ∷ []) (sym is_y)) ∙ map-append step_seen (take i b) (y ∷ []))))

pub same_whole : (a b : List Step) (i : ℕ) → i ≡ length a → length a ≡ length b → path_seen (take i a) ≡ path_seen (take i b) → path_seen a ≡ path_seen b
same_whole a b i all len h = ap path_seen (sym (take_all i a (omega (arith, all)))) ∙ (h ∙ ap path_seen (take_all i b (omega (arith, all, len))))

-- ---- values ----

pub append_is : (e : ListEdit) (path : List PathStep) (values : List DynamicValue) (v : DynamicValue) → path_seen e.path.now ≡ path → change_seen e.change ≡ Append (sources_of values) → length values ≡ 1 → v ≡ get_or values 0 v → IsAppendTo path (source_of v) (act.Edit e)
append_is e path [] v p h one is = absurd (omega (arith, one))
append_is e path (x ∷ []) v p h one is = (p, h ∙ ap (λ y. Append (source_of y ∷ [])) (sym is))
append_is e path (x ∷ y ∷ values) v p h one is = absurd (omega (arith, one))

pub appends_more : (path : List PathStep) (ss : List Source) (acts : List Act) (s : Source) (a : Act) → AreAppends path ss acts → IsAppendTo path s a → AreAppends path (ss ++ s ∷ []) (acts ++ a ∷ [])
appends_more path [] [] s a h one = (one, tt)
appends_more path [] (x ∷ acts) s a h one = absurd h
appends_more path (x ∷ ss) [] s a h one = absurd h
appends_more path (x ∷ ss) (y ∷ acts) s a h one = (h.0, appends_more path ss acts s a h.1 one)

pub gathered_more : (path : List PathStep) (values : List DynamicValue) (acts : List Act) (i : ℕ) (v : DynamicValue) (a : Act) → i < length acts → a ≡ get_or acts i a → AreAppends path (sources_of values) (take i acts) → IsAppendTo path (source_of v) a →
    AreAppends path (sources_of (values ++ v ∷ [])) (take (i + 1) acts)
gathered_more path values acts i v a inside is h one =
    subst (λ (xs : List Act). AreAppends path (sources_of (values ++ v ∷ [])) xs) (sym (take_more acts i a inside ∙ ap (λ z. take i acts ++ z ∷ []) (sym is)))
    (subst (λ (ss : List Source). AreAppends path ss (take i acts ++ a ∷ [])) (sym (map-append source_of values (v ∷ []))) (appends_more path (sources_of values) (take i acts) (source_of v) a h one))
