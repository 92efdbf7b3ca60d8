-- Lines of notes one after another, and what stands in one.
use Rattle.std.proofs.Common.{ℕ, zero, suc, ◌+◌, ◌<◌, ◌≤◌, List, [], ◌∷◌, ◌++◌, drop, get_or, length, map, arith, ap, append_assoc, append-nil, refl, string_bytes, sym, ◌≡◌, ◌∙◌}
use Rattle.std.proofs.lemmas.List.{drop_all, drop_more}
use Rattle.capnp_schema.specs.Schema.{Schemas, seen_field}
use Rattle.capnp_schema.specs.declared.record.FieldRecord.{FieldRecord}
use Rattle.capnp_differences.specs.declared.noted.Note.{Note}
use Rattle.capnp_versions.specs.Changes.{change_line, changes_text, name_of}

pub next_change : (set : Schemas) (ns : List Note) (i : ℕ) (n z : Note) (text text' all : List ℕ) → i < length ns → n ≡ get_or ns i z → text ++ changes_text set (drop i ns) ≡ all →
    text' ≡ text ++ change_line set n → text' ++ changes_text set (drop (i + 1) ns) ≡ all
next_change set ns i n z text text' all inside is left put =
    let here : drop i ns ≡ n ∷ drop (i + 1) ns = drop_more ns i z inside ∙ ap (λ (x : Note). x ∷ drop (i + 1) ns) (sym is) in
    ap (λ (xs : List ℕ). xs ++ changes_text set (drop (i + 1) ns)) put
    ∙ (append_assoc text (change_line set n) (changes_text set (drop (i + 1) ns))
    ∙ (ap (λ (xs : List Note). text ++ changes_text set xs) (sym here) ∙ left))

pub last_change : (set : Schemas) (ns : List Note) (i : ℕ) (text all : List ℕ) → length ns ≤ i → text ++ changes_text set (drop i ns) ≡ all → text ≡ all
last_change set ns i text all past left =
    sym (append-nil text) ∙ (ap (λ (xs : List Note). text ++ changes_text set xs) (sym (drop_all i ns past)) ∙ left)

-- ---- the name of a field ----

pub no_name : (fs : List FieldRecord) (i : ℕ) → length fs ≤ i → name_of (map seen_field fs) i ≡ []
no_name [] i h = refl
no_name (f ∷ fs) zero h = absurd (omega (arith, h))
no_name (f ∷ fs) (suc i) h = no_name fs i (omega (arith, h))

pub some_name : (fs : List FieldRecord) (i : ℕ) (r : FieldRecord) → i < length fs → r ≡ get_or fs i r → name_of (map seen_field fs) i ≡ string_bytes r.name
some_name [] i r inside h = absurd (omega (arith, inside))
some_name (f ∷ fs) zero r inside h = ap (λ (x : FieldRecord). string_bytes x.name) (sym h)
some_name (f ∷ fs) (suc i) r inside h = some_name fs i r (omega (arith, inside)) h
