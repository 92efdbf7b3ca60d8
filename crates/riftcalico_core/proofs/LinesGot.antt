-- One line more of those that are asked for, or the first query that has none.
use Rattle.std.proofs.Common.{ℕ, ◌+◌, ◌-◌, ◌<◌, ◌≤◌, List, [], ◌∷◌, ◌++◌, drop, get_or, length, map, ap, append_assoc, inl, inr, refl, subst, sym, ◌≡◌, ◌∙◌}
use Rattle.std.proofs.lemmas.List.{append-nil}
use Rattle.riftcalico_core.specs.Lines.{AreLinesOf, IsFirstOf}
use Rattle.riftcalico_core.specs.Queries.{Query}
use Rattle.riftcalico_core.specs.QueriesSeen.{asked_seen}
use Rattle.riftcalico_core.specs.declared.queries.AskedQuery.{AskedQuery}
use Rattle.riftcalico_core.proofs.Each.{item_from}
use Rattle.riftcalico_core.proofs.Noted.{none_left}

-- the queries that are left from an index on
abbrev pub left_of : List AskedQuery → (index : ℕ) → List Query
left_of xs i = map asked_seen (drop i xs)

next : (xs : List AskedQuery) (i : ℕ) (x : AskedQuery) → i < length xs → x ≡ get_or xs i x → left_of xs i ≡ asked_seen x ∷ left_of xs (i + 1)
next xs i x inside is = ap (map asked_seen) (item_from xs i x inside is)

module _ (is : Query → List ℕ → Type 0) (all : List Query) where
  -- with lines of the queries that are left behind them these are the lines of all
  abbrev pub Begins : List Query → (lines : List ℕ) → Type 0
  Begins qs lines = (rest : List ℕ) → AreLinesOf is qs rest → AreLinesOf is all (lines ++ rest)

  one_more : (qs : List Query) (q : Query) (lines text : List ℕ) → Begins (q ∷ qs) lines → is q text → Begins qs (lines ++ (text ++ 10 ∷ []))
  unfolding AreLinesOf
  one_more qs q lines text begins line = λ rest are.
      let same : (lines ++ (text ++ 10 ∷ [])) ++ rest ≡ lines ++ (text ++ 10 ∷ rest) = append_assoc lines (text ++ 10 ∷ []) rest ∙ ap (λ (xs : List ℕ). lines ++ xs) (append_assoc text (10 ∷ []) rest) in
      subst (AreLinesOf is all) (sym same) (begins (text ++ 10 ∷ rest) (text, rest, line, are, refl))

  no_more : (qs : List Query) (lines : List ℕ) → qs ≡ [] → Begins qs lines → AreLinesOf is all lines
  unfolding AreLinesOf
  no_more qs lines none begins = subst (AreLinesOf is all) (append-nil lines) (begins [] (subst (λ (ys : List Query). AreLinesOf is ys []) (sym none) refl))

  pub begins_more : (xs : List AskedQuery) (i : ℕ) (x : AskedQuery) (lines text : List ℕ) → i < length xs → x ≡ get_or xs i x → Begins (left_of xs i) lines →
      is (asked_seen x) text → Begins (left_of xs (i + 1)) (lines ++ (text ++ 10 ∷ []))
  begins_more xs i x lines text inside at begins h =
      one_more (left_of xs (i + 1)) (asked_seen x) lines text (subst (λ (qs : List Query). Begins qs lines) (next xs i x inside at) begins) h

  pub all_lines : (xs : List AskedQuery) (i : ℕ) (lines : List ℕ) → length xs ≤ i → Begins (left_of xs i) lines → AreLinesOf is all lines
  all_lines xs i lines past begins = no_more (left_of xs i) lines (ap (map asked_seen) (none_left xs i past)) begins

  module _ {W : Type 0} (so : W → ℕ → Query → Type 0) where
    -- what refuses the queries that are left refuses all
    abbrev pub Refuses : (limit left : ℕ) → List Query → Type 0
    Refuses limit left qs = (w : W) → IsFirstOf is (so w) left qs → IsFirstOf is (so w) limit all

    refuses_behind : (limit left : ℕ) (qs : List Query) (q : Query) (text : List ℕ) → Refuses limit left (q ∷ qs) → is q text → length text ≤ left → Refuses limit (left - length text) qs
    unfolding IsFirstOf
    refuses_behind limit left qs q text refuses line within = λ w h. refuses w (inr (text, line, within, h))

    refused_here : (limit left : ℕ) (qs : List Query) (q : Query) (w : W) → Refuses limit left (q ∷ qs) → so w left q → IsFirstOf is (so w) limit all
    unfolding IsFirstOf
    refused_here limit left qs q w refuses h = refuses w (inl h)

    pub refuses_more : (limit left : ℕ) (xs : List AskedQuery) (i : ℕ) (x : AskedQuery) (text : List ℕ) → i < length xs → x ≡ get_or xs i x →
        Refuses limit left (left_of xs i) × is (asked_seen x) text × (length text ≤ left) → Refuses limit (left - length text) (left_of xs (i + 1))
    refuses_more limit left xs i x text inside at h =
        refuses_behind limit left (left_of xs (i + 1)) (asked_seen x) text (subst (Refuses limit left) (next xs i x inside at) h.0) h.1 h.2

    pub refused_at : (limit left : ℕ) (xs : List AskedQuery) (i : ℕ) (x : AskedQuery) (w : W) → i < length xs → x ≡ get_or xs i x →
        Refuses limit left (left_of xs i) → so w left (asked_seen x) → IsFirstOf is (so w) limit all
    refused_at limit left xs i x w inside at refuses h =
        refused_here limit left (left_of xs (i + 1)) (asked_seen x) w (subst (Refuses limit left) (next xs i x inside at) refuses) h
