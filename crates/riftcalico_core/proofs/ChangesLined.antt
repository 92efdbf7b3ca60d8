-- One line more of changes, or the first change that has none.
use Rattle.std.proofs.Common.{ℕ, ◌+◌, ◌-◌, ◌<◌, ◌≤◌, List, [], ◌∷◌, ◌++◌, drop, get_or, length, ap, append_assoc, inl, inr, refl, subst, sym, ◌≡◌, ◌∙◌}
use Rattle.std.proofs.lemmas.List.{append-nil}
use Rattle.capnp_diffs.specs.declared.change.Change.{Change as FoundChange}
use Rattle.riftcalico_core.specs.Lines.{AreLinesOf, IsFirstOf}
use Rattle.riftcalico_core.proofs.Each.{item_from}
use Rattle.riftcalico_core.proofs.Noted.{none_left}

module _ (is : FoundChange → List ℕ → Type 0) (all : List FoundChange) where
  -- with lines of the changes that are left behind them these are the lines of all
  abbrev pub Begins : List FoundChange → (lines : List ℕ) → Type 0
  Begins cs lines = (rest : List ℕ) → AreLinesOf is cs rest → AreLinesOf is all (lines ++ rest)

  one_more : (cs : List FoundChange) (c : FoundChange) (lines text : List ℕ) → Begins (c ∷ cs) lines → is c text → Begins cs (lines ++ (text ++ 10 ∷ []))
  unfolding AreLinesOf
  one_more cs c lines text begins line = λ rest are.
      let same : (lines ++ (text ++ 10 ∷ [])) ++ rest ≡ lines ++ (text ++ 10 ∷ rest) = append_assoc lines (text ++ 10 ∷ []) rest ∙ ap (λ (xs : List ℕ). lines ++ xs) (append_assoc text (10 ∷ []) rest) in
      subst (AreLinesOf is all) (sym same) (begins (text ++ 10 ∷ rest) (text, rest, line, are, refl))

  no_more : (cs : List FoundChange) (lines : List ℕ) → cs ≡ [] → Begins cs lines → AreLinesOf is all lines
  unfolding AreLinesOf
  no_more cs lines none begins = subst (AreLinesOf is all) (append-nil lines) (begins [] (subst (λ (ys : List FoundChange). AreLinesOf is ys []) (sym none) refl))

  pub begins_more : (xs : List FoundChange) (i : ℕ) (x : FoundChange) (lines text : List ℕ) → i < length xs → x ≡ get_or xs i x → Begins (drop i xs) lines →
      is x text → Begins (drop (i + 1) xs) (lines ++ (text ++ 10 ∷ []))
  begins_more xs i x lines text inside at begins h =
      one_more (drop (i + 1) xs) x lines text (subst (λ (cs : List FoundChange). Begins cs lines) (item_from xs i x inside at) begins) h

  pub all_lines : (xs : List FoundChange) (i : ℕ) (lines : List ℕ) → length xs ≤ i → Begins (drop i xs) lines → AreLinesOf is all lines
  all_lines xs i lines past begins = no_more (drop i xs) lines (none_left xs i past) begins

  module _ {W : Type 0} (so : W → ℕ → FoundChange → Type 0) where
    -- what refuses the changes that are left refuses all
    abbrev pub Refuses : (limit left : ℕ) → List FoundChange → Type 0
    Refuses limit left cs = (w : W) → IsFirstOf is (so w) left cs → IsFirstOf is (so w) limit all

    refuses_behind : (limit left : ℕ) (cs : List FoundChange) (c : FoundChange) (text : List ℕ) → Refuses limit left (c ∷ cs) → is c text → length text ≤ left → Refuses limit (left - length text) cs
    unfolding IsFirstOf
    refuses_behind limit left cs c text refuses line within = λ w h. refuses w (inr (text, line, within, h))

    refused_here : (limit left : ℕ) (cs : List FoundChange) (c : FoundChange) (w : W) → Refuses limit left (c ∷ cs) → so w left c → IsFirstOf is (so w) limit all
    unfolding IsFirstOf
    refused_here limit left cs c w refuses h = refuses w (inl h)

    pub refuses_more : (limit left : ℕ) (xs : List FoundChange) (i : ℕ) (x : FoundChange) (text : List ℕ) → i < length xs → x ≡ get_or xs i x →
        Refuses limit left (drop i xs) × is x text × (length text ≤ left) → Refuses limit (left - length text) (drop (i + 1) xs)
    refuses_more limit left xs i x text inside at h =
        refuses_behind limit left (drop (i + 1) xs) x text (subst (Refuses limit left) (item_from xs i x inside at) h.0) h.1 h.2

    pub refused_at : (limit left : ℕ) (xs : List FoundChange) (i : ℕ) (x : FoundChange) (w : W) → i < length xs → x ≡ get_or xs i x →
        Refuses limit left (drop i xs) → so w left x → IsFirstOf is (so w) limit all
    refused_at limit left xs i x w inside at refuses h =
        refused_here limit left (drop (i + 1) xs) x w (subst (Refuses limit left) (item_from xs i x inside at) refuses) h
