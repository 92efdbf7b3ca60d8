-- Several that are read one after another.
use Rattle.std.proofs.Common.{ℕ, zero, suc, ◌+◌, ◌<◌, List, [], ◌∷◌, ◌++◌, Ok, Err, drop, get_or, length, map, ◌≡◌, ◌∙◌, ap, append_assoc, arith, refl, sym}
use Rattle.std.proofs.lemmas.List.{drop_more, map-append}
use Rattle.capnp_words.specs.Reads.{Read}
use Rattle.riftcalico_core.specs.Reads.{Reads, at_word, each_word_read, joined_reads}

-- those that are read before
abbrev pub behind : {A : Type 0} → List A → Reads (List A) → Reads (List A)
behind xs (Ok ys) = Ok (xs ++ ys)
behind xs (Err at) = Err at

one_more : {A : Type 0} (xs : List A) (y : A) (r : Reads (List A)) → behind (xs ++ y ∷ []) r ≡ behind xs (joined_reads (Ok y) r)
one_more xs y (Ok ys) = ap Ok (append_assoc xs (y ∷ []) ys)
one_more xs y (Err at) = refl

-- the item at an index stands before what is left
pub item_from : {X : Type 0} (xs : List X) (i : ℕ) (x : X) → i < length xs → x ≡ get_or xs i x → drop i xs ≡ x ∷ drop (i + 1) xs
item_from xs i x inside is = drop_more xs i x inside ∙ ap (λ y. y ∷ drop (i + 1) xs) (sym is)

-- what stands at an index, and in a list that is made of each
item_at : {X : Type 0} (xs : List X) (i : ℕ) → i < length xs → (x : X) × (x ≡ get_or xs i x)
item_at [] i h = absurd (omega (arith, h))
item_at (x ∷ xs) zero h = (x, refl)
item_at (x ∷ xs) (suc i) h = item_at xs i (omega (arith, h))

item_made : {X Y : Type 0} (g : X → Y) (xs : List X) (i : ℕ) (x : X) (d : Y) → i < length xs → x ≡ get_or xs i x → g x ≡ get_or (map g xs) i d
item_made g [] i x d h e = absurd (omega (arith, h))
item_made g (y ∷ xs) zero x d h e = ap g e
item_made g (y ∷ xs) (suc i) x d h e = item_made g xs i x d (omega (arith, h)) e

module _ {A B C D : Type 0} (f : A → Read B) (g : C → A) (h : D → B) where
  -- one that is read goes to those before
  pub goes_on : (xs : List C) (i : ℕ) (x : C) (before : List D) (y : D) → i < length xs → x ≡ get_or xs i x → Ok (h y) ≡ f (g x) →
      behind (map h (before ++ y ∷ [])) (each_word_read f (i + 1) (map g (drop (i + 1) xs))) ≡ behind (map h before) (each_word_read f i (map g (drop i xs)))
  goes_on xs i x before y inside is read =
      ap (λ (n : ℕ). behind (map h (before ++ y ∷ [])) (each_word_read f n (map g (drop (i + 1) xs)))) number
      ∙ (ap (λ (ys : List B). behind ys (each_word_read f (suc i) (map g (drop (i + 1) xs)))) (map-append h before (y ∷ []))
      ∙ (one_more (map h before) (h y) (each_word_read f (suc i) (map g (drop (i + 1) xs)))
      ∙ (ap (λ (r : Read B). behind (map h before) (joined_reads (at_word i r) (each_word_read f (suc i) (map g (drop (i + 1) xs))))) read
      ∙ sym (ap (λ (ys : List C). behind (map h before) (each_word_read f i (map g ys))) (item_from xs i x inside is)))))
    where
      number : i + 1 ≡ suc i
      number = omega arith

  -- the same of one that is known by what is read of it
  pub goes_on_at : (xs : List C) (i : ℕ) (d text : A) (before : List D) (y : D) → i < length xs → text ≡ get_or (map g xs) i d → Ok (h y) ≡ f text →
      behind (map h (before ++ y ∷ [])) (each_word_read f (i + 1) (map g (drop (i + 1) xs))) ≡ behind (map h before) (each_word_read f i (map g (drop i xs)))
  goes_on_at xs i d text before y inside is read =
      let x = item_at xs i inside in goes_on xs i x.0 before y inside x.1 (read ∙ ap f (is ∙ sym (item_made g xs i x.0 d inside x.1)))

  -- the first that can't be read stops all
  pub stops_at : (xs : List C) (i : ℕ) (d text : A) (before : List D) (place : ℕ) → i < length xs → text ≡ get_or (map g xs) i d → Err place ≡ f text →
      Err (i, place) ≡ behind (map h before) (each_word_read f i (map g (drop i xs)))
  stops_at xs i d text before place inside is read =
      let x = item_at xs i inside in
      ap (λ (r : Read B). behind (map h before) (joined_reads (at_word i r) (each_word_read f (suc i) (map g (drop (i + 1) xs)))))
      (read ∙ ap f (is ∙ sym (item_made g xs i x.0 d inside x.1)))
      ∙ sym (ap (λ (ys : List C). behind (map h before) (each_word_read f i (map g ys))) (item_from xs i x.0 inside x.1))
