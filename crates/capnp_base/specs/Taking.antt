-- what answers items by their indices, and iterators over it: an iterator is its source and the list of the indices still to come
use Rattle.std.specs.Prelude.{◌≡◌, ℕ, ◌-◌, ◌≤◌, List, [], ◌∷◌, ◌++◌, length, drop, Option, Some, MatchOption}
use Rattle.std.specs.List.{AllZip, range_with_len}
use Rattle.std.specs.Iterator.{Drains, Yields}

-- the indices from one on, below a size
unfoldable pub indices : ℕ → ℕ → List ℕ
indices index size = range_with_len index (size - index)

module _ {S A L : Type 0} (source : S → L) (to_come : S → List ℕ) (answers : L → ℕ → A → Type 0) where
  -- a call of `next` took the first index still to come and gave its item, or gave none where no index is left, and changed nothing
  abbrev pub TakesFirst : S → Option A → S → Type 0
  TakesFirst s r t = MatchOption r ((to_come s ≡ []) × (t ≡ s))
      (λ x. (i : ℕ) × (to_come s ≡ i ∷ to_come t) × answers (source s) i x × (source t ≡ source s))

  -- the same of `next_back`, from the end
  abbrev pub TakesLast : S → Option A → S → Type 0
  TakesLast s r t = MatchOption r ((to_come s ≡ []) × (t ≡ s))
      (λ x. (i : ℕ) × (to_come s ≡ to_come t ++ i ∷ []) × answers (source s) i x × (source t ≡ source s))

  -- a call of `nth` dropped n indices and took the first, or gave none where at most n were left, and left none
  abbrev pub TakesNth : ℕ → S → Option A → S → Type 0
  TakesNth n s r t = (source t ≡ source s) × MatchOption r ((length (to_come s) ≤ n) × (to_come t ≡ []))
      (λ x. (i : ℕ) × (drop n (to_come s) ≡ i ∷ to_come t) × answers (source s) i x)

  -- calls of `next` and `next_back` in any order led from s to t: `next` gave xs, and `next_back` gave ys, the first of them last in the list
  pub data TakesFromEnds : S → List A → List A → S → Type 0 where
    taken_none : (s : S) → TakesFromEnds s [] [] s
    taken_first : (s u t : S) (x : A) (xs ys : List A) → TakesFirst s (Some x) u → TakesFromEnds u xs ys t → TakesFromEnds s (x ∷ xs) ys t
    taken_last : (s u t : S) (y : A) (xs ys : List A) → TakesLast s (Some y) u → TakesFromEnds u xs ys t → TakesFromEnds s xs (ys ++ y ∷ []) t

  -- ---- laws ----

  -- what calls of `next` gave are the items of the first indices to come, one for each, in order, and the other indices are left
  abbrev pub GivesInOrder : S → Type 0
  GivesInOrder s = (t : S) (xs : List A) → Yields TakesFirst s xs t
      → (is : List ℕ) × (to_come s ≡ is ++ to_come t) × AllZip (answers (source s)) is xs × (source t ≡ source s)

  -- what calls of `next` gave up to the first none are the items of all indices to come, one for each, in order
  abbrev pub GivesAll : S → Type 0
  GivesAll s = (xs : List A) → Drains TakesFirst s xs → AllZip (answers (source s)) (to_come s) xs

  -- calls from both ends gave the items of the first and of the last indices to come, each once, and what lies between is left
  abbrev pub GivesEachOnce : S → Type 0
  GivesEachOnce s = (t : S) (xs ys : List A) → TakesFromEnds s xs ys t
      → (is js : List ℕ) × (to_come s ≡ is ++ to_come t ++ js) × AllZip (answers (source s)) is xs × AllZip (answers (source s)) js ys × (source t ≡ source s)
