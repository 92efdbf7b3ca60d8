-- the indices from one on, below a size, and what takes them from either end
use Rattle.std.proofs.Common.{◌≡◌, ℕ, zero, suc, ◌+◌, ◌-◌, ◌<◌, ◌≤◌, List, [], ◌∷◌, ◌++◌, length, get_or, Option, Some, None, ap, ◌∙◌, arith}
use Rattle.std.specs.Prelude.{⊤, All}
use Rattle.std.specs.List.{range_with_len}
use Rattle.std.specs.Iterator.{MakesProgress, at_most}
use Rattle.std.proofs.lemmas.List.{length-append}
use Rattle.std.proofs.lemmas.List.FromFn.{length-range_with_len, get_or-range_with_len}
use Rattle.capnp_base.specs.Taking.{indices, TakesFirst, TakesLast}

pub count_of_indices : (i n : ℕ) → length (indices i n) ≡ n - i
unfolding indices
count_of_indices i n = length-range_with_len i (n - i)

-- one index more at the end of a run of numbers
range_with_len_last : (a n : ℕ) → range_with_len a (suc n) ≡ range_with_len a n ++ (a + n) ∷ []
range_with_len_last a zero = ap (λ k. k ∷ []) (omega arith)
range_with_len_last a (suc n) =
    let e : a + 1 + n ≡ a + suc n = omega arith in
    ap (λ l. a ∷ l) (range_with_len_last (a + 1) n ∙ ap (λ k. range_with_len (a + 1) n ++ k ∷ []) e)

pub indices_none : (i n : ℕ) → n ≤ i → indices i n ≡ []
unfolding indices
indices_none i n h =
    let e : n - i ≡ 0 = omega (arith, h) in
    ap (range_with_len i) e

pub indices_first : (i n : ℕ) → i < n → indices i n ≡ i ∷ indices (i + 1) n
unfolding indices
indices_first i n h =
    let e : n - i ≡ suc (n - (i + 1)) = omega (arith, h) in
    ap (range_with_len i) e

pub indices_last : (i n m : ℕ) → i < n → m + 1 ≡ n → indices i n ≡ indices i m ++ m ∷ []
unfolding indices
indices_last i n m h e =
    let d : n - i ≡ suc (m - i) = omega (arith, h, e) in
    let f : i + (m - i) ≡ m = omega (arith, h, e) in
    ap (range_with_len i) d ∙ range_with_len_last i (m - i) ∙ ap (λ k. range_with_len i (m - i) ++ k ∷ []) f

module _ {S A L : Type 0} (source : S → L) (to_come : S → List ℕ) (answers : L → ℕ → A → Type 0) where
  -- what takes the first index leaves one less
  pub progress_first : (s : S) (r : Option A) (t : S) → TakesFirst source to_come answers s r t
      → MakesProgress (λ _. ⊤) (λ u. at_most (length (to_come u))) s r t
  progress_first s None t h = record { on = λ _. tt; keeps = tt; rests = λ _. tt }
  progress_first s (Some x) t h =
      let e : length (to_come s) ≡ suc (length (to_come t)) = ap length h.1 in
      record { on = λ _. (tt, tt, omega (arith, e)); keeps = tt; rests = λ _. tt }

  -- so does what takes the last one
  pub progress_last : (s : S) (r : Option A) (t : S) → TakesLast source to_come answers s r t
      → MakesProgress (λ _. ⊤) (λ u. at_most (length (to_come u))) s r t
  progress_last s None t h = record { on = λ _. tt; keeps = tt; rests = λ _. tt }
  progress_last s (Some x) t h =
      let e = ap length h.1 ∙ length-append (to_come t) (h.0 ∷ []) in
      record { on = λ _. (tt, tt, omega (arith, e)); keeps = tt; rests = λ _. tt }

-- the indices are below any number that their size is not above
pub indices_below : (i n m : ℕ) → n ≤ m → All (λ k. k < m) (indices i n)
unfolding indices
indices_below i n m h k d b =
    let l : length (range_with_len i (n - i)) ≡ n - i = length-range_with_len i (n - i) in
    let b' : k < n - i = omega (arith, b, l) in
    let e : get_or (range_with_len i (n - i)) k d ≡ i + k = get_or-range_with_len i (n - i) k d b' in
    omega (arith, e, b', h)
