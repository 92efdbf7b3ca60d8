-- What can be decided, and searches below a bound.
use Rattle.std.proofs.Common.{ℕ, zero, suc, refl, ◌≡◌, ◌⊎◌, inl, inr, ⊎_elim, ◌<◌, ◌≤◌, Bool, true, false, sym, subst, arith}
use Rattle.std.proofs.lemmas.Bool.{cases_eq, cases_lt, true≢false}

abbrev pub Decided : Type 0 → Type 0
Decided A = A ⊎ (A → ⊥)

pub decided_not : {A : Type 0} → Decided A → Decided (A → ⊥)
decided_not (inl a) = inr (λ never. never a)
decided_not (inr never) = inl never

pub decided_both : {A B : Type 0} → Decided A → Decided B → Decided (A × B)
decided_both (inl a) (inl b) = inl (a, b)
decided_both (inl a) (inr never) = inr (λ h. never h.1)
decided_both (inr never) b = inr (λ h. never h.0)

pub decided_either : {A B : Type 0} → Decided A → Decided B → Decided (A ⊎ B)
decided_either (inl a) b = inl (inl a)
decided_either (inr never) (inl b) = inl (inr b)
decided_either (inr never) (inr none) = inr (λ h. ⊎_elim never none h)

pub decided_where : {A B : Type 0} → Decided A → Decided B → Decided (A → B)
decided_where (inr never) b = inl (λ a. absurd (never a))
decided_where (inl a) (inl b) = inl (λ h. b)
decided_where (inl a) (inr never) = inr (λ h. never (h a))

pub decided_true : (q : Bool) → Decided (q ≡ true)
decided_true true = inl refl
decided_true false = inr (λ e. true≢false (sym e))

pub decided_below : (a b : ℕ) → Decided (a < b)
decided_below a b = ⊎_elim (λ (l : a < b). inl l) (λ (l : b ≤ a). inr (λ (m : a < b). omega arith)) (cases_lt a b)

-- all numbers below a bound are of a kind
abbrev pub Each : (P : ℕ → Type 0) → (bound : ℕ) → Type 0
Each P bound = (c : ℕ) → c < bound → P c

each_more : (P : ℕ → Type 0) (n : ℕ) → Decided (Each P n) → Decided (P n) → Decided (Each P (suc n))
each_more P n (inl h) (inl p) = inl (λ c l. ⊎_elim (λ e. subst P (sym e) p) (λ o. h c (omega arith)) (cases_eq c n))
each_more P n (inl h) (inr never) = inr (λ k. never (k n (omega arith)))
each_more P n (inr never) p = inr (λ k. never (λ c l. k c (omega arith)))

pub every : (P : ℕ → Type 0) → ((c : ℕ) → Decided (P c)) → (bound : ℕ) → Decided (Each P bound)
every P decide zero = inl (λ c l. absurd (omega arith))
every P decide (suc n) = each_more P n (every P decide n) (decide n)

-- a number of a kind, or that none below a bound is of it
abbrev pub Found : (P : ℕ → Type 0) → (bound : ℕ) → Type 0
Found P bound = ((n : ℕ) × P n) ⊎ Each (λ n. P n → ⊥) bound

found_more : (P : ℕ → Type 0) (n : ℕ) → Decided (P n) → Found P n → Found P (suc n)
found_more P n (inl p) others = inl (n, p)
found_more P n (inr never) (inl p) = inl p
found_more P n (inr never) (inr none) = inr (λ m l p. ⊎_elim (λ e. never (subst P e p)) (λ o. none m (omega arith) p) (cases_eq m n))

pub found : (P : ℕ → Type 0) → ((n : ℕ) → Decided (P n)) → (bound : ℕ) → Found P bound
found P decide zero = inr (λ n l p. absurd (omega arith))
found P decide (suc n) = found_more P n (decide n) (found P decide n)
