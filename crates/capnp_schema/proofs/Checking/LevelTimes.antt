-- The times of levels: bisection, and marks one after another.
use Rattle.std.proofs.Common.{ℕ, zero, suc, ◌≡◌, ◌+◌, ◌<◌, ◌≤◌, ⊎_elim, Bool, true, false, List, [], ◌∷◌, ◌++◌, length, get_or, arith, refl, sym, ap, ◌∙◌, Some, slice_get, ◌==◌, Result, Ok, Err, IfOk, Vec}
use Rattle.std.proofs.lemmas.Bool.{cases_lt}
use Rattle.std.proofs.lemmas.Bool.Decides.{nat_tests}
use Rattle.std.proofs.lemmas.Option.{slice_get_within, same_Some}
use Rattle.std.specs.declared.alloc.Global.{Global}
use Rattle.capnp_device.specs.declared.error.Error.{Error}
use Rattle.capnp_schema.specs.Footprint.{Spot, DataBit, PointerAt, is_in}
use Rattle.capnp_schema.specs.Steps.Checking.Spans.{span_names}
use Rattle.capnp_schema.specs.Steps.Checking.Levels.{AreOpen, AreClaimed, IsClaimed, mark_at}
use Rattle.capnp_schema.specs.declared.check.claims.Claims.{Claims}
use Rattle.capnp_schema.specs.declared.check.spans.Span.{Span}
use Rattle.capnp_schema.specs.declared.check.spans.Span.TheVariants.{Data, Pointer}
use Rattle.capnp_schema.specs.declared.check.claims.Level.{Level}

-- the non-union parts before low have ended, and the levels from high on have not started
pub record Bisected (levels : List Level) (time low high : ℕ) : Type 0 where
  pub before : (k : ℕ) (l : Level) → k < low → slice_get levels k ≡ Some l → l.non_union_end ≤ time
  pub after : (k : ℕ) (l : Level) → high ≤ k → slice_get levels k ≡ Some l → time < l.start
  pub ordered : low ≤ high
  pub within : high ≤ length levels

-- ---- a level above others ----

pub slice_get_push : {A : Type 0} (xs : List A) (y : A) (k : ℕ) → k < length xs → slice_get (xs ++ y ∷ []) k ≡ slice_get xs k
slice_get_push [] y k h = absurd (omega arith)
slice_get_push (x ∷ xs) y zero h = refl
slice_get_push (x ∷ xs) y (suc k) h = slice_get_push xs y k (omega arith)

pub slice_get_last : {A : Type 0} (xs : List A) (y : A) → slice_get (xs ++ y ∷ []) (length xs) ≡ Some y
slice_get_last [] y = refl
slice_get_last (x ∷ xs) y = slice_get_last xs y

pub slice_get_end : {A : Type 0} (xs : List A) (y z : A) (k : ℕ) → length xs ≤ k → slice_get (xs ++ y ∷ []) k ≡ Some z → (k ≡ length xs) × (y ≡ z)
slice_get_end [] y z zero h e = (refl, same_Some y z e)
slice_get_end [] y z (suc k) h e = cc
slice_get_end (x ∷ xs) y z zero h e = absurd (omega arith)
slice_get_end (x ∷ xs) y z (suc k) h e = let r = slice_get_end xs y z k (omega arith) e in (ap suc r.0, r.1)

pub pushed : {A : Type 0} (xs : List A) (y z : A) (k : ℕ) → slice_get xs k ≡ Some z → slice_get (xs ++ y ∷ []) k ≡ Some z
pushed xs y z k e = slice_get_push xs y k (slice_get_within xs k z e) ∙ e

-- ---- marks ----

-- the marks from first up to i are claimed
pub record ClaimedTo (levels : List Level) (now first i : ℕ) (old new : List ℕ) : Type 0 where
  pub inside : (k : ℕ) → first ≤ k → k < i → AreOpen levels (get_or old k 0) × (get_or new k 0 ≡ now)
  pub before : (k : ℕ) → k < first → get_or new k 0 ≡ get_or old k 0
  pub after : (k : ℕ) → i ≤ k → get_or new k 0 ≡ get_or old k 0

pub all_claimed : (levels : List Level) (now first count i : ℕ) (old new : List ℕ) → ClaimedTo levels now first i old new → first ≤ i → first + count ≤ i → i ≤ first + count → AreClaimed levels now first count old new
all_claimed levels now first count i old new c le end upto = record {
  inside = λ k from to. c.inside k from (omega arith);
  outside = λ k no. ⊎_elim
      (λ lt. c.before k lt)
      (λ from. c.after k (⊎_elim (λ inside. absurd (let yes : is_in first count k ≡ true = grind (arith, nat_tests) in cc)) (λ past. (omega arith)) (cases_lt k (first + count))))
      (cases_lt k first);
}

-- a mark past the end is 0
pub push_zero : (xs : List ℕ) (i : ℕ) → get_or (xs ++ 0 ∷ []) i 0 ≡ get_or xs i 0
push_zero [] zero = refl
push_zero [] (suc i) = refl
push_zero (x ∷ xs) zero = refl
push_zero (x ∷ xs) (suc i) = push_zero xs i

-- ---- spans ----

module _ (levels : List Level) (now : ℕ) (span : Span) where
  pub data_claimed : (first count : ℕ) (old : Claims) (bits : Vec ℕ Global) (r : Result Bool Error) → span ≡ Data first count → IfOk r (λ yes. yes ≡ true → AreClaimed levels now first count old.bits.items bits.items) → IfOk r (λ yes. yes ≡ true → IsClaimed levels now span old (record { bits = bits; pointers = old.pointers }))
  data_claimed first count old bits (Err e) is h = tt
  data_claimed first count old bits (Ok done) is h = λ e. record { inside = inside (h e); outside = outside (h e) }
    where
      new : Claims
      new = record { bits = bits; pointers = old.pointers }

      inside : AreClaimed levels now first count old.bits.items bits.items → (p : Spot) → span_names span p ≡ true → AreOpen levels (mark_at old p) × (mark_at new p ≡ now)
      inside c (DataBit i) named = let e : is_in first count i ≡ true = sym (ap (λ (s : Span). span_names s (DataBit i)) is) ∙ named in c.inside i (grind (arith, nat_tests)) (grind (arith, nat_tests))
      inside c (PointerAt i) named = absurd (let e : false ≡ true = sym (ap (λ (s : Span). span_names s (PointerAt i)) is) ∙ named in cc)

      outside : AreClaimed levels now first count old.bits.items bits.items → (p : Spot) → span_names span p ≡ false → mark_at new p ≡ mark_at old p
      outside c (DataBit i) named = c.outside i (sym (ap (λ (s : Span). span_names s (DataBit i)) is) ∙ named)
      outside c (PointerAt i) named = refl

  pub pointer_claimed : (number : ℕ) (old : Claims) (pointers : Vec ℕ Global) (r : Result Bool Error) → span ≡ Pointer number → IfOk r (λ yes. yes ≡ true → AreClaimed levels now number 1 old.pointers.items pointers.items) → IfOk r (λ yes. yes ≡ true → IsClaimed levels now span old (record { bits = old.bits; pointers = pointers }))
  pointer_claimed number old pointers (Err e) is h = tt
  pointer_claimed number old pointers (Ok done) is h = λ e. record { inside = inside (h e); outside = outside (h e) }
    where
      new : Claims
      new = record { bits = old.bits; pointers = pointers }

      inside : AreClaimed levels now number 1 old.pointers.items pointers.items → (p : Spot) → span_names span p ≡ true → AreOpen levels (mark_at old p) × (mark_at new p ≡ now)
      inside c (DataBit i) named = absurd (let e : false ≡ true = sym (ap (λ (s : Span). span_names s (DataBit i)) is) ∙ named in cc)
      inside c (PointerAt i) named = let e : (i == number) ≡ true = sym (ap (λ (s : Span). span_names s (PointerAt i)) is) ∙ named in c.inside i (grind (arith, nat_tests)) (grind (arith, nat_tests))

      outside : AreClaimed levels now number 1 old.pointers.items pointers.items → (p : Spot) → span_names span p ≡ false → mark_at new p ≡ mark_at old p
      outside c (DataBit i) named = refl
      outside c (PointerAt i) named = c.outside i (let e : (i == number) ≡ false = sym (ap (λ (s : Span). span_names s (PointerAt i)) is) ∙ named in grind (arith, nat_tests))
