-- The indices that a walk over a list keeps.
use Rattle.std.proofs.Common.{suc, get_or, slice_get, Some, ◌≡◌, refl, ap, sym, ◌∙◌, ℕ, ◌+◌, ◌<◌, List, [], ◌∷◌, ◌++◌, Bool, true, false, drop, length, map, subst, arith}
use Rattle.std.specs.Option.{option_map}
use Rattle.std.proofs.Math.Seq.{drop-cons}
use Rattle.std.proofs.lemmas.Option.{slice_get-map, slice_get_within, slice_get-get_or, get_or_from_slice_get}
use Rattle.capnp_schema.specs.Query.{indices_from, keep_index}

rest : {A : Type 0} (passes : A → Bool) (xs : List A) (i : ℕ) (x : A) → slice_get xs i ≡ Some x → indices_from i passes (drop i xs) ≡ keep_index (passes x) i (indices_from (suc i) passes (drop (suc i) xs))
rest passes xs i x found =
    ap (indices_from i passes) (drop-cons xs i x (slice_get_within xs i x found))
    ∙ ap (λ y. keep_index (passes y) i (indices_from (suc i) passes (drop (suc i) xs))) (get_or_from_slice_get xs i x x found)

kept_first : (kept : Bool) (i : ℕ) (is : List ℕ) → keep_index kept i [] ++ is ≡ keep_index kept i is
kept_first true i is = refl
kept_first false i is = refl

joined : (xs ys zs : List ℕ) → (xs ++ ys) ++ zs ≡ xs ++ (ys ++ zs)
joined [] ys zs = refl
joined (x ∷ xs) ys zs = ap (λ w. x ∷ w) (joined xs ys zs)

step : {A : Type 0} (passes : A → Bool) (kept next whole : List ℕ) (xs : List A) (i : ℕ) (x : A) (b : Bool) → slice_get xs i ≡ Some x → b ≡ passes x →
    next ≡ kept ++ keep_index b i [] → kept ++ indices_from i passes (drop i xs) ≡ whole → next ++ indices_from (suc i) passes (drop (suc i) xs) ≡ whole
step passes kept next whole xs i x b found passed added so =
    ap (λ w. w ++ indices_from (suc i) passes (drop (suc i) xs)) added
    ∙ joined kept (keep_index b i []) (indices_from (suc i) passes (drop (suc i) xs))
    ∙ ap (λ w. kept ++ w) (kept_first b i (indices_from (suc i) passes (drop (suc i) xs)))
    ∙ ap (λ c. kept ++ keep_index c i (indices_from (suc i) passes (drop (suc i) xs))) passed
    ∙ ap (λ w. kept ++ w) (sym (rest passes xs i x found))
    ∙ so

-- a walk that has kept the indices before i, and what stands there
pub kept_next : {A : Type 0} (passes : A → Bool) (kept next whole : List ℕ) (xs : List A) (i : ℕ) (x : A) (b : Bool) → slice_get xs i ≡ Some x → b ≡ passes x →
    next ≡ kept ++ keep_index b i [] → kept ++ indices_from i passes (drop i xs) ≡ whole → next ++ indices_from (i + 1) passes (drop (i + 1) xs) ≡ whole
kept_next passes kept next whole xs i x b found passed added so =
    let after : suc i ≡ i + 1 = omega (arith) in
    subst (λ j. next ++ indices_from j passes (drop j xs) ≡ whole) after (step passes kept next whole xs i x b found passed added so)

-- what stands at an index of what a list is seen as
pub seen_at : {A B : Type 0} (f : A → B) (xs : List A) (i : ℕ) (x : A) → i < length xs → x ≡ get_or xs i x → slice_get (map f xs) i ≡ Some (f x)
seen_at f xs i x inside is = slice_get-map f xs i ∙ ap (option_map f) (slice_get-get_or xs i x inside ∙ ap Some (sym is))
