-- runs of what takes the indices still to come from its ends
use Rattle.std.proofs.Common.{◌≡◌, ℕ, List, [], ◌∷◌, ◌++◌, length, drop, Option, Some, None, refl, sym, ap, subst, ◌∙◌, arith}
use Rattle.std.specs.List.{AllZip}
use Rattle.std.specs.Iterator.{SkipsThenYields}
use Rattle.std.proofs.lemmas.List.{append-nil, append_assoc}
use Rattle.std.proofs.lemmas.Slice.Zip.{AllZip-long}
use Rattle.std.proofs.Math.Seq.{drop-append_seam}
use Rattle.capnp_base.specs.Taking.{TakesFirst, TakesNth, taken_none, taken_first, taken_last, GivesInOrder, GivesAll, GivesEachOnce}

-- one more pair at the end
AllZip_push : {A B : Type 0} (R : A → B → Type 0) (xs : List A) (ys : List B) (x : A) (y : B)
    → AllZip R xs ys → R x y → AllZip R (xs ++ x ∷ []) (ys ++ y ∷ [])
AllZip_push R [] [] x y h r = (r, tt)
AllZip_push R [] (b ∷ ys) x y h r = absurd h
AllZip_push R (a ∷ xs) [] x y h r = absurd h
AllZip_push R (a ∷ xs) (b ∷ ys) x y h r = (h.0, AllZip_push R xs ys x y h.1 r)

module _ {S A L : Type 0} (source : S → L) (to_come : S → List ℕ) (answers : L → ℕ → A → Type 0) where
  pub gives_in_order : (s : S) → GivesInOrder source to_come answers s
  gives_in_order s t [] e = ([], ap to_come e, tt, ap source (sym e))
  gives_in_order s t (x ∷ xs) (j, h, r) =
      let b = gives_in_order j t xs r in
      let P : L → Type 0 = λ l. AllZip (answers l) b.0 xs in
      (h.0 ∷ b.0, h.1 ∙ ap (λ l. h.0 ∷ l) b.1, (h.2, subst P h.3 b.2), b.3 ∙ h.3)

  pub gives_all : (s : S) → GivesAll source to_come answers s
  gives_all s xs (u, (t, y, h)) =
      let b = gives_in_order s t xs y in
      let e : to_come s ≡ b.0 = b.1 ∙ ap (λ l. b.0 ++ l) h.0 ∙ append-nil b.0 in
      let P : List ℕ → Type 0 = λ l. AllZip (answers (source s)) l xs in
      subst P (sym e) b.2

  pub gives_each_once : (s : S) → GivesEachOnce source to_come answers s
  gives_each_once s t xs ys (taken_none u) = ([], [], sym (append-nil (to_come u)), tt, tt, refl)
  gives_each_once s t xs ys (taken_first s' u t' x xs' ys' h r) =
      let b = gives_each_once u t' xs' ys' r in
      let P : L → Type 0 = λ l. AllZip (answers l) b.0 xs' in
      let Q : L → Type 0 = λ l. AllZip (answers l) b.1 ys' in
      (h.0 ∷ b.0, b.1, h.1 ∙ ap (λ l. h.0 ∷ l) b.2, (h.2, subst P h.3 b.3), subst Q h.3 b.4, b.5 ∙ h.3)
  gives_each_once s t xs ys (taken_last s' u t' y xs' ys' h r) =
      let b = gives_each_once u t' xs' ys' r in
      let P : L → Type 0 = λ l. AllZip (answers l) b.0 xs' in
      let Q : L → Type 0 = λ l. AllZip (answers l) b.1 ys' in (
        b.0,
        b.1 ++ h.0 ∷ [],
        h.1 ∙ ap (λ l. l ++ h.0 ∷ []) b.2 ∙ append_assoc (b.0 ++ to_come t') b.1 (h.0 ∷ []),
        subst P h.3 b.3,
        AllZip_push (answers (source s')) b.1 ys' h.0 y (subst Q h.3 b.4) h.2,
        b.5 ∙ h.3,
      )

  -- what `nth` of std says of such calls
  pub nth_along : (n : ℕ) (s : S) (r : Option A) (u : S) → SkipsThenYields (TakesFirst source to_come answers) s n r u
      → TakesNth source to_come answers n s r u
  nth_along n s None u (xs, (t, y, h), m) =
      let b = gives_in_order s t xs y in
      let e : to_come s ≡ b.0 = b.1 ∙ ap (λ l. b.0 ++ l) h.0 ∙ append-nil b.0 in
      let l : length b.0 ≡ length xs = sym (AllZip-long (answers (source s)) b.0 xs b.2) in
      (ap source h.1 ∙ b.3, (omega (arith, ap length e, l, m), ap to_come h.1 ∙ h.0))
  nth_along n s (Some x) u (xs, (t, y, h), m) =
      let b = gives_in_order s t xs y in
      let l : length b.0 ≡ n = sym (AllZip-long (answers (source s)) b.0 xs b.2) ∙ m in
      let d : drop n (to_come s) ≡ to_come t = ap (λ k. drop k (to_come s)) (sym l) ∙ ap (drop (length b.0)) b.1 ∙ drop-append_seam b.0 (to_come t) in
      let P : L → Type 0 = λ k. answers k h.0 x in
      (h.3 ∙ b.3, (h.0, d ∙ h.1, subst P b.3 h.2))
