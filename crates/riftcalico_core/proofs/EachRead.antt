-- Several that are read one after another, where what is read is a relation.
use Rattle.std.proofs.Common.{ℕ, suc, ◌+◌, ◌<◌, List, [], ◌∷◌, ◌++◌, Ok, Err, drop, get_or, length, map, ◌≡◌, ◌∙◌, ap, append_assoc, append-nil, arith, subst, sym}
use Rattle.std.proofs.lemmas.List.{map-append}
use Rattle.capnp_words.specs.Reads.{Read}
use Rattle.riftcalico_core.specs.Reads.{AreRead, Reads}
use Rattle.riftcalico_core.specs.Reads as are
use Rattle.riftcalico_core.proofs.Each.{behind, item_from}

module _ {A B C D : Type 0} (is : A → Read B → Type 0) (g : C → A) (h : D → B) where
  -- whatever is read of those that are left stands behind those before
  abbrev pub Goes : (all xs : List C) (i : ℕ) (before : List D) → Type 0
  Goes all xs i before = (r : Reads (List B)) → AreRead is i (map g xs) r → AreRead is 0 (map g all) (behind (map h before) r)

  pub begins : (all : List C) → Goes all all 0 []
  begins all (Ok ys) read = read
  begins all (Err at) read = read

  -- what is left begins with the item at its index
  left_is : (all : List C) (i : ℕ) (x : C) (r : Reads (List B)) → i < length all → x ≡ get_or all i x → AreRead is i (g x ∷ map g (drop (i + 1) all)) r → AreRead is i (map g (drop i all)) r
  left_is all i x r inside at read = subst (λ (xs : List C). AreRead is i (map g xs) r) (sym (item_from all i x inside at)) read

  number : (i : ℕ) → i + 1 ≡ suc i
  number i = omega arith

  pub goes_on : (all : List C) (i : ℕ) (x : C) (before : List D) (y : D) → i < length all → x ≡ get_or all i x → is (g x) (Ok (h y)) → Goes all (drop i all) i before
      → Goes all (drop (i + 1) all) (i + 1) (before ++ y ∷ [])
  goes_on all i x before y inside at one goes (Ok ys) read =
      subst (λ (zs : List B). AreRead is 0 (map g all) (Ok zs)) (sym (ap (λ (zs : List B). zs ++ ys) (map-append h before (y ∷ [])) ∙ append_assoc (map h before) (h y ∷ []) ys))
      (goes (Ok (h y ∷ ys)) (left_is all i x (Ok (h y ∷ ys)) inside at
      (are.more i (g x) (map g (drop (i + 1) all)) (h y) ys one (subst (λ (n : ℕ). AreRead is n (map g (drop (i + 1) all)) (Ok ys)) (number i) read))))
  goes_on all i x before y inside at one goes (Err place) read =
      goes (Err place) (left_is all i x (Err place) inside at
      (are.later i (g x) (map g (drop (i + 1) all)) (h y) place one (subst (λ (n : ℕ). AreRead is n (map g (drop (i + 1) all)) (Err place)) (number i) read)))

  -- the first that can't be read stops all
  pub stops : (all : List C) (i : ℕ) (x : C) (before : List D) (place : ℕ) → i < length all → x ≡ get_or all i x → is (g x) (Err place) → Goes all (drop i all) i before
      → AreRead is 0 (map g all) (Err (i, place))
  stops all i x before place inside at one goes = goes (Err (i, place)) (left_is all i x (Err (i, place)) inside at (are.first i (g x) (map g (drop (i + 1) all)) place one))

  -- and where none is left all are read
  pub ends : (all xs : List C) (i : ℕ) (before : List D) → xs ≡ [] → Goes all xs i before → AreRead is 0 (map g all) (Ok (map h before))
  ends all xs i before none goes =
      subst (λ (zs : List B). AreRead is 0 (map g all) (Ok zs)) (append-nil (map h before))
      (goes (Ok []) (subst (λ (ys : List C). AreRead is i (map g ys) (Ok [])) (sym none) (are.none i)))
