-- Two labels of one name.
use Rattle.std.proofs.Common.{◌≡◌, ◌≢◌, ℕ, zero, suc, ◌<◌, ◌≤◌, ◌⊎◌, ◌==◌, ◌&&◌, not, inl, inr, Bool, true, false, cond, bytes_eq, List, [], ◌∷◌, length, slice_get, Option, Some, None, refl, sym, ◌∙◌, ap, subst, arith}
use Rattle.std.specs.Option.{option_map}
use Rattle.std.proofs.lemmas.Bool.{cases_lt}
use Rattle.std.proofs.lemmas.Bool.Decides.{nat_tests}
use Rattle.std.proofs.lemmas.Slice.Eq.{bytes_eq-Decides}
use Rattle.capnp_json_names.specs.Labels.{AreApart, Label, Meet}
use Rattle.capnp_json_names.specs.Meetings.{other_at, other_of, pair_at, pair_if, pair_of}
use Rattle.capnp_json_names.proofs.First.{first_none, first_some}

-- an entry that is there stands below the count
pub inside : {A : Type 0} (xs : List A) (i : ℕ) (x : A) → slice_get xs i ≡ Some x → i < length xs
inside [] i x e = let no : ⊥ = cc in absurd no
inside (y ∷ ys) zero x e = omega arith
inside (y ∷ ys) (suc i) x e = omega (arith, inside ys i x e)

-- ---- another of that name ----

-- index j has the name, and is not i
pub record IsOther (labels : List Label) (i : ℕ) (name : List ℕ) (j : ℕ) : Type 0 where
  pub label : Label
  pub there : slice_get labels j ≡ Some label
  pub same : label.name ≡ name
  pub apart : j ≢ i

tested : (i : ℕ) (name : List ℕ) (j : ℕ) (x : Label) → x.name ≡ name → j ≢ i → other_at i name j (Some x) ≡ Some j
tested i name j x same apart =
    let e : bytes_eq x.name name ≡ true = (bytes_eq-Decides x.name name).1 same in
    let n : (j == i) ≡ false = grind (arith, nat_tests) in
    ap (λ b. cond (not b && bytes_eq x.name name) (Some j) None) n ∙ ap (λ b. cond b (Some j) None) e

by_tests : (i : ℕ) (name : List ℕ) (j k : ℕ) (x : Label) (a b : Bool) → cond (not a && b) (Some j) None ≡ Some k → (a ≡ false) × (b ≡ true) × (j ≡ k)
by_tests i name j k x true b e = let no : ⊥ = cc in absurd no
by_tests i name j k x false false e = let no : ⊥ = cc in absurd no
by_tests i name j k x false true e = (refl, refl, cc)

found_at : (labels : List Label) (i : ℕ) (name : List ℕ) (j k : ℕ) (o : Option Label) → slice_get labels j ≡ o → other_at i name j o ≡ Some k → IsOther labels i name j × (j ≡ k)
found_at labels i name j k None there e = let no : ⊥ = cc in absurd no
found_at labels i name j k (Some x) there e =
    let t = by_tests i name j k x (j == i) (bytes_eq x.name name) e in
    let apart : j ≢ i = grind (arith, nat_tests, t.0) in
    (record { label = x; there = there; same = (bytes_eq-Decides x.name name).0 t.1; apart = apart }, t.2)

pub none_other : (labels : List Label) (i : ℕ) (name : List ℕ) → other_of labels i name ≡ None → (j : ℕ) → IsOther labels i name j → ⊥
none_other labels i name e j m =
    let none = first_none (λ k. other_at i name k (slice_get labels k)) (length labels) e j (inside labels j m.label m.there) in
    let some = ap (other_at i name j) m.there ∙ tested i name j m.label m.same m.apart in
    cc

-- the first one is
pub record IsFirstOther (labels : List Label) (i : ℕ) (name : List ℕ) (j : ℕ) : Type 0 where
  pub is : IsOther labels i name j
  pub first : (k : ℕ) → IsOther labels i name k → j ≤ k

pub some_other : (labels : List Label) (i : ℕ) (name : List ℕ) (j : ℕ) → other_of labels i name ≡ Some j → IsFirstOther labels i name j
some_other labels i name j e =
    let f : ℕ → Option ℕ = λ k. other_at i name k (slice_get labels k) in
    let m = first_some f (length labels) j e in
    let found = found_at labels i name m.at j (slice_get labels m.at) refl m.is in
    record {
      is = subst (λ n. IsOther labels i name n) found.1 found.0;
      first = λ k other. elim (cases_lt k j) [
        | inl sooner ↦
            let none : other_at i name k (slice_get labels k) ≡ None = m.before k (omega (arith, found.1)) in
            let some = ap (other_at i name k) other.there ∙ tested i name k other.label other.same other.apart in
            let no : ⊥ = cc in absurd no
        | inr later ↦ later
      ];
    }

-- ---- one that an annotation names, and another of its name ----

met_other : (labels : List Label) (i j : ℕ) (m : Meet labels i j) → IsOther labels i m.first.name j
met_other labels i j m = record { label = m.second; there = m.at_second; same = sym m.same; apart = λ same. m.apart (sym same) }

pub mapped_none : {A B : Type 0} (f : A → B) (o : Option A) → option_map f o ≡ None → o ≡ None
mapped_none f None e = refl
mapped_none f (Some x) e = let no : ⊥ = cc in absurd no

none_at : (labels : List Label) (i j : ℕ) → pair_at labels i (slice_get labels i) ≡ None → Meet labels i j → ⊥
none_at labels i j e m =
    let step : pair_if m.first.is_given i (other_of labels i m.first.name) ≡ None = ap (pair_at labels i) (sym m.at_first) ∙ e in
    let given : pair_if true i (other_of labels i m.first.name) ≡ None = ap (λ b. pair_if b i (other_of labels i m.first.name)) (sym m.given) ∙ step in
    none_other labels i m.first.name (mapped_none (λ (k : ℕ). (i, k)) (other_of labels i m.first.name) given) j (met_other labels i j m)

pub none_meet : (labels : List Label) → pair_of labels ≡ None → AreApart labels
none_meet labels e i j m = none_at labels i j (first_none (λ k. pair_at labels k (slice_get labels k)) (length labels) e i (inside labels i m.first m.at_first)) m

-- a pair is of an index with an annotation, and the first other
pub record IsPairAt (labels : List Label) (i : ℕ) (p : ℕ × ℕ) : Type 0 where
  pub label : Label
  pub there : slice_get labels i ≡ Some label
  pub given : label.is_given ≡ true
  pub at : i ≡ p.0
  pub other : IsFirstOther labels i label.name p.1

by_other : (labels : List Label) (i : ℕ) (x : Label) (p : ℕ × ℕ) (o : Option ℕ) → other_of labels i x.name ≡ o → option_map (λ j. (i, j)) o ≡ Some p → (i ≡ p.0) × IsFirstOther labels i x.name p.1
by_other labels i x p None is e = let no : ⊥ = cc in absurd no
by_other labels i x p (Some j) is e =
    let same : (i, j) ≡ p = cc in
    (ap (λ (q : ℕ × ℕ). q.0) same, subst (λ n. IsFirstOther labels i x.name n) (ap (λ (q : ℕ × ℕ). q.1) same) (some_other labels i x.name j is))

by_given : (labels : List Label) (i : ℕ) (x : Label) (p : ℕ × ℕ) (given : Bool) → x.is_given ≡ given → slice_get labels i ≡ Some x → pair_if given i (other_of labels i x.name) ≡ Some p → IsPairAt labels i p
by_given labels i x p false is there e = let no : ⊥ = cc in absurd no
by_given labels i x p true is there e =
    let o = by_other labels i x p (other_of labels i x.name) refl e in
    record { label = x; there = there; given = is; at = o.0; other = o.1 }

pair_found : (labels : List Label) (i : ℕ) (p : ℕ × ℕ) (o : Option Label) → slice_get labels i ≡ o → pair_at labels i o ≡ Some p → IsPairAt labels i p
pair_found labels i p None there e = let no : ⊥ = cc in absurd no
pair_found labels i p (Some x) there e = by_given labels i x p x.is_given refl there e

-- by the first and then by the second
abbrev pub IsNoLaterPair : (i j k l : ℕ) → Type 0
IsNoLaterPair i j k l = (i < k) ⊎ ((i ≡ k) × (j ≤ l))

pub record IsFirstPair (labels : List Label) (i j : ℕ) : Type 0 where
  pub meet : Meet labels i j
  pub first : (k l : ℕ) → Meet labels k l → IsNoLaterPair i j k l

same_label : (labels : List Label) (i : ℕ) (x y : Label) → slice_get labels i ≡ Some x → slice_get labels i ≡ Some y → x ≡ y
same_label labels i x y e f = cc

met_first : (labels : List Label) (i : ℕ) (p : ℕ × ℕ) → IsPairAt labels i p → Meet labels i p.1
met_first labels i p m =
    let o = m.other.is in
    record { first = m.label; second = o.label; at_first = m.there; at_second = o.there; given = m.given; same = sym o.same; apart = λ same. o.apart (sym same) }

comes_first : (labels : List Label) (i : ℕ) (p : ℕ × ℕ) → IsPairAt labels i p → ((k : ℕ) → k < i → pair_at labels k (slice_get labels k) ≡ None) → (k l : ℕ) → Meet labels k l → IsNoLaterPair i p.1 k l
comes_first labels i p m before k l other = elim (cases_lt k i) [
  | inl sooner ↦ absurd (none_at labels k l (before k sooner) other)
  | inr later ↦ elim (cases_lt i k) [
    | inl much_later ↦ inl much_later
    | inr here ↦
        let same : k ≡ i = omega arith in
        let there : Meet labels i l = subst (λ n. Meet labels n l) same other in
        let one : there.first ≡ m.label = same_label labels i there.first m.label there.at_first m.there in
        inr (sym same, m.other.first l (subst (λ (x : Label). IsOther labels i x.name l) one (met_other labels i l there)))
  ]
]

pub first_pair : (labels : List Label) (p : ℕ × ℕ) → pair_of labels ≡ Some p → IsFirstPair labels p.0 p.1
first_pair labels p e =
    let m = first_some (λ k. pair_at labels k (slice_get labels k)) (length labels) p e in
    let found = pair_found labels m.at p (slice_get labels m.at) refl m.is in
    subst (λ n. IsFirstPair labels n p.1) found.at (record { meet = met_first labels m.at p found; first = comes_first labels m.at p found m.before })
