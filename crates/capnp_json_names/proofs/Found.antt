-- What labels stand at, index by index.
use Rattle.std.proofs.Common.{◌≡◌, ℕ, zero, suc, ◌+◌, ◌<◌, ◌≤◌, ◌==◌, ◌&&◌, not, Bool, true, false, cond, bytes_eq, List, [], ◌∷◌, length, get_or, map, slice_get, Option, Some, None, refl, sym, ◌∙◌, ap, below_more, arith}
use Rattle.std.specs.Option.{option_map}
use Rattle.std.proofs.lemmas.List.{length-map}
use Rattle.capnp_json_names.specs.Labels.{Label}
use Rattle.capnp_json_names.specs.Meetings.{other_at, other_of, pair_at, pair_of}
use Rattle.capnp_json_names.proofs.First.{none_first, some_first}
use Rattle.capnp_json_names.proofs.Pairs.{inside}

-- what an entry of a list stands for
pub seen_get : {A B C : Type 0} (f : A → B) (g : B → C) (xs : List A) (i : ℕ) (x : A) → i < length xs → x ≡ get_or xs i x → slice_get (map g (map f xs)) i ≡ Some (g (f x))
seen_get f g [] i x below is = absurd (omega arith)
seen_get f g (y ∷ ys) zero x below is = ap (λ z. Some (g (f z))) (sym is)
seen_get f g (y ∷ ys) (suc i) x below is = seen_get f g ys i x (omega arith) is

pub seen_one : {A B : Type 0} (f : A → B) (xs : List A) (i : ℕ) (x : A) → i < length xs → x ≡ get_or xs i x → slice_get (map f xs) i ≡ Some (f x)
seen_one f [] i x below is = absurd (omega arith)
seen_one f (y ∷ ys) zero x below is = ap (λ z. Some (f z)) (sym is)
seen_one f (y ∷ ys) (suc i) x below is = seen_one f ys i x (omega arith) is

-- a label is another of the name, or not
pub other_here : (labels : List Label) (i : ℕ) (name : List ℕ) (j : ℕ) (x : Label) (q : Bool) → slice_get labels j ≡ Some x → q ≡ (not (j == i) && bytes_eq x.name name) → q ≡ true → other_at i name j (slice_get labels j) ≡ Some j
other_here labels i name j x q there e met = ap (other_at i name j) there ∙ ap (λ b. cond b (Some j) None) (sym e ∙ met)

pub other_not : (labels : List Label) (i : ℕ) (name : List ℕ) (j : ℕ) (x : Label) (q : Bool) → slice_get labels j ≡ Some x → q ≡ (not (j == i) && bytes_eq x.name name) → q ≡ false → other_at i name j (slice_get labels j) ≡ None
other_not labels i name j x q there e met = ap (other_at i name j) there ∙ ap (λ b. cond b (Some j) None) (sym e ∙ met)

-- ---- another of the name ----

pub other_found : (labels : List Label) (i : ℕ) (name : List ℕ) (j : ℕ) (x : Label) (q : Bool) → slice_get labels j ≡ Some x → q ≡ (not (j == i) && bytes_eq x.name name) → q ≡ true
    → ((k : ℕ) → k < j → other_at i name k (slice_get labels k) ≡ None) → Some j ≡ other_of labels i name
other_found labels i name j x q there e met before =
    sym (some_first (λ k. other_at i name k (slice_get labels k)) (length labels) j j (inside labels j x there) (other_here labels i name j x q there e met) before)

pub other_passed : (labels : List Label) (i : ℕ) (name : List ℕ) (j : ℕ) (x : Label) (q : Bool) → slice_get labels j ≡ Some x → q ≡ (not (j == i) && bytes_eq x.name name) → q ≡ false
    → ((k : ℕ) → k < j → other_at i name k (slice_get labels k) ≡ None) → (k : ℕ) → k < j + 1 → other_at i name k (slice_get labels k) ≡ None
other_passed labels i name j x q there e met before =
    let P : ℕ → Type 0 = λ k. other_at i name k (slice_get labels k) ≡ None in
    below_more P j before (other_not labels i name j x q there e met)

pub no_other_left : (labels : List Label) (i : ℕ) (name : List ℕ) (j : ℕ) → length labels ≤ j → ((k : ℕ) → k < j → other_at i name k (slice_get labels k) ≡ None) → None ≡ other_of labels i name
no_other_left labels i name j past before = sym (none_first (λ k. other_at i name k (slice_get labels k)) (length labels) (λ k below. before k (omega arith)))

-- ---- a pair ----

pub pair_found : (labels : List Label) (j : ℕ) (x : Label) (p : ℕ × ℕ) (found : Option (ℕ × ℕ)) → slice_get labels j ≡ Some x → found ≡ pair_at labels j (Some x) → found ≡ Some p
    → ((k : ℕ) → k < j → pair_at labels k (slice_get labels k) ≡ None) → Some p ≡ pair_of labels
pair_found labels j x p found there e met before =
    sym (some_first (λ k. pair_at labels k (slice_get labels k)) (length labels) j p (inside labels j x there) (ap (pair_at labels j) there ∙ (sym e ∙ met)) before)

pub pair_passed : (labels : List Label) (j : ℕ) (x : Label) (found : Option (ℕ × ℕ)) → slice_get labels j ≡ Some x → found ≡ pair_at labels j (Some x) → found ≡ None
    → ((k : ℕ) → k < j → pair_at labels k (slice_get labels k) ≡ None) → (k : ℕ) → k < j + 1 → pair_at labels k (slice_get labels k) ≡ None
pair_passed labels j x found there e met before =
    let P : ℕ → Type 0 = λ k. pair_at labels k (slice_get labels k) ≡ None in
    below_more P j before (ap (pair_at labels j) there ∙ (sym e ∙ met))

pub no_pair_left : (labels : List Label) (j : ℕ) → length labels ≤ j → ((k : ℕ) → k < j → pair_at labels k (slice_get labels k) ≡ None) → None ≡ pair_of labels
no_pair_left labels j past before = sym (none_first (λ k. pair_at labels k (slice_get labels k)) (length labels) (λ k below. before k (omega arith)))

pub seen_length : {A B C : Type 0} (f : A → B) (g : B → C) (xs : List A) (j : ℕ) → length xs ≤ j → length (map g (map f xs)) ≤ j
seen_length f g xs j past = let e = length-map (map f xs) g ∙ length-map xs f in omega arith

pub mapped_get : {A B : Type 0} (f : A → B) (xs : List A) (i : ℕ) → slice_get (map f xs) i ≡ option_map f (slice_get xs i)
mapped_get f [] zero = refl
mapped_get f [] (suc i) = refl
mapped_get f (x ∷ xs) zero = refl
mapped_get f (x ∷ xs) (suc i) = mapped_get f xs i
