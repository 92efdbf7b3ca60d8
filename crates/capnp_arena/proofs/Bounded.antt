-- A tree has no more words than its segment: they are all apart.
use Rattle.std.proofs.Common.{None, Option, Some, ◌≡◌, ℕ, zero, suc, ◌+◌, ◌-◌, ◌*◌, ◌^◌, ◌<◌, ◌≤◌, ◌⊎◌, inl, inr, refl, sym, ap, subst, ◌∙◌, arith, Bool, true, false, List, [], ◌∷◌, length}
use Rattle.std.proofs.Math.Dec.{eqb, ltb}
use Rattle.std.proofs.lemmas.Bool.{cases_eq, eqb-true, lt-ltb, ltb-true, or_cases}
use Rattle.std.proofs.lemmas.Map.Steps.{length-le_from_distinct_below}
use Rattle.std.specs.List.{AllByRecursion, IsDistinct, list_any}
use Rattle.capnp_wire.specs.Locate.{list_words}
use Rattle.capnp_wire.specs.Tree.{StructTree, structs_from, trees_from}
use Rattle.capnp_wire.specs.Words.{words_below_all, words_of, words_of_all}
use Rattle.capnp_arena.specs.Steps.Counts.{IsCounted}
use Rattle.capnp_arena.specs.Facts.Calls.{planted, planted_inside}
use Rattle.capnp_arena.specs.Facts.Forests.{owned_after, owned_inside, points}
use Rattle.capnp_arena.specs.Facts.Shapes.{element_end, itself_inside}
use Rattle.capnp_arena.specs.Forest.{Below, Forest, Grown, Itself, Owns, Planted, struct_from, tree}
use Rattle.capnp_arena.specs.Shape.{CompositeIn, IsPointerOf, IsWordWithin, ListIn, NoShape, Points, Shape, StructIn, shape_at, word_count}
use Rattle.capnp_arena.proofs.Counted.{words_composite, words_list, words_null, words_pointers, words_struct}

-- ---- so many numbers, each another ----

record Counted (P : ℕ → Type 0) (n : ℕ) : Type 0 where
  at : ℕ → ℕ
  holds : (i : ℕ) → i < n → P (at i)
  apart : (i j : ℕ) → i < j → j < n → at i ≡ at j → ⊥

none : (P : ℕ → Type 0) → Counted P 0
none P = record { at = λ i. i; holds = λ i l. absurd (omega (arith, l)); apart = λ i j l m e. omega (arith, m) }

range : (P : ℕ → Type 0) (a n : ℕ) → ((k : ℕ) → a ≤ k → k < a + n → P k) → Counted P n
range P a n h = record { at = λ i. a + i; holds = λ i l. h (a + i) (omega arith) (omega (arith, l)); apart = λ i j l m e. omega (arith, l, e) }

abbrev choose : Bool → (ℕ → ℕ) → (ℕ → ℕ) → ℕ → ℕ → ℕ
choose true f g n i = f i
choose false f g n i = g (i - n)

order : (i n : ℕ) → (i < n) ⊎ (n ≤ i)
order i n = grind arith

not_below : (i n : ℕ) → n ≤ i → ltb i n ≡ false
not_below i n l = by_test (ltb i n) refl
  where
    by_test : (b : Bool) → ltb i n ≡ b → ltb i n ≡ false
    by_test true e = absurd (let m : i < n = ltb-true i n e in omega (arith, l, m))
    by_test false e = e

module _ (P Q R : ℕ → Type 0) (n m : ℕ) (c : Counted P n) (d : Counted Q m) (away : (k : ℕ) → P k → Q k → ⊥) (p : (k : ℕ) → P k → R k) (q : (k : ℕ) → Q k → R k) where
  abbrev both : ℕ → ℕ
  both i = choose (ltb i n) c.at d.at n i

  low : (i : ℕ) → i < n → both i ≡ c.at i
  low i l = ap (λ b. choose b c.at d.at n i) (lt-ltb i n l)

  high : (i : ℕ) → n ≤ i → both i ≡ d.at (i - n)
  high i l = ap (λ b. choose b c.at d.at n i) (not_below i n l)

  in_low : (i : ℕ) → i < n → P (both i)
  in_low i l = subst P (sym (low i l)) (c.holds i l)

  in_high : (i : ℕ) → n ≤ i → i < n + m → Q (both i)
  in_high i l h = subst Q (sym (high i l)) (d.holds (i - n) (omega (arith, l, h)))

  join : Counted R (n + m)
  join = record {
    at = both;
    holds = λ i h. elim (order i n) [ inl l ↦ p (both i) (in_low i l) | inr l ↦ q (both i) (in_high i l h) ];
    apart = λ i j l h e. elim (order j n) [
      | inl b ↦ let a : i < n = omega (arith, l, b) in c.apart i j l b (sym (low i a) ∙ e ∙ low j b)
      | inr b ↦ elim (order i n) [
        | inl a ↦ away (both i) (in_low i a) (subst Q (sym e) (in_high j b h))
        | inr a ↦ d.apart (i - n) (j - n) (omega (arith, a, b, l)) (omega (arith, b, h)) (sym (high i a) ∙ e ∙ high j b)
      ]
    ];
  }

-- ---- so many numbers below another one are at most that many ----

listed : (ℕ → ℕ) → ℕ → List ℕ
listed f zero = []
listed f (suc n) = f n ∷ listed f n

length_listed : (f : ℕ → ℕ) (n : ℕ) → length (listed f n) ≡ n
unfolding listed
length_listed f zero = refl
length_listed f (suc n) = ap suc (length_listed f n)

differs : (a b : ℕ) → (a ≡ b → ⊥) → eqb a b ≡ false
differs a b h = by_test (eqb a b) refl
  where
    by_test : (t : Bool) → eqb a b ≡ t → eqb a b ≡ false
    by_test true e = absurd (h (eqb-true a b e))
    by_test false e = e

unlike : (f : ℕ → ℕ) (x n : ℕ) → ((i : ℕ) → i < n → f i ≡ x → ⊥) → AllByRecursion (λ y. eqb x y ≡ false) (listed f n)
unfolding listed
unlike f x zero h = tt {0}
unlike f x (suc n) h = (differs x (f n) (λ e. h n (omega arith) (sym e)), unlike f x n (λ i l. h i (omega (arith, l))))

distinct : (f : ℕ → ℕ) (n : ℕ) → ((i j : ℕ) → i < j → j < n → f i ≡ f j → ⊥) → IsDistinct eqb (listed f n)
unfolding listed IsDistinct
distinct f zero h = tt {0}
distinct f (suc n) h = (unlike f (f n) n (λ i l e. h i n l (omega arith) e), distinct f n (λ i j l m. h i j l (omega (arith, m))))

in_listed : (f : ℕ → ℕ) (n top : ℕ) → ((i : ℕ) → i < n → f i < top) → (q : ℕ) → list_any (eqb q) (listed f n) ≡ true → q < top
unfolding listed
in_listed f zero top h q e = let no : false ≡ true = e in cc
in_listed f (suc n) top h q e = elim (or_cases (eqb q (f n)) (list_any (eqb q) (listed f n)) e) [
  | inl a ↦ let k : q ≡ f n = eqb-true q (f n) a in let l : f n < top = h n (omega arith) in omega (arith, k, l)
  | inr a ↦ in_listed f n top (λ i l. h i (omega (arith, l))) q a
]

at_most : (P : ℕ → Type 0) (n top : ℕ) → Counted P n → ((k : ℕ) → P k → k < top) → n ≤ top
at_most P n top c h =
    let l : length (listed c.at n) ≤ top = length-le_from_distinct_below (listed c.at n) top (distinct c.at n c.apart) (in_listed c.at n top (λ i m. h (c.at i) (c.holds i m))) in
    omega (arith, l, length_listed c.at n)

-- ---- the words of a tree ----

module _ (bytes : List ℕ) where
  abbrev RowOwns : ℕ → ℕ → ℕ → Type 0
  RowOwns first n k = (j : ℕ) × (first ≤ j) × (j < first + n) × Owns bytes j k

  row : (first n : ℕ) → ((j : ℕ) → first ≤ j → j < first + n → Counted (Owns bytes j) (words_of (tree bytes j)))
      → ((i j k : ℕ) → first ≤ i → i < first + n → first ≤ j → j < first + n → Owns bytes i k → Owns bytes j k → i ≡ j)
      → Counted (RowOwns first n) (words_of_all (trees_from (tree bytes) first n))
  row first zero c a = none (RowOwns first 0)
  row first (suc n) c a =
      join (Owns bytes first) (RowOwns (suc first) n) (RowOwns first (suc n)) (words_of (tree bytes first)) (words_of_all (trees_from (tree bytes) (suc first) n))
      (c first (omega arith) (omega arith))
      (row (suc first) n (λ j x y. c j (omega (arith, x)) (omega (arith, y))) (λ i j k x y z w. a i j k (omega (arith, x)) (omega (arith, y)) (omega (arith, z)) (omega (arith, w))))
      (λ k o r. let e : first ≡ r.0 = a first r.0 k (omega arith) (omega arith) (omega (arith, r.1)) (omega (arith, r.2)) o r.3 in omega (arith, e, r.1))
      (λ k o. (first, omega arith, omega arith, o))
      (λ k r. (r.0, omega (arith, r.1), omega (arith, r.2), r.3))

  abbrev ElementsOwn : ℕ → ℕ → ℕ → ℕ → ℕ → ℕ → Type 0
  ElementsOwn start d p i0 n k = (i : ℕ) × (i0 ≤ i) × (i < i0 + n) × RowOwns (start + i * (d + p) + d) p k

  abbrev element : ℕ → ℕ → ℕ → ℕ → StructTree
  element start d p i = struct_from bytes (start + i * (d + p)) d p

  elements : (start d p i0 n : ℕ) → ((i : ℕ) → i0 ≤ i → i < i0 + n → Counted (RowOwns (start + i * (d + p) + d) p) (words_of_all (trees_from (tree bytes) (start + i * (d + p) + d) p)))
      → ((i j k : ℕ) → i0 ≤ i → i < i0 + n → i0 ≤ j → j < i0 + n → RowOwns (start + i * (d + p) + d) p k → RowOwns (start + j * (d + p) + d) p k → i ≡ j)
      → Counted (ElementsOwn start d p i0 n) (words_below_all (structs_from (element start d p) i0 n))
  elements start d p i0 zero c a = none (ElementsOwn start d p i0 0)
  elements start d p i0 (suc n) c a =
      join (RowOwns (start + i0 * (d + p) + d) p) (ElementsOwn start d p (suc i0) n) (ElementsOwn start d p i0 (suc n)) (words_of_all (trees_from (tree bytes) (start + i0 * (d + p) + d) p)) (words_below_all (structs_from (element start d p) (suc i0) n))
      (c i0 (omega arith) (omega arith))
      (elements start d p (suc i0) n (λ j x y. c j (omega (arith, x)) (omega (arith, y))) (λ i j k x y z w. a i j k (omega (arith, x)) (omega (arith, y)) (omega (arith, z)) (omega (arith, w))))
      (λ k o r. let e : i0 ≡ r.0 = a i0 r.0 k (omega arith) (omega arith) (omega (arith, r.1)) (omega (arith, r.2)) o r.3 in omega (arith, e, r.1))
      (λ k o. (i0, omega arith, omega arith, o))
      (λ k r. (r.0, omega (arith, r.1), omega (arith, r.2), r.3))

-- two elements of a list that have a word in common are one
same_element : (t i j d p x : ℕ) → t + i * (d + p) + d ≤ x → x < t + i * (d + p) + d + p → t + j * (d + p) + d ≤ x → x < t + j * (d + p) + d + p → i ≡ j
same_element t i j d p x a b c e = elim (sort i j) [
  | inl l ↦ let m : i * (d + p) + (d + p) ≤ j * (d + p) = element_end i j (d + p) l in absurd (omega (arith, a, b, c, e, m))
  | inr r ↦ elim r [
    | inl q ↦ q
    | inr l ↦ let m : j * (d + p) + (d + p) ≤ i * (d + p) = element_end j i (d + p) l in absurd (omega (arith, a, b, c, e, m))
  ]
]
  where
    sort : (i j : ℕ) → (i < j) ⊎ ((i ≡ j) ⊎ (j < i))
    sort i j = grind arith

module _ (bytes : List ℕ) (w : ℕ) (f : Forest bytes w) (c : (j : ℕ) → IsPointerOf (shape_at bytes w) j → Counted (Owns bytes j) (words_of (tree bytes j))) where
  part : (s : Shape) → shape_at bytes w ≡ s → Planted bytes s
  part s e = subst (Planted bytes) e (planted bytes w f)

  itself : (s : Shape) → shape_at bytes w ≡ s → (k : ℕ) → IsWordWithin s k → Owns bytes w k
  itself s e k h = Itself w k (subst (λ z. IsWordWithin z k) (sym e) h)

  below : (s : Shape) → shape_at bytes w ≡ s → (j k : ℕ) → IsPointerOf s j → Owns bytes j k → Owns bytes w k
  below s e j k h o = Below w j k (subst (λ z. IsPointerOf z j) (sym e) h) o

  child_count : (s : Shape) → shape_at bytes w ≡ s → (j : ℕ) → IsPointerOf s j → Counted (Owns bytes j) (words_of (tree bytes j))
  child_count s e j h = c j (subst (λ z. IsPointerOf z j) (sym e) h)

  same_count : (n m : ℕ) → n ≡ m → Counted (Owns bytes w) m → Counted (Owns bytes w) n
  same_count n m e h = subst (Counted (Owns bytes w)) (sym e) h

  struct_count : (a d p : ℕ) → shape_at bytes w ≡ StructIn a d p → Counted (Owns bytes w) (words_of (tree bytes w))
  struct_count a d p e =
      let q : Planted bytes (StructIn a d p) = part (StructIn a d p) e in
      same_count (words_of (tree bytes w)) (d + p + words_of_all (trees_from (tree bytes) (a + d) p)) (words_struct bytes w f a d p e)
      (join (IsWordWithin (StructIn a d p)) (RowOwns bytes (a + d) p) (Owns bytes w) (d + p) (words_of_all (trees_from (tree bytes) (a + d) p))
      (range (IsWordWithin (StructIn a d p)) a (d + p) (λ k x y. (x, omega (arith, y))))
      (row bytes (a + d) p (λ j x y. child_count (StructIn a d p) e j (x, y)) (λ i j k x y z v o r. q.children_apart i j k (x, y) (z, v) o r))
      (λ k h r. q.child_apart r.0 k (r.1, r.2) r.3 h)
      (itself (StructIn a d p) e)
      (λ k r. below (StructIn a d p) e r.0 k (r.1, r.2) r.3))

  pointers_count : (a n : ℕ) → shape_at bytes w ≡ ListIn a 6 n → Counted (Owns bytes w) (words_of (tree bytes w))
  pointers_count a n e =
      let q : Planted bytes (ListIn a 6 n) = part (ListIn a 6 n) e in
      same_count (words_of (tree bytes w)) (n + words_of_all (trees_from (tree bytes) a n)) (words_pointers bytes w f a n e)
      (join (IsWordWithin (ListIn a 6 n)) (RowOwns bytes a n) (Owns bytes w) n (words_of_all (trees_from (tree bytes) a n))
      (range (IsWordWithin (ListIn a 6 n)) a n (λ k x y. (x, (let m : list_words 6 n ≡ n = omega arith in omega (arith, y, m)))))
      (row bytes a n (λ j x y. child_count (ListIn a 6 n) e j (refl, x, y)) (λ i j k x y z v o r. q.children_apart i j k (refl, x, y) (refl, z, v) o r))
      (λ k h r. q.child_apart r.0 k (refl, r.1, r.2) r.3 h)
      (itself (ListIn a 6 n) e)
      (λ k r. below (ListIn a 6 n) e r.0 k (refl, r.1, r.2) r.3))

  plain_count : (a size n : ℕ) → size < 6 → shape_at bytes w ≡ ListIn a size n → Counted (Owns bytes w) (words_of (tree bytes w))
  plain_count a size n l e =
      same_count (words_of (tree bytes w)) (list_words size n) (words_list bytes w f a size n l e)
      (range (Owns bytes w) a (list_words size n) (λ k x y. itself (ListIn a size n) e k (x, y)))

  list_count : (a size n : ℕ) → shape_at bytes w ≡ ListIn a size n → Counted (Owns bytes w) (words_of (tree bytes w))
  list_count a size n e = elim (cases_eq size 6) [
    | inl z ↦ pointers_count a n (e ∙ ap (λ k. ListIn a k n) z)
    | inr z ↦ plain_count a size n (let p : Points bytes w (ListIn a size n) = subst (Points bytes w) e (points bytes w f) in omega (arith, p.2, z)) e
  ]

  composite_count : (tag n d p : ℕ) → shape_at bytes w ≡ CompositeIn tag n d p → Counted (Owns bytes w) (words_of (tree bytes w))
  composite_count tag n d p e =
      let q : Planted bytes (CompositeIn tag n d p) = part (CompositeIn tag n d p) e in
      same_count (words_of (tree bytes w)) (1 + n * (d + p) + words_below_all (structs_from (λ i. struct_from bytes (tag + 1 + i * (d + p)) d p) 0 n)) (words_composite bytes w f tag n d p e)
      (join (IsWordWithin (CompositeIn tag n d p)) (ElementsOwn bytes (tag + 1) d p 0 n) (Owns bytes w) (1 + n * (d + p)) (words_below_all (structs_from (λ i. struct_from bytes (tag + 1 + i * (d + p)) d p) 0 n))
      (range (IsWordWithin (CompositeIn tag n d p)) tag (1 + n * (d + p)) (λ k x y. (x, omega (arith, y))))
      (elements bytes (tag + 1) d p 0 n
      (λ i x y. row bytes (tag + 1 + i * (d + p) + d) p (λ j z v. child_count (CompositeIn tag n d p) e j (i, omega (arith, y), z, v))
      (λ g h k a b m r o s. q.children_apart g h k (i, omega (arith, y), a, b) (i, omega (arith, y), m, r) o s))
      (λ i j k x y z v r s.
      let g : r.0 ≡ s.0 = q.children_apart r.0 s.0 k (i, omega (arith, y), r.1, r.2) (j, omega (arith, v), s.1, s.2) r.3 s.3 in
      same_element (tag + 1) i j d p r.0 r.1 r.2 (omega (arith, g, s.1)) (omega (arith, g, s.2))))
      (λ k h r. let o = r.3 in q.child_apart o.0 k (r.0, omega (arith, r.2), o.1, o.2) o.3 h)
      (itself (CompositeIn tag n d p) e)
      (λ k r. let o = r.3 in below (CompositeIn tag n d p) e o.0 k (r.0, omega (arith, r.2), o.1, o.2) o.3))

  counted_as : (s : Shape) → shape_at bytes w ≡ s → Counted (Owns bytes w) (words_of (tree bytes w))
  counted_as NoShape e = same_count (words_of (tree bytes w)) 0 (words_null bytes w f e) (none (Owns bytes w))
  counted_as (StructIn a d p) e = struct_count a d p e
  counted_as (ListIn a size n) e = list_count a size n e
  counted_as (CompositeIn tag n d p) e = composite_count tag n d p e

counted : (bytes : List ℕ) (w : ℕ) → Forest bytes w → Counted (Owns bytes w) (words_of (tree bytes w))
counted bytes w (Grown _ p f a b) = counted_as bytes w (Grown w p f a b) (λ j i. counted bytes j (f j i)) (shape_at bytes w) refl

-- the pointer itself is none of them
pub words_fit : (bytes : List ℕ) (w : ℕ) → Forest bytes w → suc (words_of (tree bytes w)) ≤ word_count bytes
words_fit bytes w f =
    let l : 1 + words_of (tree bytes w) ≤ word_count bytes =
    at_most (λ k. (w ≤ k) × (k < word_count bytes)) (1 + words_of (tree bytes w)) (word_count bytes)
    (join (λ k. (w ≤ k) × (k < w + 1)) (Owns bytes w) (λ k. (w ≤ k) × (k < word_count bytes)) 1 (words_of (tree bytes w))
    (range (λ k. (w ≤ k) × (k < w + 1)) w 1 (λ k x y. (x, y)))
    (counted bytes w f)
    (λ k h o. let l : w < k = owned_after bytes w k f o in omega (arith, l, h.1))
    (λ k h. let l : w < word_count bytes = itself_inside bytes w (shape_at bytes w) (points bytes w f) in (h.0, omega (arith, l, h.1)))
    (λ k o. let l : w < k = owned_after bytes w k f o in (omega (arith, l), owned_inside bytes w k f o)))
    (λ k h. h.1) in
    omega (arith, l)

-- the same of a struct
pub struct_fits : (bytes : List ℕ) (a d p : ℕ) → Planted bytes (StructIn a d p) → d + p + words_of_all (trees_from (tree bytes) (a + d) p) ≤ word_count bytes
struct_fits bytes a d p q =
    at_most (λ k. k < word_count bytes) (d + p + words_of_all (trees_from (tree bytes) (a + d) p)) (word_count bytes)
    (join (IsWordWithin (StructIn a d p)) (RowOwns bytes (a + d) p) (λ k. k < word_count bytes) (d + p) (words_of_all (trees_from (tree bytes) (a + d) p))
    (range (IsWordWithin (StructIn a d p)) a (d + p) (λ k x y. (x, omega (arith, y))))
    (row bytes (a + d) p (λ j x y. counted bytes j (q.child j (x, y))) (λ i j k x y z v o r. q.children_apart i j k (x, y) (z, v) o r))
    (λ k h r. q.child_apart r.0 k (r.1, r.2) r.3 h)
    (λ k h. planted_inside bytes (StructIn a d p) k q h)
    (λ k r. owned_inside bytes r.0 k (q.child r.0 (r.1, r.2)) r.3))
    (λ k h. h)

-- so they are counted where it is no deeper
pub too_deep : (r : Option ℕ) (words : ℕ) (is_below : Type 0) → IsCounted r words is_below → words < 2 ^ 29 → ((n : ℕ) → r ≡ Some n → ⊥) → is_below → ⊥
too_deep (Some n) words is_below h l k b = k n refl
too_deep None words is_below h l k b = elim h [ inl x ↦ omega (arith, x, l) | inr x ↦ x b ]
