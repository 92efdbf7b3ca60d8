-- A struct in its place, replaced by another one of its size.
use Rattle.std.proofs.Common.{Option, None, Some, ◌≡◌, ℕ, zero, suc, ◌+◌, ◌-◌, ◌*◌, ◌^◌, ◌<◌, ◌≤◌, inl, inr, refl, sym, ap, ◌∙◌, arith, List, [], ◌++◌, length, take, drop, replicate}
use Rattle.std.proofs.lemmas.List.{append-nil, drop-take, length-append, length-drop, length-replicate, length-take-le, drop-drop, take-append-drop, take-take, take_all}
use Rattle.capnp_device.specs.declared.error.Error.{Error}
use Rattle.capnp_wire.specs.Edits.{IsCopyRefusal, append_trees, first_trees, nulls}
use Rattle.capnp_wire.specs.Encoding.{bytes_of_all, pointer_row}
use Rattle.capnp_wire.specs.Facts.EncodedSizes.{length_bytes_of_all, length_element}
use Rattle.capnp_wire.specs.Facts.Filling.{length_put, put_next}
use Rattle.capnp_wire.specs.Facts.Indexed.{nth_tree_from}
use Rattle.capnp_wire.specs.Facts.Rows.{AreWellFormed_append_trees, AreWellFormed_first_trees, AreWellFormed_nulls, tree_count_append_trees, tree_count_first_trees, tree_count_nulls}
use Rattle.capnp_wire.specs.Facts.Stands.{Stands, stands_at, stands_first, stands_right}
use Rattle.capnp_wire.specs.Steps.Filling.{bytes_with, row_end, with_encoded_element, words_from}
use Rattle.capnp_wire.specs.Place.{bytes_at}
use Rattle.capnp_wire.specs.Tree.{MoreTrees, NoTrees, Null, StructTree, Tree, Trees, nth_tree, tree_count, trees_from}
use Rattle.capnp_wire.specs.WellFormed.{AreWellFormed}
use Rattle.capnp_wire.specs.Words.{first_fault, first_fault_of_all, first_of, words_of_all}
use Rattle.capnp_wire.specs.declared.fault.Fault.{Fault}
use Rattle.capnp_arena.specs.Steps.Copies.{Spares, fitted_row}
use Rattle.capnp_arena.specs.Forest.{PartChanges, Planted, struct_from, tree}
use Rattle.capnp_arena.specs.Shape.{StructIn, word_count}
use Rattle.capnp_arena.proofs.Copying.{first_none, first_refused, spares_append, spares_put, spares_then, trees_after, trees_after_end}
use Rattle.capnp_arena.proofs.EncodedForests.{AreTreesIn, trees_stand}
use Rattle.capnp_arena.proofs.NewTrees.{stands_part}
use Rattle.capnp_arena.proofs.Puts.{added_there, longer_same, put_there}
use Rattle.capnp_arena.specs.Facts.Structs.{two_parts}
use Rattle.capnp_arena.specs.Facts.Words.{run_same}

-- ---- a row that is cut to so many pointers, or filled up with nulls ----

pub fitted_count : (n : ℕ) (ts : Trees) → tree_count (fitted_row n ts) ≡ n
fitted_count n ts = omega (arith, tree_count_append_trees (first_trees n ts) (nulls (n - tree_count ts)), tree_count_nulls (n - tree_count ts), tree_count_first_trees n ts)

pub fitted_held : (n : ℕ) (ts : Trees) → AreWellFormed ts → AreWellFormed (fitted_row n ts)
fitted_held n ts h = AreWellFormed_append_trees (first_trees n ts) (nulls (n - tree_count ts)) (AreWellFormed_first_trees n ts h) (AreWellFormed_nulls (n - tree_count ts))

fitted_next : (n : ℕ) (t : Tree) (ts : Trees) → fitted_row (suc n) (MoreTrees t ts) ≡ MoreTrees t (fitted_row n ts)
fitted_next n t ts = ap (λ k. MoreTrees t (append_trees (first_trees n ts) (nulls k))) {x = suc n - suc (tree_count ts)} {y = n - tree_count ts} (omega arith)

pub fitted_nth : (n i : ℕ) (ts : Trees) → i < n → nth_tree (fitted_row n ts) i ≡ nth_tree ts i
fitted_nth zero i ts h = absurd (omega (arith, h))
fitted_nth (suc n) i NoTrees h = nth_tree_from (λ _. Null) 0 (suc n - 0) i (omega (arith, h))
fitted_nth (suc n) zero (MoreTrees t ts) h = refl
fitted_nth (suc n) (suc i) (MoreTrees t ts) h = ap (λ us. nth_tree us (suc i)) (fitted_next n t ts) ∙ fitted_nth n i ts (omega (arith, h))

no_fault : (a n : ℕ) → first_fault_of_all (trees_from (λ _. Null) a n) ≡ None
no_fault a zero = refl
no_fault a (suc n) = no_fault (suc a) n

first_assoc : (a b c : Option Fault) → first_of a (first_of b c) ≡ first_of (first_of a b) c
first_assoc None b c = refl
first_assoc (Some k) b c = refl

-- its first fault, and then that of what does not fit
pub fitted_faults : (n : ℕ) (ts : Trees) → first_of (first_fault_of_all (fitted_row n ts)) (first_fault_of_all (trees_after n ts)) ≡ first_fault_of_all ts
fitted_faults zero ts = ap (λ x. first_of x (first_fault_of_all ts)) (no_fault 0 (0 - tree_count ts))
fitted_faults (suc n) NoTrees = ap (λ x. first_of x None) (no_fault 0 (suc n - 0))
fitted_faults (suc n) (MoreTrees t ts) =
    ap (λ us. first_of (first_fault_of_all us) (first_fault_of_all (trees_after n ts))) (fitted_next n t ts)
    ∙ sym (first_assoc (first_fault t) (first_fault_of_all (fitted_row n ts)) (first_fault_of_all (trees_after n ts)))
    ∙ ap (first_of (first_fault t)) (fitted_faults n ts)

pub fitted_refused : (n : ℕ) (ts : Trees) (e : Error) → IsCopyRefusal e (first_fault_of_all (fitted_row n ts)) → IsCopyRefusal e (first_fault_of_all ts)
fitted_refused n ts e r = first_refused e (first_fault_of_all (fitted_row n ts)) (first_fault_of_all (trees_after n ts)) (first_fault_of_all ts) (fitted_faults n ts) r

-- where all fit there is no other
pub fitted_sound : (n : ℕ) (ts : Trees) → tree_count ts ≤ n → first_fault_of_all (fitted_row n ts) ≡ None → first_fault_of_all ts ≡ None
fitted_sound n ts l h = sym (first_none (first_fault_of_all (fitted_row n ts)) (first_fault_of_all (trees_after n ts)) (first_fault_of_all ts) h (fitted_faults n ts)) ∙ ap first_fault_of_all (trees_after_end n ts l)

-- ---- bytes in place of others ----

-- what fits of them, and zeros after that
pub put_all_of : (at count : ℕ) (x o o1 : List ℕ) → count ≤ length x → o1 ≡ bytes_with at (take count x) o → o1 ≡ bytes_with at (take count x ++ replicate (count - length x) 0) o
put_all_of at count x o o1 l h = h ∙ ap (λ z. bytes_with at z o) (sym (ap (λ k. take count x ++ replicate k 0) {x = count - length x} {y = 0} (omega (arith, l)) ∙ append-nil (take count x)))

pub put_some_of : (at count : ℕ) (x o o1 o2 : List ℕ) → length x < count → at + count ≤ length o → o1 ≡ bytes_with at x o → o2 ≡ bytes_with (at + length x) (replicate (count - length x) 0) o1 → o2 ≡ bytes_with at (take count x ++ replicate (count - length x) 0) o
put_some_of at count x o o1 o2 l f h g =
    let z : List ℕ = replicate (count - length x) 0 in
    let n : length z ≡ count - length x = length-replicate {A = ℕ} (count - length x) 0 in
    g
    ∙ ap (bytes_with (at + length x) z) (h ∙ sym (append-nil (bytes_with at x o)))
    ∙ sym (append-nil (bytes_with (at + length x) z (bytes_with at x o ++ [])))
    ∙ put_next at x z o [] [] (omega (arith, n, l, f))
    ∙ append-nil (bytes_with at (x ++ z) o)
    ∙ ap (λ y. bytes_with at (y ++ z) o) (sym (take_all count x (omega (arith, l))))

-- bytes that were kept are put back
pub put_back : (old mid new kept : List ℕ) (a n end : ℕ) → length old ≡ 8 * end → a + n ≤ end → Spares a n old mid → kept ≡ bytes_at old a (8 * n) → new ≡ bytes_with (8 * a) kept (take (8 * end) mid) → new ≡ old
put_back old mid new kept a n end whole l s k e =
    let m : ℕ = 8 * a + 8 * n in
    let r : ℕ = 8 * (end - a - n) in
    let size : length kept ≡ 8 * n = ap length k ∙ length-take-le (8 * n) (drop (8 * a) old) (omega (arith, length-drop (8 * a) old, whole, l)) in
    let q : m + r ≡ 8 * end = omega (arith, l) in
    let f : 8 * (a + n) ≡ m = omega arith in
    let front : take (8 * a) (take (8 * end) mid) ≡ take (8 * a) old =
    take-take (8 * a) (8 * end) mid (omega (arith, l)) ∙ run_same old mid 0 a (λ j x y. s.stays j (omega (arith, y, l, whole)) (λ z. omega (arith, y, z.0))) in
    let behind : drop m (take (8 * end) mid) ≡ drop m old =
    ap (λ z. drop m (take z mid)) (sym q) ∙ drop-take m r mid
    ∙ ap (λ z. take r (drop z mid)) (sym f)
    ∙ run_same old mid (a + n) (end - a - n) (λ j x y. s.stays j (omega (arith, y, l, whole)) (λ z. omega (arith, x, z.1)))
    ∙ ap (λ z. take r (drop z old)) f
    ∙ take_all r (drop m old) (omega (arith, length-drop m old, whole, q)) in
    let last : drop (8 * a + length kept) (take (8 * end) mid) ≡ drop m old = ap (λ z. drop (8 * a + z) (take (8 * end) mid)) size ∙ behind in
    e
    ∙ ap (λ z. z ++ (kept ++ drop (8 * a + length kept) (take (8 * end) mid))) front
    ∙ ap (λ z. take (8 * a) old ++ (kept ++ z)) last
    ∙ ap (λ z. take (8 * a) old ++ (z ++ drop m old)) k
    ∙ ap (λ z. take (8 * a) old ++ z) (parts old (8 * a) (8 * n))
    ∙ take-append-drop (8 * a) old
  where
    parts : (x : List ℕ) (i j : ℕ) → take j (drop i x) ++ drop (i + j) x ≡ drop i x
    parts x i j = ap (λ z. take j (drop i x) ++ z) (sym (drop-drop j i x)) ∙ take-append-drop j (drop i x)

-- ---- the struct then ----

pub record IsContent (old new : List ℕ) (a d p : ℕ) (s : StructTree) : Type 0 where
  pub planted : Planted new (StructIn a d p)
  pub changes : PartChanges (StructIn a d p) old new
  pub struct : struct_from new a d p ≡ s

module _ (old new : List ℕ) (a d p : ℕ) (s : StructTree) (hd : length s.bytes ≡ 8 * d) (hp : tree_count s.pointers ≡ p) (held : AreWellFormed s.pointers) (none : first_fault_of_all s.pointers ≡ None)
    (whole : length old ≡ 8 * word_count old) (l : a + (d + p) ≤ word_count old) (few : word_count new < 2 ^ 29) (e : new ≡ with_encoded_element (8 * a) s old) where
  abbrev gap : ℕ
  gap = word_count old - (a + d + p)

  abbrev row : List ℕ
  row = pointer_row gap s.pointers

  abbrev targets : List ℕ
  targets = bytes_of_all s.pointers

  size : length (s.bytes ++ row) ≡ 8 * (d + p)
  size = length_element d p gap s.bytes s.pointers hd hp

  is : new ≡ bytes_with (8 * a) (s.bytes ++ row) old ++ targets
  is = e ∙ ap (λ k. bytes_with (8 * a) (s.bytes ++ pointer_row k s.pointers) old ++ targets) {x = words_from (row_end (8 * a + length s.bytes) s.pointers) old} {y = gap} (omega (arith, hd, hp, whole, l))

  fits : 8 * a + length (s.bytes ++ row) ≤ length old
  fits = omega (arith, size, whole, l)

  own : length (bytes_with (8 * a) (s.bytes ++ row) old) ≡ 8 * word_count old
  own = length_put (8 * a) (s.bytes ++ row) old fits ∙ whole

  long : length new ≡ 8 * word_count old + 8 * words_of_all s.pointers
  long = ap length is ∙ omega (arith, length-append (bytes_with (8 * a) (s.bytes ++ row) old) targets, own, length_bytes_of_all s.pointers held)

  spared : Spares a (d + p) old new
  spared = spares_then a (d + p) a (d + p) old (bytes_with (8 * a) (s.bytes ++ row) old) new (λ k x r. r) (spares_put a (d + p) (s.bytes ++ row) old _ (omega (arith, size)) fits refl) (spares_append a (d + p) (bytes_with (8 * a) (s.bytes ++ row) old) targets new is)

  here : Stands new a (s.bytes ++ row)
  here = stands_part new a (s.bytes ++ row) (omega (arith, size, long, l))
      (ap (bytes_at new a) size ∙ ap (λ z. bytes_at z a (8 * (d + p))) is
      ∙ run_same (bytes_with (8 * a) (s.bytes ++ row) old) (bytes_with (8 * a) (s.bytes ++ row) old ++ targets) a (d + p) (λ k x y. longer_same (bytes_with (8 * a) (s.bytes ++ row) old) targets k (omega (arith, own, y, l)))
      ∙ put_there a (s.bytes ++ row) old (8 * (d + p)) fits size)

  there : Stands new (word_count old) targets
  there = stands_part new (word_count old) targets (omega (arith, long, length_bytes_of_all s.pointers held))
      (ap (λ z. bytes_at z (word_count old) (length targets)) is ∙ added_there (bytes_with (8 * a) (s.bytes ++ row) old) targets (word_count old) (word_count old) (length targets) own (omega arith)
      ∙ ap (λ k. bytes_at targets k (length targets)) {x = word_count old - word_count old} {y = 0} (omega arith) ∙ take_all (length targets) targets (omega arith))

  trees : AreTreesIn new (a + d) (a + d + tree_count s.pointers + gap) (a + d + tree_count s.pointers + gap + words_of_all s.pointers) s.pointers
  trees = trees_stand new s.pointers (a + d) gap held none (omega (arith, few, long, hp, l)) (stands_right new a d s.bytes row hd here) (stands_at new targets (word_count old) (a + d + tree_count s.pointers + gap) (omega (arith, hp, l)) there)

  pub content_made : IsContent old new a d p s
  content_made = record {
    planted = record {
      ends = omega (arith, long, l);
      child = λ j q. trees.each.forest j (q.0, omega (arith, q.1, hp));
      child_apart = λ j k q o r. let x = trees.each.owned j k (q.0, omega (arith, q.1, hp)) o in omega (arith, x.0, r.1, hp);
      children_apart = λ i j k q r o z. trees.each.apart i j k (q.0, omega (arith, q.1, hp)) (r.0, omega (arith, r.1, hp)) o z;
    };
    changes = record {
      longer = spared.longer;
      stays = λ k x o. spared.stays k x (λ r. o (inl r));
      grows = λ k o. elim o [
        | inl r ↦ inl (inl r)
        | inr r ↦ let x = trees.each.owned r.0 k (r.1.0, omega (arith, r.1.1, hp)) r.2 in inr (omega (arith, x.0, hp, l))
      ];
      tags = λ k t. absurd t;
    };
    struct = two_parts (struct_from new a d p) s (stands_first new a (8 * d) s.bytes row hd here) (ap (trees_from (tree new) (a + d)) (sym hp) ∙ trees.trees);
  }
