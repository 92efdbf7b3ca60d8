-- Pointers and elements in a row, as a loop sums their words: what it has left of them.
use Rattle.std.proofs.Common.{Option, None, Err, ◌≡◌, ℕ, zero, suc, ◌+◌, ◌<◌, ◌≤◌, refl, sym, ap, ◌∙◌, subst, arith}
use Rattle.capnp_wire.specs.declared.fault.Fault.{Fault}
use Rattle.capnp_wire.specs.declared.total.Stop.{Stop}
use Rattle.capnp_wire.specs.declared.total.Stop.TheVariants as stop
use Rattle.capnp_wire.specs.Tree.{Tree, Trees, NoTrees, MoreTrees, Structs, NoStructs, MoreStructs, StructTree, nth_tree, nth_struct, tree_count, struct_count}
use Rattle.capnp_wire.specs.Words.{first_of, first_fault, first_fault_of_all, first_fault_of_elements, words_of, words_of_all, words_below_all}
use Rattle.capnp_wire.specs.Steps.Total.{Totals}

-- an error at the first of a row
first_stops : (e : Stop) (f g : Option Fault) (m n : ℕ) → m ≤ n → Totals (Err e) f m → Totals (Err e) (first_of f g) n
first_stops (stop.Fault k) f g m n l h = ap (λ x. first_of x g) h
first_stops stop.TooLarge f g m n l h = omega arith

-- an error at a sum
sum_stops : (e : Stop) (f : Option Fault) (m n : ℕ) → m ≤ n → Totals (Err e) None m → Totals (Err e) f n
sum_stops (stop.Fault k) f m n l h = cc
sum_stops stop.TooLarge f m n l h = omega arith

-- past a part without a fault, the first fault is that of the rest
pub first_none : (f g h : Option Fault) → f ≡ None → first_of f g ≡ h → g ≡ h
first_none f g h e q = sym (ap (λ x. first_of x g) e) ∙ q

-- ---- pointers ----

-- what is left after so many of them
abbrev pub trees_after : ℕ → Trees → Trees
trees_after zero ts = ts
trees_after (suc i) NoTrees = NoTrees
trees_after (suc i) (MoreTrees t ts) = trees_after i ts

-- the next of them, and what is left after it
pub trees_after_next : (i : ℕ) (ts : Trees) → i < tree_count ts → trees_after i ts ≡ MoreTrees (nth_tree ts i) (trees_after (suc i) ts)
trees_after_next i NoTrees h = absurd (omega arith)
trees_after_next zero (MoreTrees t ts) h = refl
trees_after_next (suc i) (MoreTrees t ts) h = trees_after_next i ts (omega arith)

-- after the last of them nothing is left
pub trees_after_end : (i : ℕ) (ts : Trees) → tree_count ts ≤ i → trees_after i ts ≡ NoTrees
trees_after_end zero NoTrees h = refl
trees_after_end (suc i) NoTrees h = refl
trees_after_end zero (MoreTrees t ts) h = absurd (omega arith)
trees_after_end (suc i) (MoreTrees t ts) h = trees_after_end i ts (omega arith)

-- a loop has summed the words of the first ones, and met no fault
pub record AreSummed (sum i : ℕ) (ts : Trees) : Type 0 where
  pub words : sum + words_of_all (trees_after i ts) ≡ words_of_all ts
  pub faults : first_fault_of_all (trees_after i ts) ≡ first_fault_of_all ts

-- as the loop begins
pub none_summed : (ts : Trees) → AreSummed 0 0 ts
none_summed ts = record { words = omega arith; faults = refl }

-- as the loop ends, the sum is the total of them all
pub all_summed : (sum i : ℕ) (ts : Trees) → AreSummed sum i ts → tree_count ts ≤ i → (first_fault_of_all ts ≡ None) × (sum ≡ words_of_all ts)
all_summed sum i ts h l =
    let e = trees_after_end i ts l in
    (sym h.faults ∙ ap first_fault_of_all e, omega (arith, rw e at h.words))

-- one more of them, t
module _ (sum i : ℕ) (ts : Trees) (t : Tree) (so_far : AreSummed sum i ts) (here : i < tree_count ts) (at : nth_tree ts i ≡ t) where
  next : trees_after i ts ≡ MoreTrees t (trees_after (suc i) ts)
  next = trees_after_next i ts here ∙ ap (λ x. MoreTrees x (trees_after (suc i) ts)) at

  next_words : sum + (words_of t + words_of_all (trees_after (suc i) ts)) ≡ words_of_all ts
  next_words = rw next at so_far.words

  next_faults : first_of (first_fault t) (first_fault_of_all (trees_after (suc i) ts)) ≡ first_fault_of_all ts
  next_faults = rw next at so_far.faults

  -- it has no total: neither do all of them
  pub one_stops : (e : Stop) → Totals (Err e) (first_fault t) (words_of t) → Totals (Err e) (first_fault_of_all ts) (words_of_all ts)
  one_stops e h = subst (λ g. Totals (Err e) g (words_of_all ts)) next_faults (first_stops e (first_fault t) (first_fault_of_all (trees_after (suc i) ts)) (words_of t) (words_of_all ts) (omega (arith, next_words)) h)

  -- its words make the sum too large
  pub one_sum_stops : (e : Stop) (m : ℕ) → m ≡ words_of t → Totals (Err e) None (sum + m) → Totals (Err e) (first_fault_of_all ts) (words_of_all ts)
  one_sum_stops e m q h = sum_stops e (first_fault_of_all ts) (sum + m) (words_of_all ts) (omega (arith, next_words)) h

  -- its words are added
  pub one_summed : (m s j : ℕ) → first_fault t ≡ None → m ≡ words_of t → s ≡ sum + m → j ≡ i + 1 → AreSummed s j ts
  one_summed m s j f q e k =
      let k' : suc i ≡ j = omega arith in
      subst (λ x. AreSummed s x ts) k' (record { words = omega (arith, next_words); faults = first_none (first_fault t) (first_fault_of_all (trees_after (suc i) ts)) (first_fault_of_all ts) f next_faults })

-- ---- elements ----

-- what is left after so many of them
abbrev pub structs_after : ℕ → Structs → Structs
structs_after zero es = es
structs_after (suc i) NoStructs = NoStructs
structs_after (suc i) (MoreStructs bytes ps es) = structs_after i es

-- the next of them, and what is left after it
pub structs_after_next : (i : ℕ) (es : Structs) → i < struct_count es → structs_after i es ≡ MoreStructs (nth_struct es i).bytes (nth_struct es i).pointers (structs_after (suc i) es)
structs_after_next i NoStructs h = absurd (omega arith)
structs_after_next zero (MoreStructs bytes ps es) h = refl
structs_after_next (suc i) (MoreStructs bytes ps es) h = structs_after_next i es (omega arith)

-- after the last of them nothing is left
pub structs_after_end : (i : ℕ) (es : Structs) → struct_count es ≤ i → structs_after i es ≡ NoStructs
structs_after_end zero NoStructs h = refl
structs_after_end (suc i) NoStructs h = refl
structs_after_end zero (MoreStructs bytes ps es) h = absurd (omega arith)
structs_after_end (suc i) (MoreStructs bytes ps es) h = structs_after_end i es (omega arith)

-- a loop has summed the words below the first ones, and met no fault
pub record ElementsAreSummed (sum i : ℕ) (es : Structs) : Type 0 where
  pub words : sum + words_below_all (structs_after i es) ≡ words_below_all es
  pub faults : first_fault_of_elements (structs_after i es) ≡ first_fault_of_elements es

-- as the loop begins
pub no_elements_summed : (es : Structs) → ElementsAreSummed 0 0 es
no_elements_summed es = record { words = omega arith; faults = refl }

-- as the loop ends, the sum is the total of them all
pub all_elements_summed : (sum i : ℕ) (es : Structs) → ElementsAreSummed sum i es → struct_count es ≤ i → (first_fault_of_elements es ≡ None) × (sum ≡ words_below_all es)
all_elements_summed sum i es h l =
    let e = structs_after_end i es l in
    (sym h.faults ∙ ap first_fault_of_elements e, omega (arith, rw e at h.words))

-- one more of them, s
module _ (sum i : ℕ) (es : Structs) (s : StructTree) (so_far : ElementsAreSummed sum i es) (here : i < struct_count es) (at : nth_struct es i ≡ s) where
  element : structs_after i es ≡ MoreStructs s.bytes s.pointers (structs_after (suc i) es)
  element = structs_after_next i es here ∙ ap (λ (x : StructTree). MoreStructs x.bytes x.pointers (structs_after (suc i) es)) at

  element_words : sum + (words_of_all s.pointers + words_below_all (structs_after (suc i) es)) ≡ words_below_all es
  element_words = rw element at so_far.words

  element_faults : first_of (first_fault_of_all s.pointers) (first_fault_of_elements (structs_after (suc i) es)) ≡ first_fault_of_elements es
  element_faults = rw element at so_far.faults

  -- its pointers have no total: neither do those of all
  pub element_stops : (e : Stop) → Totals (Err e) (first_fault_of_all s.pointers) (words_of_all s.pointers) → Totals (Err e) (first_fault_of_elements es) (words_below_all es)
  element_stops e h = subst (λ g. Totals (Err e) g (words_below_all es)) element_faults (first_stops e (first_fault_of_all s.pointers) (first_fault_of_elements (structs_after (suc i) es)) (words_of_all s.pointers) (words_below_all es) (omega (arith, element_words)) h)

  -- its words make the sum too large
  pub element_sum_stops : (e : Stop) (m : ℕ) → m ≡ words_of_all s.pointers → Totals (Err e) None (sum + m) → Totals (Err e) (first_fault_of_elements es) (words_below_all es)
  element_sum_stops e m q h = sum_stops e (first_fault_of_elements es) (sum + m) (words_below_all es) (omega (arith, element_words)) h

  -- its words are added
  pub element_summed : (m n j : ℕ) → first_fault_of_all s.pointers ≡ None → m ≡ words_of_all s.pointers → n ≡ sum + m → j ≡ i + 1 → ElementsAreSummed n j es
  element_summed m n j f q e k =
      let k' : suc i ≡ j = omega arith in
      subst (λ x. ElementsAreSummed n x es) k' (record { words = omega (arith, element_words); faults = first_none (first_fault_of_all s.pointers) (first_fault_of_elements (structs_after (suc i) es)) (first_fault_of_elements es) f element_faults })
