-- Pointers and elements in a row, as a loop looks for the first fault leaf: what it has left of them.
use Rattle.std.proofs.Common.{Some, None, ◌≡◌, ℕ, suc, ◌+◌, ◌<◌, ◌≤◌, ap, arith, subst, sym, ◌∙◌}
use Rattle.capnp_wire.specs.declared.fault.Fault.{Fault}
use Rattle.capnp_wire.specs.Tree.{Tree, Trees, MoreTrees, Structs, MoreStructs, StructTree, nth_struct, nth_tree, struct_count, tree_count}
use Rattle.capnp_wire.specs.Words.{first_fault, first_fault_of_all, first_fault_of_elements, first_of}
use Rattle.capnp_wire.proofs.Sums.{structs_after, structs_after_end, structs_after_next, trees_after, trees_after_end, trees_after_next}

-- the first ones have no fault
pub record HaveNoFault (i : ℕ) (ts : Trees) : Type 0 where
  pub faults : first_fault_of_all (trees_after i ts) ≡ first_fault_of_all ts

pub no_fault : (i : ℕ) (ts : Trees) → HaveNoFault i ts → tree_count ts ≤ i → None ≡ first_fault_of_all ts
no_fault i ts so_far end = sym (ap first_fault_of_all (trees_after_end i ts end)) ∙ so_far.faults

-- one more of them, t
module _ (i : ℕ) (ts : Trees) (t : Tree) (so_far : HaveNoFault i ts) (here : i < tree_count ts) (at : nth_tree ts i ≡ t) where
  next : trees_after i ts ≡ MoreTrees t (trees_after (suc i) ts)
  next = trees_after_next i ts here ∙ ap (λ x. MoreTrees x (trees_after (suc i) ts)) at

  left : first_of (first_fault t) (first_fault_of_all (trees_after (suc i) ts)) ≡ first_fault_of_all ts
  left = sym (ap first_fault_of_all next) ∙ so_far.faults

  pub fault_here : (fault : Fault) → Some fault ≡ first_fault t → Some fault ≡ first_fault_of_all ts
  fault_here fault e = ap (λ x. first_of x (first_fault_of_all (trees_after (suc i) ts))) e ∙ left

  pub one_more : (j : ℕ) → None ≡ first_fault t → j ≡ i + 1 → HaveNoFault j ts
  one_more j e k =
      let k' : suc i ≡ j = omega arith in
      subst (λ (x : ℕ). HaveNoFault x ts) k' (record { faults = ap (λ x. first_of x (first_fault_of_all (trees_after (suc i) ts))) e ∙ left })

-- the first elements have none
pub record ElementsHaveNoFault (i : ℕ) (es : Structs) : Type 0 where
  pub faults : first_fault_of_elements (structs_after i es) ≡ first_fault_of_elements es

pub no_element_fault : (i : ℕ) (es : Structs) → ElementsHaveNoFault i es → struct_count es ≤ i → None ≡ first_fault_of_elements es
no_element_fault i es so_far end = sym (ap first_fault_of_elements (structs_after_end i es end)) ∙ so_far.faults

-- one more of them, s
module _ (i : ℕ) (es : Structs) (s : StructTree) (so_far : ElementsHaveNoFault i es) (here : i < struct_count es) (at : nth_struct es i ≡ s) where
  element : structs_after i es ≡ MoreStructs s.bytes s.pointers (structs_after (suc i) es)
  element = structs_after_next i es here ∙ ap (λ (x : StructTree). MoreStructs x.bytes x.pointers (structs_after (suc i) es)) at

  elements_left : first_of (first_fault_of_all s.pointers) (first_fault_of_elements (structs_after (suc i) es)) ≡ first_fault_of_elements es
  elements_left = sym (ap first_fault_of_elements element) ∙ so_far.faults

  pub element_fault_here : (fault : Fault) → Some fault ≡ first_fault_of_all s.pointers → Some fault ≡ first_fault_of_elements es
  element_fault_here fault e = ap (λ x. first_of x (first_fault_of_elements (structs_after (suc i) es))) e ∙ elements_left

  pub one_more_element : (j : ℕ) → None ≡ first_fault_of_all s.pointers → j ≡ i + 1 → ElementsHaveNoFault j es
  one_more_element j e k =
      let k' : suc i ≡ j = omega arith in
      subst (λ (x : ℕ). ElementsHaveNoFault x es) k' (record { faults = ap (λ x. first_of x (first_fault_of_elements (structs_after (suc i) es))) e ∙ elements_left })
