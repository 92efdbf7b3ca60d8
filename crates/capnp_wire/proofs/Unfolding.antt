-- Pointers and elements in a row, as a loop takes them from an allowance: what it has left of them.
use Rattle.std.proofs.Common.{Some, ◌≡◌, ℕ, suc, ◌+◌, ◌<◌, ◌≤◌, ap, ◌∙◌, arith, subst}
use Rattle.capnp_wire.specs.Tree.{Tree, Trees, MoreTrees, Structs, MoreStructs, StructTree, nth_struct, nth_tree, struct_count, tree_count}
use Rattle.capnp_wire.specs.Unfolded.{unfolded, unfolded_all, unfolded_elements}
use Rattle.capnp_wire.specs.Steps.Unfolding.{IsLeft}
use Rattle.capnp_wire.proofs.Sums.{structs_after, structs_after_end, structs_after_next, trees_after, trees_after_end, trees_after_next}
use Rattle.std.specs.Prelude.{length}

-- the first ones are taken
pub record AreTaken (allowed rest i : ℕ) (ts : Trees) : Type 0 where
  pub taken : allowed + unfolded_all (trees_after i ts) ≡ unfolded_all ts + rest

pub all_taken : (allowed rest i : ℕ) (ts : Trees) → AreTaken allowed rest i ts → tree_count ts ≤ i → IsLeft allowed (unfolded_all ts) (Some rest)
all_taken allowed rest i ts h end =
    let e = trees_after_end i ts end in
    omega (arith, rw e at h.taken)

-- one more of them, t
module _ (allowed rest i : ℕ) (ts : Trees) (t : Tree) (so_far : AreTaken allowed rest i ts) (here : i < tree_count ts) (at : nth_tree ts i ≡ t) where
  next : trees_after i ts ≡ MoreTrees t (trees_after (suc i) ts)
  next = trees_after_next i ts here ∙ ap (λ x. MoreTrees x (trees_after (suc i) ts)) at

  left : allowed + (unfolded t + unfolded_all (trees_after (suc i) ts)) ≡ unfolded_all ts + rest
  left = rw next at so_far.taken

  pub one_too_many : rest < unfolded t → allowed < unfolded_all ts
  one_too_many h = omega (arith, left, h)

  pub one_taken : (less j : ℕ) → rest ≡ unfolded t + less → j ≡ i + 1 → AreTaken allowed less j ts
  one_taken less j h k =
      let k' : suc i ≡ j = omega arith in
      subst (λ (x : ℕ). AreTaken allowed less x ts) k' (record { taken = omega (arith, left, h) })

-- the first elements are taken
pub record ElementsAreTaken (allowed rest i : ℕ) (es : Structs) : Type 0 where
  pub taken : allowed + unfolded_elements (structs_after i es) ≡ unfolded_elements es + rest

pub all_elements_taken : (allowed rest i : ℕ) (es : Structs) → ElementsAreTaken allowed rest i es → struct_count es ≤ i → IsLeft allowed (unfolded_elements es) (Some rest)
all_elements_taken allowed rest i es h end =
    let e = structs_after_end i es end in
    omega (arith, rw e at h.taken)

-- one more of them, s
module _ (allowed rest i : ℕ) (es : Structs) (s : StructTree) (so_far : ElementsAreTaken allowed rest i es) (here : i < struct_count es) (at : nth_struct es i ≡ s) where
  element : structs_after i es ≡ MoreStructs s.bytes s.pointers (structs_after (suc i) es)
  element = structs_after_next i es here ∙ ap (λ (x : StructTree). MoreStructs x.bytes x.pointers (structs_after (suc i) es)) at

  left_of : allowed + (suc (length s.bytes + unfolded_all s.pointers) + unfolded_elements (structs_after (suc i) es)) ≡ unfolded_elements es + rest
  left_of = rw element at so_far.taken

  pub element_too_many : rest < length s.bytes + 1 + unfolded_all s.pointers → allowed < unfolded_elements es
  element_too_many h = omega (arith, left_of, h)

  pub element_taken : (less j : ℕ) → rest ≡ length s.bytes + 1 + unfolded_all s.pointers + less → j ≡ i + 1 → ElementsAreTaken allowed less j es
  element_taken less j h k =
      let k' : suc i ≡ j = omega arith in
      subst (λ (x : ℕ). ElementsAreTaken allowed less x es) k' (record { taken = omega (arith, left_of, h) })
