-- One level of the tree at a place, with its number of levels tested as code does.
use Rattle.std.proofs.Common.{min, ◌≡◌, ℕ, zero, suc, ◌+◌, ◌-◌, ◌/◌, ◌<◌, ◌≤◌, List, length, refl, sym, ap, ◌∙◌, arith, cond, ◌==◌, nat_lt, Bool, true, false, rules}
use Rattle.std.proofs.Math.Nat.{min-eq_left, min-eq_right}
use Rattle.std.proofs.lemmas.Bool.Decides.{nat_tests}
use Rattle.capnp_wire.specs.Tree.{Tree, Numbers, Pointers, MoreTrees, NoTrees, trees_from}
use Rattle.capnp_wire.specs.Slot.{word_at}
use Rattle.capnp_wire.specs.declared.fault.Fault.TheVariants.{BadPointer}
use Rattle.capnp_wire.specs.Locate.{Segments, Target, NoTarget, BadTarget, StructAt, ListAt, CompositeAt, lies, target_at, word_target}
use Rattle.capnp_wire.specs.Place.{tree_below, tree_below_levels, tree_without_level, tree_with_level, bytes_at, list_tree}
use Rattle.capnp_wire.specs.Steps.Level.{list_at_depth, tree_at_depth}

past_zero : (l : ℕ) → (suc l == 0) ≡ false
past_zero l = search rules

past_one : (l : ℕ) → nat_lt (suc (suc l)) 2 ≡ false
past_one l = search rules

not_one : (l : ℕ) → (suc (suc l) == 1) ≡ false
not_one l = search rules

past_five : (size : ℕ) → 5 < size → (f : ℕ → Tree) (segment : List ℕ) (start n : ℕ) → Pointers (trees_from f start n) ≡ cond (size == 2) (Numbers 1 (bytes_at segment start n)) (list_at_depth f segment start size n)
past_five size h f segment start n = grind (arith, nat_tests)

list_steps : (f : ℕ → Tree) (segment : List ℕ) (start size n : ℕ) → list_tree f segment start size n ≡ cond (size == 2) (Numbers 1 (bytes_at segment start n)) (list_at_depth f segment start size n)
list_steps f segment start zero n = refl
list_steps f segment start (suc zero) n = refl
list_steps f segment start (suc (suc zero)) n = refl
list_steps f segment start (suc (suc (suc zero))) n = refl
list_steps f segment start (suc (suc (suc (suc zero)))) n = refl
list_steps f segment start (suc (suc (suc (suc (suc zero))))) n = refl
list_steps f segment start (suc (suc (suc (suc (suc (suc size)))))) n = past_five (suc (suc (suc (suc (suc (suc size)))))) (omega arith) f segment start n

steps_zero : (f g : List ℕ → ℕ → Tree) (t : Target) → tree_below_levels t ≡ tree_at_depth 0 f g t
steps_zero f g NoTarget = refl
steps_zero f g (BadTarget k) = refl
steps_zero f g (StructAt s a d p) = refl
steps_zero f g (ListAt s a e n) = refl
steps_zero f g (CompositeAt s a n d p) = refl

steps_one : (f g : List ℕ → ℕ → Tree) (t : Target) → tree_without_level t ≡ tree_at_depth 1 f g t
steps_one f g NoTarget = refl
steps_one f g (BadTarget k) = refl
steps_one f g (StructAt s a d p) = refl
steps_one f g (ListAt s a e n) = refl
steps_one f g (CompositeAt s a n d p) = refl

steps_more : (l : ℕ) (f g : List ℕ → ℕ → Tree) (t : Target) → tree_with_level f g t ≡ tree_at_depth (suc (suc l)) f g t
steps_more l f g NoTarget = refl
steps_more l f g (BadTarget k) = rw past_zero refl
steps_more l f g (StructAt s a d p) = rw past_one refl
steps_more l f g (ListAt s a e n) = rw (past_zero, not_one) (list_steps (f s) s a e n)
steps_more l f g (CompositeAt s a n d p) = rw past_one refl

pub below_step : (depth : ℕ) (segments : Segments) (segment : List ℕ) (w : ℕ) → tree_below depth segments segment w ≡ tree_at_depth depth (tree_below (depth - 1) segments) (tree_below (depth - 2) segments) (target_at segments segment w)
unfolding tree_below
below_step zero segments segment w = steps_zero (tree_below (0 - 1) segments) (tree_below (0 - 2) segments) (target_at segments segment w)
below_step (suc zero) segments segment w = steps_one (tree_below (1 - 1) segments) (tree_below (1 - 2) segments) (target_at segments segment w)
below_step (suc (suc l)) segments segment w =
    let a : suc l ≡ suc (suc l) - 1 = omega arith in
    let b : l ≡ suc (suc l) - 2 = omega arith in
    steps_more l (tree_below (suc l) segments) (tree_below l segments) (target_at segments segment w)
    ∙ ap (λ i. tree_at_depth (suc (suc l)) (tree_below i segments) (tree_below l segments) (target_at segments segment w)) a
    ∙ ap (λ i. tree_at_depth (suc (suc l)) (tree_below (suc (suc l) - 1) segments) (tree_below i segments) (target_at segments segment w)) b

-- past the end of a segment no word is there, so all words are alike
target_past : (segments : Segments) (segment : List ℕ) (w : ℕ) → length segment / 8 ≤ w → target_at segments segment w ≡ BadTarget BadPointer
target_past segments segment w h =
    let e : lies segment (w + 1) ≡ false = grind (arith, nat_tests) in
    ap (λ b. cond b (word_target segments segment w (word_at segment w)) (BadTarget BadPointer)) e

below_past : (depth : ℕ) (segments : Segments) (segment : List ℕ) (v w : ℕ) → length segment / 8 ≤ v → length segment / 8 ≤ w → tree_below depth segments segment v ≡ tree_below depth segments segment w
below_past depth segments segment v w h k =
    below_step depth segments segment v
    ∙ ap (tree_at_depth depth (tree_below (depth - 1) segments) (tree_below (depth - 2) segments)) (target_past segments segment v h ∙ sym (target_past segments segment w k))
    ∙ sym (below_step depth segments segment w)

capped_by : (past : Bool) (depth : ℕ) (segments : Segments) (segment : List ℕ) (w : ℕ) → nat_lt (length segment / 8) w ≡ past → tree_below depth segments segment (min w (length segment / 8)) ≡ tree_below depth segments segment w
capped_by true depth segments segment w e =
    let h : length segment / 8 ≤ w = grind (arith, nat_tests) in
    ap (tree_below depth segments segment) (min-eq_right h) ∙ below_past depth segments segment (length segment / 8) w (omega arith) h
capped_by false depth segments segment w e =
    let h : w ≤ length segment / 8 = grind (arith, nat_tests) in
    ap (tree_below depth segments segment) (min-eq_left h)

pub alone_capped : (depth : ℕ) (segments : Segments) (segment : List ℕ) (w : ℕ) → trees_from (tree_below depth segments segment) (min w (length segment / 8)) 1 ≡ trees_from (tree_below depth segments segment) w 1
alone_capped depth segments segment w = ap (λ t. MoreTrees t NoTrees) (capped_by (nat_lt (length segment / 8) w) depth segments segment w refl)
