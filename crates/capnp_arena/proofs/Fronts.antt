-- The first bytes of a list of bytes, or of a null, that were left otherwise.
use Rattle.std.proofs.Common.{◌∷◌, ◌≡◌, ◌≤◌, ◌+◌, ◌*◌, ℕ, ap, arith, inl, inr, refl, subst, sym, ◌∙◌, List, [], ◌++◌, length, drop, take}
use Rattle.std.proofs.lemmas.List.{append-nil, drop_all, take-append-drop}
use Rattle.capnp_wire.specs.Steps.Filling.{bytes_with}
use Rattle.capnp_wire.specs.Place.{bytes_at}
use Rattle.capnp_wire.specs.Tree as tree
use Rattle.capnp_wire.specs.Tree.{Numbers, Tree}
use Rattle.capnp_arena.specs.Blobs.{IsFront, with_front}
use Rattle.capnp_arena.specs.Forest.{Changes, Forest, tree as tree_at_word}
use Rattle.capnp_arena.specs.Leaves.{Leaves}
use Rattle.capnp_arena.specs.Parts.{with_struct_part}
use Rattle.capnp_arena.specs.Segment.{segment}
use Rattle.capnp_arena.specs.Shape.{ListIn, shape_at}
use Rattle.capnp_arena.specs.declared.arena.Arena.{Arena}
use Rattle.capnp_arena.proofs.BlobReads.{bytes_here}
use Rattle.capnp_arena.proofs.LeftBytes.{bytes_left, part_left}
use Rattle.capnp_arena.proofs.Refusals.{null_is}

pub front_list : (words : List ℕ) (at start count n : ℕ) → shape_at words at ≡ ListIn start 2 n → count ≤ n → IsFront words at start count
front_list words at start count n e l = inr (n, e, l)

no_change : (w : ℕ) (words : List ℕ) → Changes w words words
no_change w words = record { longer = omega arith; stays = λ k l o p. refl; grows = λ k o. inl o }

nothing_put : (start : ℕ) (words : List ℕ) → bytes_with (8 * start) [] words ≡ words
nothing_put start words =
    let n : 8 * start + 0 ≡ 8 * start = omega arith in
    ap (λ k. take (8 * start) words ++ drop k words) n ∙ take-append-drop (8 * start) words

module _ (a : Arena) (at : ℕ) (f : Forest (segment a) at) where
  same_left : (start : ℕ) (left : List ℕ) → start ≡ 0 → length left ≡ 0 → segment (with_struct_part a start left) ≡ segment a
  same_left start [] s l = part_left a start [] (omega (arith, s)) ∙ nothing_put start (segment a)
  same_left start (b ∷ bs) s l = absurd (omega (arith, l))

  pub front_left : (start count : ℕ) → IsFront (segment a) at start count → (left : List ℕ) → length left ≡ count
      → Leaves at (with_front left (tree_at_word (segment a) at)) (segment a) (segment (with_struct_part a start left))
  front_left start count (inl h) left l =
      let same : segment (with_struct_part a start left) ≡ segment a = same_left start left h.0 (l ∙ h.1) in
      let null = null_is (segment a) at f h.2 in
      record {
        forest = subst (λ x. Forest x at) (sym same) f;
        tree = ap (λ x. tree_at_word x at) same ∙ null ∙ sym (ap (with_front left) null);
        changes = subst (Changes at (segment a)) (sym same) (no_change at (segment a));
        place = ap (λ x. shape_at x at) same;
      }
  front_left start count (inr h) left l =
      let n = h.0 in
      let is : Numbers 1 (left ++ drop count (bytes_at (segment a) start n)) ≡ with_front left (tree_at_word (segment a) at) =
      ap (λ k. Numbers 1 (left ++ drop k (bytes_at (segment a) start n))) (sym l) ∙ sym (ap (with_front left) (bytes_here (segment a) at f start 2 n h.1 refl)) in
      subst (λ t. Leaves at t (segment a) (segment (with_struct_part a start left))) is (bytes_left a at start n count f h.1 h.2 left l)

-- all bytes of a list were left otherwise
pub all_left : (t : Tree) (bytes left : List ℕ) → t ≡ Numbers 1 bytes → length left ≡ length bytes → with_front left t ≡ Numbers 1 left
all_left t bytes left is long =
    let none : drop (length left) bytes ≡ [] = drop_all (length left) bytes (omega (arith, long)) in
    ap (with_front left) is ∙ (ap (λ x. Numbers 1 (left ++ x)) none ∙ ap (Numbers 1) (append-nil left))
