-- The data of a struct, written.
use Rattle.std.proofs.Common.{◌≡◌, ℕ, suc, ◌+◌, ◌*◌, ◌<◌, ◌≤◌, ◌⊎◌, inl, inr, ap, ◌∙◌, arith, List, length, drop}
use Rattle.std.proofs.lemmas.List.{length-drop, length-take-le}
use Rattle.capnp_wire.specs.Edits.{with_bytes, with_number}
use Rattle.capnp_wire.specs.Facts.Bytes.{length_with_number}
use Rattle.capnp_wire.specs.Steps.Filling.{bytes_with}
use Rattle.capnp_wire.specs.Place.{bytes_at}
use Rattle.capnp_arena.specs.Shape.{IsPointerOf, IsTagOf, IsWordWithin, StructIn, word_count}
use Rattle.capnp_arena.specs.Forest.{IsSame, PartChanges, Planted, struct_from}
use Rattle.capnp_arena.specs.Facts.Calls.{data_changes, data_planted, data_tree}
use Rattle.capnp_arena.proofs.Puts.{put_before, put_behind, put_there}
use Rattle.capnp_arena.specs.Facts.Structs.{data_changed}

-- words that are put leave the others
pub others_stay : (old new : List ℕ) (a d : ℕ) (x : List ℕ) → length x ≡ 8 * d → 8 * a + length x ≤ length old → new ≡ bytes_with (8 * a) x old → (k : ℕ) → 8 * suc k ≤ length old → ((a ≤ k) × (k < a + d) → ⊥) → IsSame old new k
others_stay old new a d x e f is k l h = elim (side k) [
  | inl b ↦ ap (λ z. bytes_at z k 8) is ∙ put_before (8 * a) x old k f (omega (arith, b))
  | inr b ↦ elim b [
    | inl g ↦ ap (λ z. bytes_at z k 8) is ∙ put_behind (8 * a) x old k 8 f (omega (arith, g, e))
    | inr g ↦ absurd (h g)
  ]
]
  where
    side : (k : ℕ) → (k < a) ⊎ ((a + d ≤ k) ⊎ ((a ≤ k) × (k < a + d)))
    side k = grind arith

pub record IsWritten (old new : List ℕ) (a d p : ℕ) (x : List ℕ) : Type 0 where
  pub planted : Planted new (StructIn a d p)
  pub changes : PartChanges (StructIn a d p) old new
  pub struct : struct_from new a d p ≡ with_bytes (struct_from old a d p) x

pub data_written : (old new : List ℕ) (a d p : ℕ) (x : List ℕ) → length old ≡ 8 * word_count old → Planted old (StructIn a d p) → length x ≡ 8 * d → length new ≡ length old → new ≡ bytes_with (8 * a) x old → IsWritten old new a d p x
data_written old new a d p x whole f e same is =
    let fits : 8 * a + length x ≤ length old = omega (arith, f.ends, whole, e) in
    let longer : length old ≤ length new = omega (arith, same) in
    let is_data : (k : ℕ) → (a ≤ k) × (k < a + d) → IsWordWithin (StructIn a d p) k × (IsPointerOf (StructIn a d p) k → ⊥) × (IsTagOf (StructIn a d p) k → ⊥) = λ k w. ((w.0, omega (arith, w.1)), (λ i. omega (arith, w.1, i.0)), (λ t. t)) in
    let stay : (k : ℕ) → 8 * suc k ≤ length old → ((a ≤ k) × (k < a + d) → ⊥) → IsSame old new k = others_stay old new a d x e fits is in
    record {
      planted = data_planted old new longer (StructIn a d p) f (λ k. (a ≤ k) × (k < a + d)) is_data stay;
      changes = data_changes old new longer (StructIn a d p) f (λ k. (a ≤ k) × (k < a + d)) is_data stay;
      struct = data_changed old new a d p x (ap (λ z. bytes_at z a (8 * d)) is ∙ put_there a x old (8 * d) fits e)
          (data_tree old new longer (StructIn a d p) f (λ k. (a ≤ k) × (k < a + d)) is_data stay);
    }

-- bytes that lie inside are as many as were asked for
pub length_part : (bytes : List ℕ) (a n : ℕ) → 8 * a + n ≤ length bytes → length (bytes_at bytes a n) ≡ n
length_part bytes a n h = length-take-le n (drop (8 * a) bytes) (omega (arith, h, length-drop (8 * a) bytes))

pub number_written : (old new : List ℕ) (a d p width offset n : ℕ) → length old ≡ 8 * word_count old → Planted old (StructIn a d p) → (offset + 1) * width ≤ 8 * d → length new ≡ length old
    → new ≡ bytes_with (8 * a) (with_number width offset n (bytes_at old a (8 * d))) old → IsWritten old new a d p (with_number width offset n (bytes_at old a (8 * d)))
number_written old new a d p width offset n whole f h same is =
    let l : length (bytes_at old a (8 * d)) ≡ 8 * d = length_part old a (8 * d) (omega (arith, f.ends, whole)) in
    data_written old new a d p (with_number width offset n (bytes_at old a (8 * d))) whole f (length_with_number width offset n (bytes_at old a (8 * d)) (omega (arith, l, h)) ∙ l) same is
