-- The elements of a list, written; and a bit of a struct.
use Rattle.std.proofs.Common.{◌≡◌, ℕ, suc, ◌+◌, ◌*◌, ◌<◌, ◌≤◌, ◌⊎◌, inl, inr, ap, subst, sym, ◌∙◌, arith, Bool, List, length}
use Rattle.std.proofs.lemmas.Nat.{mul-le}
use Rattle.capnp_wire.specs.Edits.{with_bit, with_number}
use Rattle.capnp_wire.specs.Elements.{with_number_element}
use Rattle.capnp_wire.specs.Facts.Bytes.{length_with_bit, length_with_number}
use Rattle.capnp_wire.specs.Steps.Filling.{bytes_with}
use Rattle.capnp_wire.specs.Locate.{list_words}
use Rattle.capnp_wire.specs.Place.{bytes_at, list_tree}
use Rattle.capnp_wire.specs.Tree.{Numbers}
use Rattle.capnp_wire.specs.declared.size.ElementSize.{ElementSize}
use Rattle.capnp_wire.specs.declared.size.ElementSize.TheVariants.{Void, Bit, Byte, TwoBytes, FourBytes, EightBytes, Pointer, InlineComposite}
use Rattle.capnp_arena.specs.Made.{size_number, width_of}
use Rattle.capnp_arena.specs.Shape.{IsPointerOf, IsTagOf, IsWordWithin, ListIn, StructIn, shape_at, word_count}
use Rattle.capnp_arena.specs.Forest.{Changes, Forest, IsSame, PartChanges, Planted, tree}
use Rattle.capnp_arena.specs.Facts.Calls.{data_changes, data_planted, outer_changes, outer_forest, outer_shape, planted}
use Rattle.capnp_arena.proofs.Puts.{put_before, put_behind, put_there}
use Rattle.capnp_arena.specs.Facts.Structs.{tree_list}
use Rattle.capnp_arena.proofs.Written.{IsWritten, data_written, length_part}

-- ---- a list of numbers ----

-- a list whose own bytes are written
pub record IsListWritten (old new : List ℕ) (at start size n : ℕ) : Type 0 where
  pub forest : Forest new at
  pub place : shape_at new at ≡ ListIn start size n
  pub changes : Changes at old new
  pub tree : tree new at ≡ list_tree (tree new) new start size n

pub list_written : (old new : List ℕ) (at start size n : ℕ) (x : List ℕ) → length old ≡ 8 * word_count old → Forest old at → shape_at old at ≡ ListIn start size n → (size ≡ 6 → ⊥) → length x ≤ 8 * list_words size n → length new ≡ length old → new ≡ bytes_with (8 * start) x old → IsListWritten old new at start size n
list_written old new at start size n x whole f e plain l same is =
    let fs : Planted old (ListIn start size n) = subst (Planted old) e (planted old at f) in
    let fits : 8 * start + length x ≤ length old = omega (arith, fs.ends, whole, l) in
    let longer : length old ≤ length new = omega (arith, same) in
    let is_data : (k : ℕ) → (start ≤ k) × (k < start + list_words size n) → IsWordWithin (ListIn start size n) k × (IsPointerOf (ListIn start size n) k → ⊥) × (IsTagOf (ListIn start size n) k → ⊥) = λ k w. (w, (λ i. plain i.0), (λ t. t)) in
    let stay : (k : ℕ) → 8 * suc k ≤ length old → ((start ≤ k) × (k < start + list_words size n) → ⊥) → IsSame old new k = λ k m h. elim (side start (list_words size n) k) [
      | inl b ↦ ap (λ z. bytes_at z k 8) is ∙ put_before (8 * start) x old k fits (omega (arith, b))
      | inr b ↦ elim b [
        | inl g ↦ ap (λ z. bytes_at z k 8) is ∙ put_behind (8 * start) x old k 8 fits (omega (arith, g, l))
        | inr g ↦ absurd (h g)
      ]
    ] in
    let g2 : Planted new (shape_at old at) = subst (Planted new) (sym e) (data_planted old new longer (ListIn start size n) fs (λ k. (start ≤ k) × (k < start + list_words size n)) is_data stay) in
    let c2 : PartChanges (shape_at old at) old new = subst (λ s. PartChanges s old new) (sym e) (data_changes old new longer (ListIn start size n) fs (λ k. (start ≤ k) × (k < start + list_words size n)) is_data stay) in
    let s : shape_at new at ≡ ListIn start size n = outer_shape old new at f g2 c2 ∙ e in
    let h : Forest new at = outer_forest old new at f g2 c2 in
    record { forest = h; place = s; changes = outer_changes old new at f g2 c2; tree = tree_list new at start size n h s }
  where
    side : (a d k : ℕ) → (k < a) ⊎ ((a + d ≤ k) ⊎ ((a ≤ k) × (k < a + d)))
    side a d k = grind arith

pub record IsNumberWritten (old new : List ℕ) (at start : ℕ) (size : ElementSize) (n width i v : ℕ) : Type 0 where
  pub forest : Forest new at
  pub place : shape_at new at ≡ ListIn start (size_number size) n
  pub changes : Changes at old new
  pub tree : tree new at ≡ with_number_element width i v (tree old at)

module _ (old new : List ℕ) (at start n i v : ℕ) (whole : length old ≡ 8 * word_count old) (f : Forest old at) (l : i < n) (same : length new ≡ length old) where
  -- numbers of so many bytes each
  of_width : (size : ElementSize) (width m : ℕ) → shape_at old at ≡ ListIn start (size_number size) n → (size_number size ≡ 6 → ⊥) → 0 < width → m ≡ width * n → m ≤ 8 * list_words (size_number size) n
      → ((b : List ℕ) → list_tree (tree b) b start (size_number size) n ≡ Numbers width (bytes_at b start m)) → new ≡ bytes_with (8 * start) (with_number width i v (bytes_at old start m)) old → IsNumberWritten old new at start size n width i v
  of_width size width m e plain some q few level is =
      let ends : start + list_words (size_number size) n ≤ word_count old = (subst (Planted old) e (planted old at f)).ends in
      let long : length (bytes_at old start m) ≡ m = length_part old start m (omega (arith, ends, few, whole)) in
      let k : (i + 1) * width ≤ n * width = mul-le (i + 1) width n width (omega (arith, l)) (omega arith) in
      let xl : length (with_number width i v (bytes_at old start m)) ≡ m = length_with_number width i v (bytes_at old start m) (omega (arith, long, k, q)) ∙ long in
      let w : IsListWritten old new at start (size_number size) n = list_written old new at start (size_number size) n (with_number width i v (bytes_at old start m)) whole f e plain (omega (arith, xl, few)) same is in
      record {
        forest = w.forest;
        place = w.place;
        changes = w.changes;
        tree = w.tree ∙ level new
            ∙ ap (Numbers width) (ap (λ z. bytes_at z start m) is ∙ put_there start (with_number width i v (bytes_at old start m)) old m (omega (arith, xl, ends, few, whole)) xl)
            ∙ sym (ap (with_number_element width i v) (tree_list old at start (size_number size) n f e ∙ level old));
      }

  pub list_number_written : (size : ElementSize) (width m : ℕ) → shape_at old at ≡ ListIn start (size_number size) n → width ≡ width_of size → 0 < width → m ≡ width_of size * n → new ≡ bytes_with (8 * start) (with_number width i v (bytes_at old start m)) old → IsNumberWritten old new at start size n width i v
  list_number_written Void width m e w some q is = absurd (omega (arith, w, some))
  list_number_written Bit width m e w some q is = absurd (omega (arith, w, some))
  list_number_written Byte width m e w some q is =
      subst (λ k. IsNumberWritten old new at start Byte n k i v) (sym w) (of_width Byte 1 m e (λ z. omega (arith, z)) (omega arith) (omega (arith, q)) (omega (arith, q)) (λ b. ap (λ k. Numbers 1 (bytes_at b start k)) {x = n} {y = m} (omega (arith, q))) (subst (λ k. new ≡ bytes_with (8 * start) (with_number k i v (bytes_at old start m)) old) w is))
  list_number_written TwoBytes width m e w some q is =
      subst (λ k. IsNumberWritten old new at start TwoBytes n k i v) (sym w) (of_width TwoBytes 2 m e (λ z. omega (arith, z)) (omega arith) (omega (arith, q)) (omega (arith, q)) (λ b. ap (λ k. Numbers 2 (bytes_at b start k)) {x = 2 * n} {y = m} (omega (arith, q))) (subst (λ k. new ≡ bytes_with (8 * start) (with_number k i v (bytes_at old start m)) old) w is))
  list_number_written FourBytes width m e w some q is =
      subst (λ k. IsNumberWritten old new at start FourBytes n k i v) (sym w) (of_width FourBytes 4 m e (λ z. omega (arith, z)) (omega arith) (omega (arith, q)) (omega (arith, q)) (λ b. ap (λ k. Numbers 4 (bytes_at b start k)) {x = 4 * n} {y = m} (omega (arith, q))) (subst (λ k. new ≡ bytes_with (8 * start) (with_number k i v (bytes_at old start m)) old) w is))
  list_number_written EightBytes width m e w some q is =
      subst (λ k. IsNumberWritten old new at start EightBytes n k i v) (sym w) (of_width EightBytes 8 m e (λ z. omega (arith, z)) (omega arith) (omega (arith, q)) (omega (arith, q)) (λ b. ap (λ k. Numbers 8 (bytes_at b start k)) {x = 8 * n} {y = m} (omega (arith, q))) (subst (λ k. new ≡ bytes_with (8 * start) (with_number k i v (bytes_at old start m)) old) w is))
  list_number_written Pointer width m e w some q is = absurd (omega (arith, w, some))
  list_number_written InlineComposite width m e w some q is = absurd (omega (arith, w, some))

pub bit_written : (old new : List ℕ) (a d p i : ℕ) (bit : Bool) → length old ≡ 8 * word_count old → Planted old (StructIn a d p) → length new ≡ length old
    → new ≡ bytes_with (8 * a) (with_bit i bit (bytes_at old a (8 * d))) old → IsWritten old new a d p (with_bit i bit (bytes_at old a (8 * d)))
bit_written old new a d p i bit whole f same is =
    let l : length (bytes_at old a (8 * d)) ≡ 8 * d = length_part old a (8 * d) (omega (arith, f.ends, whole)) in
    data_written old new a d p (with_bit i bit (bytes_at old a (8 * d))) whole f (length_with_bit i bit (bytes_at old a (8 * d)) ∙ l) same is
