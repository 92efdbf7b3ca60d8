-- A number or bit of a list, written where the list stands.
use Rattle.std.proofs.Common.{◌≡◌, ℕ, zero, suc, ◌+◌, ◌*◌, ◌<◌, ◌≤◌, refl, ap, subst, sym, ◌∙◌, arith, Bool, List, length}
use Rattle.capnp_wire.specs.Edits.{with_bit, with_bytes, with_number}
use Rattle.capnp_wire.specs.Elements.{HasBit, HasNumber, HasStruct, with_bit_element, with_number_element, with_struct, with_struct_element}
use Rattle.capnp_wire.specs.Facts.Bytes.{length_part_le, length_with_bit, length_with_number}
use Rattle.capnp_wire.specs.Facts.Indexed.{length_bits_from}
use Rattle.capnp_wire.specs.Steps.Filling.{bytes_with}
use Rattle.capnp_wire.specs.Locate.{list_words}
use Rattle.capnp_wire.specs.Place.{bits_from, bytes_at, list_tree}
use Rattle.capnp_wire.specs.Reading.{element_struct}
use Rattle.capnp_wire.specs.Tree.{Bits, Composite, Numbers, StructTree, Tree, nth_struct, structs_from}
use Rattle.capnp_arena.specs.declared.arena.Place.{Place}
use Rattle.capnp_wire.specs.declared.size.ElementSize.{ElementSize}
use Rattle.capnp_wire.specs.declared.size.ElementSize.TheVariants.{Void, Bit, Byte, TwoBytes, FourBytes, EightBytes, Pointer, InlineComposite}
use Rattle.capnp_arena.specs.Facts.Calls.{planted}
use Rattle.capnp_arena.specs.Facts.Forests.{points}
use Rattle.capnp_arena.specs.Facts.Structs.{tree_composite, tree_list, tree_struct}
use Rattle.capnp_arena.specs.Forest.{Forest, Planted, struct_from, tree}
use Rattle.capnp_arena.specs.Leaves.{Leaves}
use Rattle.capnp_arena.specs.Steps.Looked.{shape_found}
use Rattle.capnp_arena.specs.Made.{size_number, width_of}
use Rattle.capnp_arena.specs.declared.look.Target.{Target}
use Rattle.capnp_arena.specs.declared.look.Target.TheVariants as target
use Rattle.capnp_arena.specs.Shape.{CompositeIn, ListIn, NoShape, Points, StructIn, shape_at, word_count}
use Rattle.capnp_wire.specs.Facts.BitRows.{bits_with}
use Rattle.capnp_arena.proofs.Puts.{put_there}
use Rattle.capnp_arena.proofs.Refusals.{null_is}
use Rattle.capnp_arena.proofs.Written.{length_part}
use Rattle.capnp_arena.proofs.WrittenLists.{IsListWritten, list_written}

-- ---- a number of a list that is not of structs ----

module _ (old new : List ℕ) (at start n width i v : ℕ) (whole : length old ≡ 8 * word_count old) (f : Forest old at) (same : length new ≡ length old) where
  -- numbers of so many bytes each, of which one of another width may be written
  of_numbers : (size own m : ℕ) → shape_at old at ≡ ListIn start size n → (size ≡ 6 → ⊥) → m ≤ 8 * list_words size n
      → ((b : List ℕ) → list_tree (tree b) b start size n ≡ Numbers own (bytes_at b start m)) → HasNumber width (tree old at) i
      → new ≡ bytes_with (8 * start) (with_number width i v (bytes_at old start m)) old → Leaves at (with_number_element width i v (tree old at)) old new
  of_numbers size own m e plain few level h is =
      let ends : start + list_words size n ≤ word_count old = (subst (Planted old) e (planted old at f)).ends in
      let long : length (bytes_at old start m) ≡ m = length_part old start m (omega (arith, ends, few, whole)) in
      let t : tree old at ≡ Numbers own (bytes_at old start m) = tree_list old at start size n f e ∙ level old in
      let inside : (i + 1) * width ≤ length (bytes_at old start m) = subst (λ x. HasNumber width x i) t h in
      let xl : length (with_number width i v (bytes_at old start m)) ≡ m = length_with_number width i v (bytes_at old start m) inside ∙ long in
      let w : IsListWritten old new at start size n = list_written old new at start size n (with_number width i v (bytes_at old start m)) whole f e plain (omega (arith, xl, few)) same is in
      record {
        forest = w.forest;
        tree = w.tree ∙ level new
            ∙ ap (Numbers own) (ap (λ z. bytes_at z start m) is ∙ put_there start (with_number width i v (bytes_at old start m)) old m (omega (arith, xl, ends, few, whole)) xl)
            ∙ sym (ap (with_number_element width i v) t);
        changes = w.changes;
        place = w.place ∙ sym e;
      }

  pub number_leaves : (size : ElementSize) (m : ℕ) → shape_at old at ≡ ListIn start (size_number size) n → m ≡ width_of size * n → HasNumber width (tree old at) i
      → new ≡ bytes_with (8 * start) (with_number width i v (bytes_at old start m)) old → Leaves at (with_number_element width i v (tree old at)) old new
  number_leaves Void m e q h is = absurd (subst (λ x. HasNumber width x i) (tree_list old at start 0 n f e) h)
  number_leaves Bit m e q h is = absurd (subst (λ x. HasNumber width x i) (tree_list old at start 1 n f e) h)
  number_leaves Byte m e q h is = of_numbers 2 1 m e (λ z. omega (arith, z)) (omega (arith, q)) (λ b. ap (λ k. Numbers 1 (bytes_at b start k)) {x = n} {y = m} (omega (arith, q))) h is
  number_leaves TwoBytes m e q h is = of_numbers 3 2 m e (λ z. omega (arith, z)) (omega (arith, q)) (λ b. ap (λ k. Numbers 2 (bytes_at b start k)) {x = 2 * n} {y = m} (omega (arith, q))) h is
  number_leaves FourBytes m e q h is = of_numbers 4 4 m e (λ z. omega (arith, z)) (omega (arith, q)) (λ b. ap (λ k. Numbers 4 (bytes_at b start k)) {x = 4 * n} {y = m} (omega (arith, q))) h is
  number_leaves EightBytes m e q h is = of_numbers 5 8 m e (λ z. omega (arith, z)) (omega (arith, q)) (λ b. ap (λ k. Numbers 8 (bytes_at b start k)) {x = 8 * n} {y = m} (omega (arith, q))) h is
  number_leaves Pointer m e q h is = absurd (subst (λ x. HasNumber width x i) (tree_list old at start 6 n f e) h)
  number_leaves InlineComposite m e q h is = let p : Points old at (ListIn start 7 n) = subst (Points old at) e (points old at f) in absurd (omega (arith, p.2))

module _ (old : List ℕ) (at start n width i : ℕ) (f : Forest old at) where
  -- it lies inside
  pub number_inside : (size : ElementSize) → shape_at old at ≡ ListIn start (size_number size) n → HasNumber width (tree old at) i → (i + 1) * width ≤ width_of size * n
  number_inside Void e h = absurd (subst (λ x. HasNumber width x i) (tree_list old at start 0 n f e) h)
  number_inside Bit e h = absurd (subst (λ x. HasNumber width x i) (tree_list old at start 1 n f e) h)
  number_inside Byte e h = let q : (i + 1) * width ≤ length (bytes_at old start n) = subst (λ x. HasNumber width x i) (tree_list old at start 2 n f e) h in omega (arith, q, length_part_le n (8 * start) old)
  number_inside TwoBytes e h = let q : (i + 1) * width ≤ length (bytes_at old start (2 * n)) = subst (λ x. HasNumber width x i) (tree_list old at start 3 n f e) h in omega (arith, q, length_part_le (2 * n) (8 * start) old)
  number_inside FourBytes e h = let q : (i + 1) * width ≤ length (bytes_at old start (4 * n)) = subst (λ x. HasNumber width x i) (tree_list old at start 4 n f e) h in omega (arith, q, length_part_le (4 * n) (8 * start) old)
  number_inside EightBytes e h = let q : (i + 1) * width ≤ length (bytes_at old start (8 * n)) = subst (λ x. HasNumber width x i) (tree_list old at start 5 n f e) h in omega (arith, q, length_part_le (8 * n) (8 * start) old)
  number_inside Pointer e h = absurd (subst (λ x. HasNumber width x i) (tree_list old at start 6 n f e) h)
  number_inside InlineComposite e h = let p : Points old at (ListIn start 7 n) = subst (Points old at) e (points old at f) in absurd (omega (arith, p.2))

-- ---- a number at the start of a struct ----

module _ (bytes : List ℕ) (w : ℕ) (f : Forest bytes w) (width i : ℕ) (h : HasNumber width (tree bytes w) i) where
  pub null_number : shape_at bytes w ≡ NoShape → ⊥
  null_number e = subst (λ t. HasNumber width t i) (null_is bytes w f e) h

  pub struct_number : (a d p : ℕ) → shape_at bytes w ≡ StructIn a d p → ⊥
  struct_number a d p e = subst (λ t. HasNumber width t i) (tree_struct bytes w a d p f e) h

  module _ (tag n d p : ℕ) (e : shape_at bytes w ≡ CompositeIn tag n d p) where
    abbrev part_of : ℕ → StructTree
    part_of x = struct_from bytes (tag + 1 + x * (d + p)) d p

    held : HasNumber width (Composite d p (structs_from part_of 0 n)) i
    held = subst (λ t. HasNumber width t i) (tree_composite bytes w tag n d p f e) h

    pub number_struct : HasStruct (tree bytes w) i
    number_struct = subst (λ t. HasStruct t i) (sym (tree_composite bytes w tag n d p f e)) held.0

    pub number_fits : (q : Place) → Planted bytes (StructIn q.start q.data_words q.pointers) → struct_from bytes q.start q.data_words q.pointers ≡ element_struct (tree bytes w) i → width ≤ 8 * q.data_words
    number_fits q g k =
        let l : length (struct_from bytes q.start q.data_words q.pointers).bytes ≤ 8 * q.data_words = length_part_le (8 * q.data_words) (8 * q.start) bytes in
        let m : element_struct (tree bytes w) i ≡ nth_struct (structs_from part_of 0 n) i = ap (λ t. element_struct t i) (tree_composite bytes w tag n d p f e) in
        omega (arith, held.1, l, ap (λ (x : StructTree). length x.bytes) (k ∙ m))

    pub struct_number_is : (s : StructTree) (v : ℕ) → s ≡ element_struct (tree bytes w) i
        → with_struct_element i (with_bytes s (with_number width 0 v s.bytes)) (tree bytes w) ≡ with_number_element width i v (tree bytes w)
    struct_number_is s v q =
        let m : element_struct (tree bytes w) i ≡ nth_struct (structs_from part_of 0 n) i = ap (λ t. element_struct t i) (tree_composite bytes w tag n d p f e) in
        ap (λ t. with_struct_element i (with_bytes s (with_number width 0 v s.bytes)) t) (tree_composite bytes w tag n d p f e)
        ∙ ap (λ (x : StructTree). Composite d p (with_struct (structs_from part_of 0 n) i (with_bytes x (with_number width 0 v x.bytes)))) (q ∙ m)
        ∙ ap (with_number_element width i v) (sym (tree_composite bytes w tag n d p f e))

-- ---- a bit ----

module _ (old : List ℕ) (at i : ℕ) (f : Forest old at) (h : HasBit (tree old at) i) where
  pub null_bit : shape_at old at ≡ NoShape → ⊥
  null_bit e = subst (λ t. HasBit t i) (null_is old at f e) h

  pub struct_bit : (a d p : ℕ) → shape_at old at ≡ StructIn a d p → ⊥
  struct_bit a d p e = subst (λ t. HasBit t i) (tree_struct old at a d p f e) h

  pub composite_bit : (tag n d p : ℕ) → shape_at old at ≡ CompositeIn tag n d p → ⊥
  composite_bit tag n d p e = subst (λ t. HasBit t i) (tree_composite old at tag n d p f e) h

  -- a bit stands in no other target
  pub no_bit_there : (t : Target) → shape_found t ≡ shape_at old at → ((start size n : ℕ) → t ≡ target.List start size n → ⊥) → ⊥
  no_bit_there target.Null e none = null_bit (sym e)
  no_bit_there (target.Struct a d p) e none = struct_bit a d p (sym e)
  no_bit_there (target.List a size n) e none = none a size n refl
  no_bit_there (target.Composite tag n d p) e none = composite_bit tag n d p (sym e)

module _ (old new : List ℕ) (at i : ℕ) (bit : Bool) (whole : length old ≡ 8 * word_count old) (f : Forest old at) (h : HasBit (tree old at) i) where
  plain_bit : (g : ℕ → Tree) (bytes : List ℕ) (a size n : ℕ) → HasBit (list_tree g bytes a size n) i → (size ≡ 1) × (i < n)
  plain_bit g bytes a zero n l = absurd l
  plain_bit g bytes a (suc zero) n l = (refl, omega (arith, l, length_bits_from (bytes_at bytes a (8 * list_words 1 n)) 0 n))
  plain_bit g bytes a (suc (suc zero)) n l = absurd l
  plain_bit g bytes a (suc (suc (suc zero))) n l = absurd l
  plain_bit g bytes a (suc (suc (suc (suc zero)))) n l = absurd l
  plain_bit g bytes a (suc (suc (suc (suc (suc zero))))) n l = absurd l
  plain_bit g bytes a (suc (suc (suc (suc (suc (suc z)))))) n l = absurd l

  module _ (start size n m : ℕ) (e : shape_at old at ≡ ListIn start size n) (q : m ≡ 8 * list_words 1 n) where
    room : (size ≡ 1) × (i < n)
    room = plain_bit (tree old) old start size n (subst (λ t. HasBit t i) (tree_list old at start size n f e) h)

    one : shape_at old at ≡ ListIn start 1 n
    one = e ∙ ap (λ k. ListIn start k n) room.0

    pub bit_ends : 8 * start + m ≤ length old
    bit_ends = let ends : start + list_words 1 n ≤ word_count old = (subst (Planted old) one (planted old at f)).ends in omega (arith, ends, q, whole)

    pub bit_inside : i < 8 * m
    bit_inside = omega (arith, room.1, q)

    pub bit_leaves : length new ≡ length old → new ≡ bytes_with (8 * start) (with_bit i bit (bytes_at old start m)) old → Leaves at (with_bit_element i bit (tree old at)) old new
    bit_leaves same is =
        let x : List ℕ = with_bit i bit (bytes_at old start m) in
        let long : length (bytes_at old start m) ≡ m = length_part old start m bit_ends in
        let xl : length (with_bit i bit (bytes_at old start m)) ≡ m = length_with_bit i bit (bytes_at old start m) ∙ long in
        let w : IsListWritten old new at start 1 n = list_written old new at start 1 n (with_bit i bit (bytes_at old start m)) whole f one (λ z. omega (arith, z)) (omega (arith, xl, q)) same is in
        let t : tree old at ≡ Bits (bits_from (bytes_at old start m) 0 n) = tree_list old at start 1 n f one ∙ ap (λ k. Bits (bits_from (bytes_at old start k) 0 n)) (sym q) in
        record {
          forest = w.forest;
          tree = w.tree ∙ ap (λ k. Bits (bits_from (bytes_at new start k) 0 n)) (sym q)
              ∙ ap (λ b. Bits (bits_from b 0 n)) (ap (λ z. bytes_at z start m) is ∙ put_there start (with_bit i bit (bytes_at old start m)) old m (omega (arith, xl, bit_ends)) xl)
              ∙ ap Bits (bits_with (bytes_at old start m) i bit 0 n i (omega (arith, long, bit_inside)) (omega arith))
              ∙ sym (ap (with_bit_element i bit) t);
          changes = w.changes;
          place = w.place ∙ sym one;
        }
