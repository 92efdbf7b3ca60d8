-- Structs with zeros and nulls after what they have, encoded.
use Rattle.std.proofs.Common.{◌≡◌, ℕ, zero, suc, ◌+◌, ◌-◌, ◌*◌, ◌^◌, ◌<◌, ◌≤◌, refl, sym, ap, ◌∙◌, arith, List, [], ◌++◌, length, take, drop, replicate}
use Rattle.std.proofs.lemmas.List.{append_assoc, append-nil, drop-append-le, drop-drop, drop-replicate, drop_all, length-append, length-drop, length-replicate, length-take-le, replicate-append-replicate, take-append-drop}
use Rattle.capnp_wire.specs.Edits.{append_trees, extended_struct, nulls}
use Rattle.capnp_wire.specs.Encoding.{bytes_of, bytes_of_all, pointer_row, pointer_word, spelled_number}
use Rattle.capnp_wire.specs.Facts.Bytes.{AreBytes_part, length_part_le}
use Rattle.capnp_wire.specs.Facts.EncodedSizes.{length_pointer_row}
use Rattle.capnp_wire.specs.Facts.Filling.{length_put, put_after}
use Rattle.capnp_wire.specs.Facts.Rows.{AreElements_structs_from, tree_count_append_trees, tree_count_nulls, tree_count_trees_from}
use Rattle.capnp_wire.specs.Facts.Structs.{IsElement_extended}
use Rattle.capnp_wire.specs.Steps.Filling.{HasRoom, HaveRoom, bytes_with, row_end, with_encoded_element, with_pointers, words_from}
use Rattle.capnp_wire.specs.Place.{struct_tree}
use Rattle.capnp_wire.specs.Tree.{MoreStructs, MoreTrees, NoTrees, Null, StructTree, Structs, Trees, structs_from, tree_count, trees_from}
use Rattle.capnp_wire.specs.WellFormed.{AreBytes, AreElements, AreWellFormed, IsWellFormedStruct}
use Rattle.capnp_wire.specs.Steps.WellFormed.{IsElement}
use Rattle.capnp_wire.specs.Words.{words_of, words_of_all}
use Rattle.capnp_wire.specs.declared.size.StructSize.{StructSize}
use Rattle.capnp_arena.specs.Forest.{tree}
use Rattle.capnp_arena.specs.Steps.Grown.{grown_part_at}
use Rattle.capnp_arena.specs.declared.grown.PartRow.{PartRow}
use Rattle.capnp_arena.proofs.Encodings.{row_held}

-- ---- rows with nulls after them ----

null_bytes : (a g k : ℕ) → pointer_row g (trees_from (λ _. Null) a k) ≡ replicate (8 * k) 0
null_bytes a g zero = refl
null_bytes a g (suc k) =
    ap (λ z. replicate 8 0 ++ z) (null_bytes (suc a) (g + 0) k) ∙ replicate-append-replicate 8 (8 * k) 0 ∙ ap (λ n. replicate {A = ℕ} n 0) {x = 8 + 8 * k} {y = 8 * suc k} (omega arith)

null_below : (a k : ℕ) → bytes_of_all (trees_from (λ _. Null) a k) ≡ []
null_below a zero = refl
null_below a (suc k) = null_below (suc a) k

null_words : (a k : ℕ) → words_of_all (trees_from (λ _. Null) a k) ≡ 0
null_words a zero = refl
null_words a (suc k) = omega (arith, null_words (suc a) k)

pub row_more : (g k : ℕ) (ts : Trees) → pointer_row g (append_trees ts (nulls k)) ≡ pointer_row (k + g) ts ++ replicate (8 * k) 0
row_more g k NoTrees = null_bytes 0 g k
row_more g k (MoreTrees t ts) =
    let n : tree_count (append_trees ts (nulls k)) + g ≡ tree_count ts + (k + g) = omega (arith, tree_count_append_trees ts (nulls k), tree_count_nulls k) in
    ap (λ m. spelled_number 8 (pointer_word m t) ++ pointer_row (g + words_of t) (append_trees ts (nulls k))) n
    ∙ ap (λ z. spelled_number 8 (pointer_word (tree_count ts + (k + g)) t) ++ z) (row_more (g + words_of t) k ts ∙ ap (λ m. pointer_row m ts ++ replicate (8 * k) 0) {x = k + (g + words_of t)} {y = k + g + words_of t} (omega arith))
    ∙ sym (append_assoc (spelled_number 8 (pointer_word (tree_count ts + (k + g)) t)) (pointer_row (k + g + words_of t) ts) (replicate (8 * k) 0))

pub below_more : (k : ℕ) (ts : Trees) → bytes_of_all (append_trees ts (nulls k)) ≡ bytes_of_all ts
below_more k NoTrees = null_below 0 k
below_more k (MoreTrees t ts) = ap (λ z. bytes_of t ++ z) (below_more k ts)

pub words_more : (k : ℕ) (ts : Trees) → words_of_all (append_trees ts (nulls k)) ≡ words_of_all ts
words_more k NoTrees = null_words 0 k
words_more k (MoreTrees t ts) = ap (λ n. words_of t + n) (words_more k ts)

-- ---- bytes put into others that were put ----

pub put_in : (at m : ℕ) (x z o : List ℕ) → m + length x ≤ length z → at + length z ≤ length o → bytes_with (at + m) x (bytes_with at z o) ≡ bytes_with at (bytes_with m x z) o
put_in at m x z o h l =
    let a : List ℕ = take at o in
    let b : List ℕ = drop (at + length z) o in
    let la : length a ≡ at = length-take-le at o (omega (arith, l)) in
    let lz : length (take m z) ≡ m = length-take-le m z (omega (arith, h)) in
    let front : length (a ++ take m z) ≡ at + m = omega (arith, length-append a (take m z), la, lz) in
    let split : bytes_with at z o ≡ (a ++ take m z) ++ (drop m z ++ b) = ap (λ y. a ++ (y ++ b)) (sym (take-append-drop m z)) ∙ simp append_assoc in
    let rest : drop (length x) (drop m z ++ b) ≡ drop (m + length x) z ++ b =
    drop-append-le (length x) (drop m z) b (omega (arith, length-drop m z, h)) ∙ ap (λ y. y ++ b) (drop-drop (length x) m z) in
    ap (bytes_with (at + m) x) split
    ∙ put_after (at + m) (a ++ take m z) (drop m z ++ b) x front
    ∙ ap (λ y. (a ++ take m z) ++ (x ++ y)) rest
    ∙ back a (take m z) x (drop (m + length x) z) b
    ∙ ap (λ n. a ++ (bytes_with m x z ++ drop (at + n) o)) (sym (length_put m x z h))
  where
    back : (a p x q b : List ℕ) → (a ++ p) ++ (x ++ (q ++ b)) ≡ a ++ ((p ++ (x ++ q)) ++ b)
    back a p x q b = simp append_assoc

-- ---- a struct into its room ----

-- zeros over the whole of it, its data, and its pointers with what they lead to
pub element_grown : (size : StructSize) (at : ℕ) (s : StructTree) (o o1 o2 o3 : List ℕ) → length s.bytes ≤ 8 * size.data_words → tree_count s.pointers ≤ size.pointers → at + 8 * (size.data_words + size.pointers) ≤ length o
    → o1 ≡ bytes_with at (replicate (8 * (size.data_words + size.pointers)) 0) o → o2 ≡ bytes_with at s.bytes o1 → o3 ≡ with_pointers (at + 8 * size.data_words) s.pointers o2
    → o3 ≡ with_encoded_element at (extended_struct size s) o
element_grown size at s o o1 o2 o3 hd hp room e1 e2 e3 =
    let d : ℕ = 8 * size.data_words in
    let k : ℕ = size.pointers - tree_count s.pointers in
    let m : ℕ = 8 * (size.data_words + size.pointers) in
    let z : List ℕ = replicate m 0 in
    let lz : length z ≡ m = length-replicate {A = ℕ} m 0 in
    let tail : List ℕ = replicate (d - length s.bytes) 0 in
    let full : List ℕ = s.bytes ++ tail in
    let lf : length full ≡ d = omega (arith, length-append s.bytes tail, length-replicate {A = ℕ} (d - length s.bytes) 0, hd) in
    let g : ℕ = words_from (row_end (at + d) s.pointers) o2 in
    let x : List ℕ = pointer_row g s.pointers in
    let lx : length x ≡ 8 * tree_count s.pointers = length_pointer_row g s.pointers in
    let one : bytes_with 0 s.bytes z ≡ full ++ replicate (8 * size.pointers) 0 =
    ap (λ n. s.bytes ++ drop n z) {x = 0 + length s.bytes} {y = length s.bytes} (omega arith)
    ∙ ap (λ y. s.bytes ++ y) (drop-replicate (length s.bytes) m 0 ∙ ap (λ n. replicate {A = ℕ} n 0) {x = m - length s.bytes} {y = d - length s.bytes + 8 * size.pointers} (omega (arith, hd)) ∙ sym (replicate-append-replicate (d - length s.bytes) (8 * size.pointers) 0))
    ∙ sym (append_assoc s.bytes tail (replicate (8 * size.pointers) 0)) in
    let two : o2 ≡ bytes_with at (full ++ replicate (8 * size.pointers) 0) o =
    e2 ∙ ap (bytes_with at s.bytes) e1 ∙ ap (λ n. bytes_with n s.bytes (bytes_with at z o)) {x = at} {y = at + 0} (omega arith)
    ∙ put_in at 0 s.bytes z o (omega (arith, lz, hd)) (omega (arith, lz, room)) ∙ ap (λ y. bytes_with at y o) one in
    let lw : length (full ++ replicate (8 * size.pointers) 0) ≡ m = omega (arith, length-append full (replicate (8 * size.pointers) 0), lf, length-replicate {A = ℕ} (8 * size.pointers) 0) in
    let three : bytes_with d x (full ++ replicate (8 * size.pointers) 0) ≡ full ++ (x ++ replicate (8 * k) 0) =
    put_after d full (replicate (8 * size.pointers) 0) x lf
    ∙ ap (λ y. full ++ (x ++ y)) (drop-replicate (length x) (8 * size.pointers) 0 ∙ ap (λ n. replicate {A = ℕ} n 0) {x = 8 * size.pointers - length x} {y = 8 * k} (omega (arith, lx, hp))) in
    let lo : length o2 ≡ length o = ap length two ∙ length_put at (full ++ replicate (8 * size.pointers) 0) o (omega (arith, lw, room)) in
    let n : tree_count (append_trees s.pointers (nulls k)) ≡ size.pointers = omega (arith, tree_count_append_trees s.pointers (nulls k), tree_count_nulls k, hp) in
    let g2 : ℕ = words_from (row_end (at + length full) (append_trees s.pointers (nulls k))) o in
    let gap : g ≡ k + g2 = omega (arith, lo, lf, n, hp, room) in
    e3
    ∙ ap (λ y. bytes_with (at + d) x y ++ bytes_of_all s.pointers) two
    ∙ ap (λ y. y ++ bytes_of_all s.pointers) (put_in at d x (full ++ replicate (8 * size.pointers) 0) o (omega (arith, lx, lw, hp)) (omega (arith, lw, room)) ∙ ap (λ y. bytes_with at y o) three)
    ∙ ap (λ y. bytes_with at (full ++ (y ++ replicate (8 * k) 0)) o ++ bytes_of_all s.pointers) (ap (λ i. pointer_row i s.pointers) gap)
    ∙ ap (λ y. bytes_with at (full ++ y) o ++ bytes_of_all s.pointers) (sym (row_more g2 k s.pointers))
    ∙ ap (λ y. bytes_with at (full ++ pointer_row g2 (append_trees s.pointers (nulls k))) o ++ y) (sym (below_more k s.pointers))

-- ---- a part of a segment ----

pub part_tree_count : (bytes : List ℕ) (row : PartRow) (i : ℕ) → tree_count (grown_part_at bytes row i).pointers ≡ row.pointers
part_tree_count bytes row i = tree_count_trees_from (tree bytes) (row.first + i * row.pointer_step) row.pointers

pub part_length : (bytes : List ℕ) (row : PartRow) (i : ℕ) → length (grown_part_at bytes row i).bytes ≤ row.data_count
part_length bytes row i = length_part_le row.data_count (row.first_byte + i * row.data_step) bytes

-- the format holds it
pub part_held : (bytes : List ℕ) (row : PartRow) (i : ℕ) → AreBytes bytes → row.data_count ≤ 8 * 65535 → row.pointers < 2 ^ 16 → IsWellFormedStruct (grown_part_at bytes row i)
part_held bytes row i h d p = (
  AreBytes_part row.data_count (row.first_byte + i * row.data_step) bytes h,
  omega (arith, part_length bytes row i, d),
  omega (arith, part_tree_count bytes row i, p),
  row_held bytes (row.first + i * row.pointer_step) row.pointers h,
)

pub part_extended : (bytes : List ℕ) (row : PartRow) (i : ℕ) (size : StructSize) → AreBytes bytes → size.data_words < 2 ^ 16 → size.pointers < 2 ^ 16 → row.data_count ≤ 8 * size.data_words → row.pointers ≤ size.pointers → IsElement size.data_words size.pointers (extended_struct size (grown_part_at bytes row i))
part_extended bytes row i size h sd sp d p =
    IsElement_extended size (grown_part_at bytes row i) (part_held bytes row i h (omega (arith, sd, d)) (omega (arith, sp, p))) (omega (arith, part_length bytes row i, d)) (omega (arith, part_tree_count bytes row i, p))

pub parts_extended : (bytes : List ℕ) (row : PartRow) (count : ℕ) (size : StructSize) → AreBytes bytes → size.data_words < 2 ^ 16 → size.pointers < 2 ^ 16 → row.data_count ≤ 8 * size.data_words → row.pointers ≤ size.pointers
    → AreElements size.data_words size.pointers (structs_from (λ i. extended_struct size (grown_part_at bytes row i)) 0 count)
parts_extended bytes row count size h sd sp d p = AreElements_structs_from (λ i. extended_struct size (grown_part_at bytes row i)) size.data_words size.pointers 0 count (λ i l. part_extended bytes row i size h sd sp d p)

-- room for the first of a row is room for its pointers
pub grown_room : (size : StructSize) (at : ℕ) (s : StructTree) (es : Structs) (o : List ℕ) → tree_count s.pointers ≤ size.pointers → AreWellFormed s.pointers → HaveRoom size.data_words size.pointers at (MoreStructs (extended_struct size s).bytes (extended_struct size s).pointers es) o
    → (at + 8 * (size.data_words + size.pointers) ≤ length o) × HasRoom (at + 8 * size.data_words) s.pointers o
grown_room size at s es o p h room =
    let l : at + 8 * (size.data_words + size.pointers) ≤ length o = omega (arith, room.1) in
    let k : ℕ = size.pointers - tree_count s.pointers in
    let w : words_of_all (append_trees s.pointers (nulls k)) ≡ words_of_all s.pointers = words_more k s.pointers in
    (l, (h, omega (arith, l, p), omega (arith, room.2, room.1, l, p, w)))

-- ---- all of it ----

pub one_room : (size : StructSize) (s : StructTree) (o : List ℕ) → o ≡ replicate (8 * (size.data_words + size.pointers)) 0 → tree_count s.pointers ≤ size.pointers → AreWellFormed s.pointers → size.data_words + size.pointers + words_of_all s.pointers < 2 ^ 29 → HasRoom (0 + 8 * size.data_words) s.pointers o
one_room size s o e p h small =
    let l : length o ≡ 8 * (size.data_words + size.pointers) = ap length e ∙ length-replicate {A = ℕ} (8 * (size.data_words + size.pointers)) 0 in
    (h, omega (arith, l, p), omega (arith, l, p, small))

pub one_grown : (size : StructSize) (s : StructTree) (o o2 : List ℕ) → o ≡ replicate (8 * (size.data_words + size.pointers)) 0 → IsElement size.data_words size.pointers s → o2 ≡ with_encoded_element 0 s o → o2 ≡ bytes_of (struct_tree s)
one_grown size s o o2 e h w =
    let l : length o ≡ 8 * (size.data_words + size.pointers) = ap length e ∙ length-replicate {A = ℕ} (8 * (size.data_words + size.pointers)) 0 in
    let g : ℕ = words_from (row_end (0 + length s.bytes) s.pointers) o in
    let none : g ≡ 0 = omega (arith, l, h.1, h.2) in
    let x : List ℕ = s.bytes ++ pointer_row g s.pointers in
    let n : length x ≡ length o = omega (arith, length-append s.bytes (pointer_row g s.pointers), length_pointer_row g s.pointers, l, h.1, h.2) in
    w
    ∙ ap (λ y. (x ++ y) ++ bytes_of_all s.pointers) (drop_all (0 + length x) o (omega (arith, n)))
    ∙ ap (λ y. y ++ bytes_of_all s.pointers) (append-nil x)
    ∙ ap (λ k. (s.bytes ++ pointer_row k s.pointers) ++ bytes_of_all s.pointers) none
