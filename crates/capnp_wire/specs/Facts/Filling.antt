-- Pointers and elements that are put into room left for them, one after another.
use Rattle.std.proofs.Common.{◌≡◌, ℕ, ◌+◌, ◌-◌, ◌*◌, ◌<◌, ◌≤◌, ◌^◌, List, [], ◌++◌, length, take, drop, replicate, refl, sym, ap, ◌∙◌, arith}
use Rattle.std.proofs.lemmas.List.{append_assoc, append-nil, take_at, drop_at, drop_all, drop-append-le, drop-drop, length-append, length-drop, length-replicate, length-take-le}
use Rattle.capnp_wire.specs.Tree.{Tree, Trees, Composite, MoreTrees, Structs, MoreStructs, StructTree, tree_count, struct_count}
use Rattle.capnp_wire.specs.Words.{words_of, words_of_all, words_below_all}
use Rattle.capnp_wire.specs.WellFormed.{AreElements, AreWellFormed}
use Rattle.capnp_wire.specs.Encoding.{spelled_number, struct_word, pointer_word, pointer_row, element_row, bytes_of, bytes_of_all, bytes_below_all}
use Rattle.capnp_wire.specs.Steps.Filling.{bytes_with, words_from, row_end, HasRoom, with_pointers, with_encoded_element, elements_end, HaveRoom, with_encoded_elements}
use Rattle.capnp_wire.specs.Facts.Appending.{append_two}
use Rattle.capnp_wire.specs.Facts.EncodedSizes.{length_bytes_of, length_bytes_of_all, length_pointer_row, length_element, length_element_row}

-- ---- bytes in the place of others ----

-- the length stays
pub length_put : (at : ℕ) (x b : List ℕ) → at + length x ≤ length b → length (bytes_with at x b) ≡ length b
length_put at x b h =
    omega (arith, length-append (take at b) (x ++ drop (at + length x) b), length-append x (drop (at + length x) b), length-take-le at b (omega arith), length-drop (at + length x) b)

-- past a beginning
pub put_after : (m : ℕ) (p q y : List ℕ) → length p ≡ m → bytes_with m y (p ++ q) ≡ p ++ (y ++ drop (length y) q)
put_after m p q y e =
    ap (λ z. z ++ (y ++ drop (m + length y) (p ++ q))) (take_at p q m e)
    ∙ ap (λ z. p ++ (y ++ z)) (sym (drop-drop (length y) m (p ++ q)) ∙ ap (drop (length y)) (drop_at p q m e))

-- into room at the end
pub put_last : (b room x : List ℕ) → length room ≡ length x → bytes_with (length b) x (b ++ room) ≡ b ++ x
put_last b room x e =
    put_after (length b) b room x refl ∙ ap (λ z. b ++ (x ++ z)) (drop_all (length x) room (omega arith)) ∙ ap (λ z. b ++ z) (append-nil x)

-- one part after another, with something appended after each
pub put_next : (at : ℕ) (x y b t u : List ℕ) → at + length x + length y ≤ length b → bytes_with (at + length x) y (bytes_with at x b ++ t) ++ u ≡ bytes_with at (x ++ y) b ++ (t ++ u)
put_next at x y b t u h =
    let m : ℕ = at + length x in
    let p : List ℕ = take at b ++ x in
    let front : length p ≡ m = omega (arith, length-append (take at b) x, length-take-le at b (omega arith)) in
    let one : bytes_with at x b ++ t ≡ p ++ (drop m b ++ t) = simp append_assoc in
    let after : drop (length y) (drop m b ++ t) ≡ drop (m + length y) b ++ t = drop-append-le (length y) (drop m b) t (omega (arith, length-drop m b)) ∙ ap (λ z. z ++ t) (drop-drop (length y) m b) in
    let n : m + length y ≡ at + length (x ++ y) = omega (arith, length-append x y) in
    ap (λ z. bytes_with m y z ++ u) one
    ∙ ap (λ z. z ++ u) (put_after m p (drop m b ++ t) y front)
    ∙ ap (λ z. (p ++ (y ++ z)) ++ u) after
    ∙ ap (λ k. (p ++ (y ++ (drop k b ++ t))) ++ u) n
    ∙ simp append_assoc

-- ---- pointers ----

-- one more pointer of a row, with what it leads to
pub pointer_filled : (at : ℕ) (t : Tree) (ts : Trees) (o o1 o2 : List ℕ) (w : ℕ) → HasRoom at (MoreTrees t ts) o → w ≡ pointer_word (words_from at o - 1) t → o1 ≡ bytes_with at (spelled_number 8 w) o → o2 ≡ o1 ++ bytes_of t → HasRoom (at + 8) ts o2 × (with_pointers (at + 8) ts o2 ≡ with_pointers at (MoreTrees t ts) o)
pointer_filled at t ts o o1 o2 w room e1 e2 e3 =
    let n : ℕ = tree_count ts in
    let g : ℕ = words_from (row_end at (MoreTrees t ts)) o in
    let gap : words_from at o - 1 ≡ n + g = omega (arith, room.1) in
    let x : List ℕ = spelled_number 8 (pointer_word (n + g) t) in
    let y : List ℕ = pointer_row (g + words_of t) ts in
    let one : o1 ≡ bytes_with at x o = e2 ∙ ap (λ k. bytes_with at (spelled_number 8 k) o) (e1 ∙ ap (λ k. pointer_word k t) gap) in
    let two : o2 ≡ bytes_with at x o ++ bytes_of t = e3 ∙ ap (λ z. z ++ bytes_of t) one in
    let size : length o2 ≡ length o + 8 * words_of t = omega (arith, ap length two, length-append (bytes_with at x o) (bytes_of t), length_put at x o (omega (arith, room.1)), length_bytes_of t room.0.0) in
    let later : words_from (row_end (at + 8) ts) o2 ≡ g + words_of t = omega (arith, size, room.1) in (
      (room.0.1, omega (arith, size, room.1), omega (arith, later, room.2)),
      ap (λ k. bytes_with (at + 8) (pointer_row k ts) o2 ++ bytes_of_all ts) later
          ∙ ap (λ z. bytes_with (at + 8) y z ++ bytes_of_all ts) two
          ∙ put_next at x y o (bytes_of t) (bytes_of_all ts) (omega (arith, length_pointer_row (g + words_of t) ts, room.1)),
    )

-- ---- elements ----

-- an element's data, and then its pointers with what they lead to
pub element_put : (at : ℕ) (s : StructTree) (o o1 o2 : List ℕ) → row_end (at + length s.bytes) s.pointers ≤ length o → o1 ≡ bytes_with at s.bytes o → o2 ≡ with_pointers (at + length s.bytes) s.pointers o1 → o2 ≡ with_encoded_element at s o
element_put at s o o1 o2 h e1 e2 =
    let g : ℕ = words_from (row_end (at + length s.bytes) s.pointers) o in
    let size : length o1 ≡ length o = ap length e1 ∙ length_put at s.bytes o (omega arith) in
    let same : words_from (row_end (at + length s.bytes) s.pointers) o1 ≡ g = omega (arith, size) in
    let y : List ℕ = pointer_row g s.pointers in
    e2
    ∙ ap (λ k. bytes_with (at + length s.bytes) (pointer_row k s.pointers) o1 ++ bytes_of_all s.pointers) same
    ∙ ap (λ z. bytes_with (at + length s.bytes) y z ++ bytes_of_all s.pointers) (e1 ∙ sym (append-nil (bytes_with at s.bytes o)))
    ∙ put_next at s.bytes y o [] (bytes_of_all s.pointers) (omega (arith, length_pointer_row g s.pointers))

-- one more element of a composite list
pub element_filled : (d p at : ℕ) (bytes : List ℕ) (ps : Trees) (es : Structs) (o o2 : List ℕ) → HaveRoom d p at (MoreStructs bytes ps es) o → o2 ≡ with_encoded_element at (record { bytes = bytes; pointers = ps }) o → HaveRoom d p (at + 8 * (d + p)) es o2 × (with_encoded_elements (d + p) (at + 8 * (d + p)) es o2 ≡ with_encoded_elements (d + p) at (MoreStructs bytes ps es) o)
element_filled d p at bytes ps es o o2 room e =
    let h = room.0 in
    let g : ℕ = words_from (elements_end (d + p) at (MoreStructs bytes ps es)) o in
    let end : row_end (at + length bytes) ps ≡ at + 8 * (d + p) = omega (arith, h.1, h.2) in
    let gap : words_from (row_end (at + length bytes) ps) o ≡ struct_count es * (d + p) + g = omega (arith, end, room.1) in
    let x : List ℕ = bytes ++ pointer_row (struct_count es * (d + p) + g) ps in
    let y : List ℕ = element_row (d + p) (g + words_of_all ps) es in
    let own : length x ≡ 8 * (d + p) = length_element d p (struct_count es * (d + p) + g) bytes ps h.1 h.2 in
    let two : o2 ≡ bytes_with at x o ++ bytes_of_all ps = e ∙ ap (λ k. bytes_with at (bytes ++ pointer_row k ps) o ++ bytes_of_all ps) gap in
    let size : length o2 ≡ length o + 8 * words_of_all ps = omega (arith, ap length two, length-append (bytes_with at x o) (bytes_of_all ps), length_put at x o (omega (arith, own, room.1)), length_bytes_of_all ps h.3) in
    let later : words_from (elements_end (d + p) (at + 8 * (d + p)) es) o2 ≡ g + words_of_all ps = omega (arith, size, room.1) in (
      (h.4, omega (arith, size, room.1), omega (arith, later, room.2)),
      ap (λ k. bytes_with (at + 8 * (d + p)) (element_row (d + p) k es) o2 ++ bytes_below_all es) later
          ∙ ap (λ z. bytes_with (at + 8 * (d + p)) y z ++ bytes_below_all es) two
          ∙ ap (λ k. bytes_with (at + k) y (bytes_with at x o ++ bytes_of_all ps) ++ bytes_below_all es) (sym own)
          ∙ put_next at x y o (bytes_of_all ps) (bytes_below_all es) (omega (arith, own, length_element_row d p (g + words_of_all ps) es h.4, room.1)),
    )

-- ---- room at the end, which zeros keep ----

-- room for pointers in words at the end
pub row_room : (at n : ℕ) (ts : Trees) (b o : List ℕ) → at ≡ length b → n ≡ tree_count ts → o ≡ b ++ replicate (8 * n) 0 → AreWellFormed ts → tree_count ts + words_of_all ts < 2 ^ 29 → HasRoom at ts o
row_room at n ts b o a e q held near =
    let size : length o ≡ length b + 8 * n = omega (arith, ap length q, length-append b (replicate (8 * n) 0), length-replicate {A = ℕ} (8 * n) 0) in
    (held, omega (arith, a, e, size), omega (arith, a, e, size, near))

-- and what is made of these: the row, and what it leads to
pub row_last : (at n : ℕ) (ts : Trees) (b o o2 : List ℕ) → at ≡ length b → n ≡ tree_count ts → o ≡ b ++ replicate (8 * n) 0 → o2 ≡ with_pointers at ts o → o2 ≡ b ++ (pointer_row 0 ts ++ bytes_of_all ts)
row_last at n ts b o o2 a e q h =
    let zeros : List ℕ = replicate (8 * n) 0 in
    let many : length zeros ≡ 8 * tree_count ts = omega (arith, e, length-replicate {A = ℕ} (8 * n) 0) in
    let none : words_from (row_end (length b) ts) (b ++ zeros) ≡ 0 = omega (arith, many, length-append b zeros) in
    h
    ∙ ap (λ k. with_pointers k ts o) a
    ∙ ap (with_pointers (length b) ts) q
    ∙ ap (λ k. bytes_with (length b) (pointer_row k ts) (b ++ zeros) ++ bytes_of_all ts) none
    ∙ ap (λ z. z ++ bytes_of_all ts) (put_last b zeros (pointer_row 0 ts) (omega (arith, many, length_pointer_row 0 ts)))
    ∙ append_assoc b (pointer_row 0 ts) (bytes_of_all ts)

-- the same room for elements
pub elements_room : (d p at n : ℕ) (es : Structs) (b o : List ℕ) → at ≡ length b → n ≡ struct_count es → o ≡ b ++ replicate (8 * (n * (d + p))) 0 → AreElements d p es → struct_count es * (d + p) + words_below_all es < 2 ^ 29 → HaveRoom d p at es o
elements_room d p at n es b o a e q held near =
    let many : n * (d + p) ≡ struct_count es * (d + p) = ap (λ k. k * (d + p)) e in
    let size : length o ≡ length b + 8 * (struct_count es * (d + p)) = omega (arith, many, ap length q, length-append b (replicate (8 * (n * (d + p))) 0), length-replicate {A = ℕ} (8 * (n * (d + p))) 0) in
    (held, omega (arith, a, size), omega (arith, a, size, near))

-- and what is made of it: the elements, and what they lead to
pub elements_last : (d p at n : ℕ) (es : Structs) (b o o2 : List ℕ) → at ≡ length b → n ≡ struct_count es → o ≡ b ++ replicate (8 * (n * (d + p))) 0 → AreElements d p es → o2 ≡ with_encoded_elements (d + p) at es o → o2 ≡ b ++ (element_row (d + p) 0 es ++ bytes_below_all es)
elements_last d p at n es b o o2 a e q held h =
    let zeros : List ℕ = replicate (8 * (n * (d + p))) 0 in
    let many : length zeros ≡ 8 * (struct_count es * (d + p)) = length-replicate {A = ℕ} (8 * (n * (d + p))) 0 ∙ ap (λ k. 8 * (k * (d + p))) e in
    let none : words_from (elements_end (d + p) (length b) es) (b ++ zeros) ≡ 0 = omega (arith, many, length-append b zeros) in
    h
    ∙ ap (λ k. with_encoded_elements (d + p) k es o) a
    ∙ ap (with_encoded_elements (d + p) (length b) es) q
    ∙ ap (λ k. bytes_with (length b) (element_row (d + p) k es) (b ++ zeros) ++ bytes_below_all es) none
    ∙ ap (λ z. z ++ bytes_below_all es) (put_last b zeros (element_row (d + p) 0 es) (omega (arith, many, length_element_row d p 0 es held)))
    ∙ append_assoc b (element_row (d + p) 0 es) (bytes_below_all es)

-- the whole list, with its tag before them
pub composite_last : (d p at n : ℕ) (es : Structs) (old b o o2 : List ℕ) (tag : ℕ) → tag ≡ struct_word n d p → b ≡ old ++ spelled_number 8 tag → at ≡ length b → n ≡ struct_count es → o ≡ b ++ replicate (8 * (n * (d + p))) 0 → AreElements d p es → o2 ≡ with_encoded_elements (d + p) at es o → o2 ≡ old ++ bytes_of (Composite d p es)
composite_last d p at n es old b o o2 tag w f a e q held h =
    let x : List ℕ = spelled_number 8 (struct_word (struct_count es) d p) in
    let first : b ≡ old ++ x = f ∙ ap (λ k. old ++ spelled_number 8 k) (w ∙ ap (λ k. struct_word k d p) e) in
    append_two old b o2 x (element_row (d + p) 0 es ++ bytes_below_all es) first (elements_last d p at n es b o o2 a e q held h)
    ∙ ap (λ z. old ++ z) (sym (append_assoc x (element_row (d + p) 0 es) (bytes_below_all es)))
