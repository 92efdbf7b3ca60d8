-- What was encoded is read back: by induction on the tree, wherever it stands in a segment.
use Rattle.std.proofs.Common.{◌≡◌, ℕ, suc, ◌+◌, ◌-◌, ◌*◌, ◌/◌, ◌<◌, ◌^◌, inl, inr, List, [], ◌++◌, length, refl, sym, ap, ◌∙◌, arith, subst, true, cond, ◌==◌, Option, Some, None}
use Rattle.std.proofs.lemmas.List.{length-append}
use Rattle.std.proofs.lemmas.Bool.{cases_eq}
use Rattle.capnp_wire.specs.Tree.{Tree, Null, Struct, Voids, Bits, Numbers, Pointers, Composite, FaultLeaf, Trees, NoTrees, MoreTrees, Structs, NoStructs, MoreStructs, StructTree, tree_count, struct_count, trees_from, structs_from}
use Rattle.capnp_wire.specs.Locate.{Segments, lies, list_words}
use Rattle.capnp_wire.specs.Place.{tree_at, tree_below, struct_at, struct_tree}
use Rattle.capnp_wire.specs.WellFormed.{IsWellFormed, AreWellFormed, AreElements}
use Rattle.capnp_wire.specs.Words.{words_of, words_of_all, words_below_all, first_of, first_fault, first_fault_of_all, first_fault_of_elements}
use Rattle.capnp_wire.specs.Depth.{IsBelow, AreBelow, ElementsAreBelow, IsShallow}
use Rattle.capnp_wire.specs.Encoding.{spelled_number, packed_bits, padded_bytes, struct_word, pointer_word, pointer_row, element_row, own_bytes, bytes_below, bytes_of_all, bytes_below_all, bytes_of, encoding_of}
use Rattle.capnp_wire.specs.declared.fault.Fault.{Fault}
use Rattle.capnp_wire.specs.Facts.Stands.{Stands, stands_left, stands_right, stands_first, stands_lies, stands_at}
use Rattle.capnp_wire.specs.Facts.EncodedSizes.{length_pointer_row, length_element, length_element_row, length_bytes_of_all, length_bytes_of}
use Rattle.capnp_wire.specs.Facts.PointerWords.{not_equal, target_struct, target_list, target_composite}
use Rattle.capnp_wire.specs.Facts.EncodedObjects.{at_struct, at_list, at_composite, reads_null, reads_zero, reads_voids, reads_bits, reads_numbers}

-- where neither of two has a fault, the first has none
pub none_first : (a b : Option Fault) → first_of a b ≡ None → a ≡ None
none_first None b e = refl
none_first (Some k) b e = e

-- nor has the other
pub none_later : (a b : Option Fault) → first_of a b ≡ None → b ≡ None
none_later None b e = e
none_later (Some k) b e = cc

module _ (segments : Segments) (segment : List ℕ) where
  -- a struct of d data words and p pointers, whose pointers are read as ps
  struct_back : (bytes : List ℕ) (f : ℕ → Tree) (a d p : ℕ) (ps : Trees) (more : List ℕ) → length bytes ≡ 8 * d → tree_count ps ≡ p → Stands segment a (bytes ++ more) → trees_from f (a + d) (tree_count ps) ≡ ps → struct_tree (struct_at f segment d p a) ≡ Struct bytes ps
  struct_back bytes f a d p ps more hd hp s e =
      ap (λ x. Struct x (trees_from f (a + d) p)) (stands_first segment a (8 * d) bytes more hd s)
      ∙ ap (λ n. Struct bytes (trees_from f (a + d) n)) (sym hp)
      ∙ ap (Struct bytes) e

  -- the same as the first of a row of elements
  element_back : (s : StructTree) (bytes : List ℕ) (ps : Trees) (more es : Structs) → struct_tree s ≡ Struct bytes ps → more ≡ es → MoreStructs s.bytes s.pointers more ≡ MoreStructs bytes ps es
  element_back s bytes ps more es e h =
      let b : s.bytes ≡ bytes = cc in
      let p : s.pointers ≡ ps = cc in
      cc

  mutual
    -- the tree that a pointer leads to
    pub read_back : (t : Tree) (l w g : ℕ) → IsWellFormed t → first_fault t ≡ None → IsBelow l t → g + words_of t < 2 ^ 29 → Stands segment w (spelled_number 8 (pointer_word g t)) → Stands segment (w + 1 + g) (own_bytes t ++ bytes_below t) → tree_below l segments segment w ≡ t
    read_back Null l w g well none wi bound s there = reads_null segments segment l w s
    read_back (Struct b ps) l w g well none wi bound s there =
        let a : ℕ = w + 1 + g in
        let d : ℕ = length b / 8 in
        let p : ℕ = tree_count ps in
        let own : Stands segment a (b ++ pointer_row 0 ps) = stands_left segment a (b ++ pointer_row 0 ps) (bytes_of_all ps) there in
        let row : Stands segment (a + d) (pointer_row 0 ps) = stands_right segment a d b (pointer_row 0 ps) well.1 own in
        let len : length (b ++ pointer_row 0 ps) ≡ 8 * (d + p) = length_element d p 0 b ps well.1 refl in
        let below_it : Stands segment (a + (d + p)) (bytes_of_all ps) = stands_right segment a (d + p) (b ++ pointer_row 0 ps) (bytes_of_all ps) len there in
        let at_row : Stands segment (a + d + p + 0) (bytes_of_all ps) = stands_at segment (bytes_of_all ps) (a + (d + p)) (a + d + p + 0) (omega arith) below_it in
        let back : trees_from (tree_below (l - 1) segments segment) (a + d) p ≡ ps = all_back ps (l - 1) (a + d) 0 well.4 none wi.1 (omega arith) row at_row in
        elim (cases_eq (d + p) 0) [
          | inl z ↦
              let s0 : Stands segment w (spelled_number 8 (struct_word (2 ^ 30 - 1) 0 0)) = subst (λ n. Stands segment w (spelled_number 8 (cond (n == 0) (struct_word (2 ^ 30 - 1) 0 0) (struct_word g d p)))) z s in
              reads_zero segments segment l w b ps well.1 z wi.0 s0
          | inr nz ↦
              let s1 : Stands segment w (spelled_number 8 (struct_word g d p)) = subst (λ c. Stands segment w (spelled_number 8 (cond c (struct_word (2 ^ 30 - 1) 0 0) (struct_word g d p)))) (not_equal (d + p) 0 nz) s in
              let q : a + (d + p) ≡ a + d + p = omega arith in
              let lie : lies segment (a + d + p) ≡ true = ap (lies segment) (sym q) ∙ stands_lies segment a (d + p) (b ++ pointer_row 0 ps) len own in
              at_struct segments segment l w a d p wi.0 (target_struct segments segment w g (omega arith) d p well.2 well.3 (omega arith) s1 lie)
              ∙ struct_back b (tree_below (l - 1) segments segment) a d p ps (pointer_row 0 ps) well.1 refl own back
        ]
    read_back (Voids n) l w g well none wi bound s there = reads_voids segments segment l w g (omega arith) n well wi s there
    read_back (Bits bs) l w g well none wi bound s there = reads_bits segments segment l w g (omega arith) bs well wi s (stands_left segment (w + 1 + g) (packed_bits (8 * list_words 1 (length bs)) bs) [] there)
    read_back (Numbers v b) l w g well none wi bound s there = reads_numbers segments segment l w g (omega arith) b (stands_left segment (w + 1 + g) (padded_bytes b) [] there) v well.1 well.2 well.3 wi s
    read_back (Pointers ps) l w g well none wi bound s there =
        let a : ℕ = w + 1 + g in
        let p : ℕ = tree_count ps in
        let row : Stands segment a (pointer_row 0 ps) = stands_left segment a (pointer_row 0 ps) (bytes_of_all ps) there in
        let below_it : Stands segment (a + p) (bytes_of_all ps) = stands_right segment a p (pointer_row 0 ps) (bytes_of_all ps) (length_pointer_row 0 ps) there in
        let at_row : Stands segment (a + p + 0) (bytes_of_all ps) = stands_at segment (bytes_of_all ps) (a + p) (a + p + 0) (omega arith) below_it in
        let back : trees_from (tree_below (l - 1) segments segment) a p ≡ ps = all_back ps (l - 1) a 0 well.1 none wi.1 (omega arith) row at_row in
        let q : p ≡ list_words 6 p = omega arith in
        let lie : lies segment (a + list_words 6 p) ≡ true = ap (λ m. lies segment (a + m)) (sym q) ∙ stands_lies segment a p (pointer_row 0 ps) (length_pointer_row 0 ps) row in
        at_list segments segment l w a 6 p wi.0 (λ x. omega arith) (target_list segments segment w g (omega arith) 6 p (omega arith) well.0 s lie) ∙ ap Pointers back
    read_back (Composite d p es) l w g well none wi bound s there =
        let a : ℕ = w + 1 + g in
        let c : ℕ = struct_count es in
        let tag : List ℕ = spelled_number 8 (struct_word c d p) in
        let row : List ℕ = element_row (d + p) 0 es in
        let own : Stands segment a (tag ++ row) = stands_left segment a (tag ++ row) (bytes_below_all es) there in
        let tag_at : Stands segment a tag = stands_left segment a tag row own in
        let row_at : Stands segment (a + 1) row = stands_right segment a 1 tag row refl own in
        let z : a + 1 ≡ a + 1 + 0 * (d + p) = omega arith in
        let row_from : Stands segment (a + 1 + 0 * (d + p)) row = stands_at segment row (a + 1) (a + 1 + 0 * (d + p)) z row_at in
        let len : length row ≡ 8 * (c * (d + p)) = length_element_row d p 0 es well.4 in
        let below_it : Stands segment (a + 1 + c * (d + p)) (bytes_below_all es) = stands_right segment (a + 1) (c * (d + p)) row (bytes_below_all es) len (stands_right segment a 1 tag (row ++ bytes_below_all es) refl there) in
        let below_from : Stands segment (a + 1 + 0 * (d + p) + (c * (d + p) + 0)) (bytes_below_all es) = stands_at segment (bytes_below_all es) (a + 1 + c * (d + p)) (a + 1 + 0 * (d + p) + (c * (d + p) + 0)) (omega arith) below_it in
        let back : structs_from (λ i. struct_at (tree_below (l - 2) segments segment) segment d p (a + 1 + i * (d + p))) 0 c ≡ es = elements_back es (l - 2) (a + 1) d p 0 0 well.4 none wi.1 (omega arith) row_from below_from in
        let lie : lies segment (a + 1 + c * (d + p)) ≡ true = stands_lies segment (a + 1) (c * (d + p)) row len row_at in
        at_composite segments segment l w (a + 1) c d p wi.0 (target_composite segments segment w g (omega arith) c d p well.2 well.0 well.1 well.3 s tag_at lie) ∙ ap (Composite d p) back
    read_back (FaultLeaf k) l w g well none wi bound s there = cc

    -- the trees that pointers in a row lead to
    pub all_back : (ts : Trees) (l w g : ℕ) → AreWellFormed ts → first_fault_of_all ts ≡ None → AreBelow l ts → tree_count ts + g + words_of_all ts < 2 ^ 29 → Stands segment w (pointer_row g ts) → Stands segment (w + tree_count ts + g) (bytes_of_all ts) → trees_from (tree_below l segments segment) w (tree_count ts) ≡ ts
    all_back NoTrees l w g well none wi bound s there = refl
    all_back (MoreTrees t ts) l w g well none wi bound s there =
        let n : ℕ = tree_count ts in
        let none_here : first_fault t ≡ None = none_first (first_fault t) (first_fault_of_all ts) none in
        let none_there : first_fault_of_all ts ≡ None = none_later (first_fault t) (first_fault_of_all ts) none in
        let word : List ℕ = spelled_number 8 (pointer_word (n + g) t) in
        let row : List ℕ = pointer_row (g + words_of t) ts in
        let here : Stands segment (w + 1 + (n + g)) ((own_bytes t ++ bytes_below t) ++ bytes_of_all ts) = stands_at segment ((own_bytes t ++ bytes_below t) ++ bytes_of_all ts) (w + suc n + g) (w + 1 + (n + g)) (omega arith) there in
        let first : tree_below l segments segment w ≡ t = read_back t l w (n + g) well.0 none_here wi.0 (omega arith) (stands_left segment w word row s) (stands_left segment (w + 1 + (n + g)) (own_bytes t ++ bytes_below t) (bytes_of_all ts) here) in
        let next : Stands segment (suc w) row = stands_at segment row (w + 1) (suc w) (omega arith) (stands_right segment w 1 word row refl s) in
        let after : Stands segment (w + 1 + (n + g) + words_of t) (bytes_of_all ts) = stands_right segment (w + 1 + (n + g)) (words_of t) (own_bytes t ++ bytes_below t) (bytes_of_all ts) (length_bytes_of t well.0) here in
        let after_it : Stands segment (suc w + n + (g + words_of t)) (bytes_of_all ts) = stands_at segment (bytes_of_all ts) (w + 1 + (n + g) + words_of t) (suc w + n + (g + words_of t)) (omega arith) after in
        let rest : trees_from (tree_below l segments segment) (suc w) n ≡ ts = all_back ts l (suc w) (g + words_of t) well.1 none_there wi.1 (omega arith) next after_it in
        ap (λ x. MoreTrees x (trees_from (tree_below l segments segment) (suc w) n)) first ∙ ap (MoreTrees t) rest

    -- the elements of a composite list, from index i on
    pub elements_back : (es : Structs) (l a d p i g : ℕ) → AreElements d p es → first_fault_of_elements es ≡ None → ElementsAreBelow l es → struct_count es * (d + p) + g + words_below_all es < 2 ^ 29 → Stands segment (a + i * (d + p)) (element_row (d + p) g es) → Stands segment (a + i * (d + p) + (struct_count es * (d + p) + g)) (bytes_below_all es) → structs_from (λ j. struct_at (tree_below l segments segment) segment d p (a + j * (d + p))) i (struct_count es) ≡ es
    elements_back NoStructs l a d p i g well none wi bound s there = refl
    elements_back (MoreStructs b ps es) l a d p i g well none wi bound s there =
        let x : ℕ = a + i * (d + p) in
        let c : ℕ = struct_count es in
        let h : ℕ = c * (d + p) + g in
        let f : ℕ → StructTree = λ j. struct_at (tree_below l segments segment) segment d p (a + j * (d + p)) in
        let none_here : first_fault_of_all ps ≡ None = none_first (first_fault_of_all ps) (first_fault_of_elements es) none in
        let none_there : first_fault_of_elements es ≡ None = none_later (first_fault_of_all ps) (first_fault_of_elements es) none in
        let one : List ℕ = b ++ pointer_row h ps in
        let row : List ℕ = element_row (d + p) (g + words_of_all ps) es in
        let m : suc c * (d + p) ≡ c * (d + p) + (d + p) = omega arith in
        let mi : suc i * (d + p) ≡ i * (d + p) + (d + p) = omega arith in
        let own : Stands segment x one = stands_left segment x one row s in
        let here : Stands segment (x + (d + p) + h) (bytes_of_all ps ++ bytes_below_all es) = stands_at segment (bytes_of_all ps ++ bytes_below_all es) (x + (suc c * (d + p) + g)) (x + (d + p) + h) (omega arith) there in
        let pointers_at : Stands segment (x + d) (pointer_row h ps) = stands_right segment x d b (pointer_row h ps) well.1 own in
        let q : x + (d + p) + h ≡ x + d + tree_count ps + h = omega (arith, well.2) in
        let below_it : Stands segment (x + d + tree_count ps + h) (bytes_of_all ps) = stands_at segment (bytes_of_all ps) (x + (d + p) + h) (x + d + tree_count ps + h) q (stands_left segment (x + (d + p) + h) (bytes_of_all ps) (bytes_below_all es) here) in
        let pointers : trees_from (tree_below l segments segment) (x + d) (tree_count ps) ≡ ps = all_back ps l (x + d) h well.3 none_here wi.0 (omega (arith, well.2)) pointers_at below_it in
        let first : struct_tree (f i) ≡ Struct b ps = struct_back b (tree_below l segments segment) x d p ps (pointer_row h ps) well.1 well.2 own pointers in
        let next : Stands segment (a + suc i * (d + p)) row = stands_at segment row (x + (d + p)) (a + suc i * (d + p)) (omega arith) (stands_right segment x (d + p) one row (length_element d p h b ps well.1 well.2) s) in
        let after : Stands segment (x + (d + p) + h + words_of_all ps) (bytes_below_all es) = stands_right segment (x + (d + p) + h) (words_of_all ps) (bytes_of_all ps) (bytes_below_all es) (length_bytes_of_all ps well.3) here in
        let after_it : Stands segment (a + suc i * (d + p) + (c * (d + p) + (g + words_of_all ps))) (bytes_below_all es) = stands_at segment (bytes_below_all es) (x + (d + p) + h + words_of_all ps) (a + suc i * (d + p) + (c * (d + p) + (g + words_of_all ps))) (omega arith) after in
        let rest : structs_from f (suc i) c ≡ es = elements_back es l a d p (suc i) (g + words_of_all ps) well.4 none_there wi.1 (omega arith) next after_it in
        element_back (f i) b ps (structs_from f (suc i) c) es first rest

-- a tree's encoding at the start of a segment
pub encoding_reads : (t : Tree) (segments : Segments) (rest : List ℕ) → IsWellFormed t → first_fault t ≡ None → IsShallow t → suc (words_of t) < 2 ^ 29 → tree_at 64 segments (encoding_of t ++ rest) 0 ≡ t
unfolding tree_below
encoding_reads t segments rest well none wi bound =
    let segment : List ℕ = encoding_of t ++ rest in
    let word : List ℕ = spelled_number 8 (pointer_word 0 t) in
    let all : Stands segment 0 (encoding_of t) = record { rest = rest; within = omega (arith, length-append (encoding_of t) rest); is = refl } in
    read_back segments segment t 65 0 0 well none wi (omega arith) (stands_left segment 0 word (bytes_of t) all) (stands_right segment 0 1 word (bytes_of t) refl all)
