-- Rows as a loop copies them: what it has made, and what it has left.
use Rattle.std.proofs.Common.{◌≡◌, ℕ, zero, suc, ◌+◌, ◌-◌, ◌*◌, ◌<◌, ◌≤◌, ◌⊎◌, inl, inr, List, ◌++◌, length, take, drop, refl, sym, ap, subst, ◌∙◌, arith}
use Rattle.std.specs.Prelude.{Err, Ok, OnErr, OnOk, Option, Result, Some, None, ⊤, option_map}
use Rattle.std.proofs.lemmas.List.{append-nil, length-append}
use Rattle.capnp_device.specs.declared.error.Error.{Error}
use Rattle.capnp_device.specs.declared.error.ErrorKind.{ErrorKind}
use Rattle.capnp_wire.specs.Edits.{IsCopyRefusal}
use Rattle.capnp_wire.specs.Encoding.{bytes_below_all, bytes_of, bytes_of_all, element_row, packed_bits, pointer_row, pointer_word, spelled_number}
use Rattle.capnp_wire.specs.Facts.Bytes.{length_spelled}
use Rattle.capnp_wire.specs.Facts.Indexed.{length_bits_from}
use Rattle.capnp_wire.specs.Facts.EncodedSizes.{length_bytes_of, length_bytes_of_all, length_element, length_element_row, length_pointer_row}
use Rattle.capnp_wire.specs.Facts.Filling.{length_put, put_next}
use Rattle.capnp_wire.specs.Steps.Filling.{elements_end, bytes_with, row_end, with_encoded_element, with_encoded_elements, with_pointers, words_from}
use Rattle.capnp_wire.specs.Locate.{list_words}
use Rattle.capnp_wire.specs.Place.{bits_from}
use Rattle.capnp_wire.specs.Reading.{refusal}
use Rattle.capnp_wire.specs.Tree.{Bits, MoreStructs, MoreTrees, NoStructs, NoTrees, StructTree, Structs, Tree, Trees, nth_struct, nth_tree, struct_count, tree_count}
use Rattle.capnp_wire.specs.WellFormed.{AreElements, AreWellFormed}
use Rattle.capnp_wire.specs.Words.{first_fault, first_fault_of_all, first_fault_of_elements, first_of, words_of, words_of_all}
use Rattle.capnp_wire.specs.declared.fault.Fault.{Fault}
use Rattle.capnp_arena.specs.Steps.Copies.{Spares}
use Rattle.capnp_arena.specs.Shape.{word_count}
use Rattle.capnp_arena.proofs.Encodings.{no_elements, no_pointers}
use Rattle.capnp_arena.proofs.Puts.{longer_same, put_before, put_behind}
use Rattle.capnp_arena.specs.Facts.Shapes.{element_end}

-- ---- words that are spared ----

pub spares_itself : (f n : ℕ) (a : List ℕ) → Spares f n a a
spares_itself f n a = record { longer = omega arith; stays = λ k l o. refl }

pub spares_then : (f n g m : ℕ) (a b c : List ℕ) → ((k : ℕ) → 8 * suc k ≤ length a → (g ≤ k) × (k < g + m) → (f ≤ k) × (k < f + n)) → Spares f n a b → Spares g m b c → Spares f n a c
spares_then f n g m a b c i x y = record {
  longer = omega (arith, x.longer, y.longer);
  stays = λ k l o. y.stays k (omega (arith, l, x.longer)) (λ r. o (i k l r)) ∙ x.stays k l o;
}

pub spares_more : (f n g m : ℕ) (a b : List ℕ) → ((k : ℕ) → 8 * suc k ≤ length a → (g ≤ k) × (k < g + m) → (f ≤ k) × (k < f + n)) → Spares g m a b → Spares f n a b
spares_more f n g m a b i x = record { longer = x.longer; stays = λ k l o. x.stays k l (λ r. o (i k l r)) }

-- what is appended
pub spares_append : (f n : ℕ) (a x b : List ℕ) → b ≡ a ++ x → Spares f n a b
spares_append f n a x b e = record {
  longer = omega (arith, ap length e, length-append a x);
  stays = λ k l o. ap (λ z. take 8 (drop (8 * k) z)) e ∙ longer_same a x k l;
}

-- what is put
pub spares_put : (at n : ℕ) (x a b : List ℕ) → length x ≤ 8 * n → 8 * at + length x ≤ length a → b ≡ bytes_with (8 * at) x a → Spares at n a b
spares_put at n x a b s h e = record {
  longer = omega (arith, ap length e, length_put (8 * at) x a h);
  stays = λ k l o. elim (side k) [
    | inl q ↦ ap (λ z. take 8 (drop (8 * k) z)) e ∙ put_before (8 * at) x a k h (omega (arith, q))
    | inr q ↦ elim q [
      | inl r ↦ ap (λ z. take 8 (drop (8 * k) z)) e ∙ put_behind (8 * at) x a k 8 h (omega (arith, r, s))
      | inr r ↦ absurd (o r)
    ]
  ];
}
  where
    side : (k : ℕ) → (k < at) ⊎ ((at + n ≤ k) ⊎ ((at ≤ k) × (k < at + n)))
    side k = grind arith

pub kept_then : (a b c : List ℕ) → Spares 0 0 a b → Spares 0 0 b c → Spares 0 0 a c
kept_then a b c x y = spares_then 0 0 0 0 a b c (λ k l r. r) x y

-- what is appended, or refused and then not
pub added_kept : {E : Type 0} (r : Result ⊤ E) (a x b : List ℕ) → OnOk r (b ≡ a ++ x) → OnErr r (b ≡ a) → Spares 0 0 a b
added_kept (Ok o) a x b h g = spares_append 0 0 a x b h
added_kept (Err e) a x b h g = subst (Spares 0 0 a) (sym g) (spares_itself 0 0 a)

-- words past the end, which are filled then
pub room_kept : (at n : ℕ) (a x b c : List ℕ) → length a ≡ 8 * at → b ≡ a ++ x → Spares at n b c → Spares 0 0 a c
room_kept at n a x b c w e k = record {
  longer = omega (arith, ap length e, length-append a x, k.longer);
  stays = λ j l o. k.stays j (omega (arith, l, ap length e, length-append a x)) (λ r. omega (arith, r.0, l, w)) ∙ (spares_append 0 0 a x b e).stays j l o;
}

-- a struct's data, and its pointers after it
pub element_kept : (at d p : ℕ) (x a b c : List ℕ) → length x ≡ 8 * d → 8 * at + length x ≤ length a → b ≡ bytes_with (8 * at) x a → Spares (at + d) p b c → Spares at (d + p) a c
element_kept at d p x a b c w l e k =
    spares_then at (d + p) (at + d) p a b c (λ j m r. (omega (arith, r.0), omega (arith, r.1))) (spares_more at (d + p) at d a b (λ j m r. (r.0, omega (arith, r.1))) (spares_put at d x a b (omega (arith, w)) l e)) k

-- a pointer, and what is appended for it
pub pointer_spared : (at w : ℕ) (a b c : List ℕ) → 8 * at + 8 ≤ length a → b ≡ bytes_with (8 * at) (spelled_number 8 w) a → Spares 0 0 b c → Spares at 1 a c
pointer_spared at w a b c l e k =
    spares_then at 1 0 0 a b c (λ j m r. absurd (omega (arith, r.1))) (spares_put at 1 (spelled_number 8 w) a b (omega (arith, length_spelled 8 w)) (omega (arith, length_spelled 8 w, l)) e) k

-- ---- refusals ----

refusal_first : (f g : Option Fault) (k : ErrorKind) → option_map refusal f ≡ Some k → option_map refusal (first_of f g) ≡ Some k
refusal_first None g k h = cc
refusal_first (Some fault) g k h = h

-- a part is refused: so is the whole that begins with it
pub first_refused : (e : Error) (f g h : Option Fault) → first_of f g ≡ h → IsCopyRefusal e f → IsCopyRefusal e h
first_refused e f g h q r = subst (IsCopyRefusal e) q (λ n. refusal_first f g e.kind (r n))

pub first_none : (f g h : Option Fault) → f ≡ None → first_of f g ≡ h → g ≡ h
first_none f g h e q = sym (ap (λ x. first_of x g) e) ∙ q

-- ---- what is left of a row ----

abbrev pub trees_after : ℕ → Trees → Trees
trees_after zero ts = ts
trees_after (suc i) NoTrees = NoTrees
trees_after (suc i) (MoreTrees t ts) = trees_after i ts

trees_after_next : (i : ℕ) (ts : Trees) → i < tree_count ts → trees_after i ts ≡ MoreTrees (nth_tree ts i) (trees_after (suc i) ts)
trees_after_next i NoTrees h = absurd (omega (arith, h))
trees_after_next zero (MoreTrees t ts) h = refl
trees_after_next (suc i) (MoreTrees t ts) h = trees_after_next i ts (omega (arith, h))

pub trees_after_end : (i : ℕ) (ts : Trees) → tree_count ts ≤ i → trees_after i ts ≡ NoTrees
trees_after_end zero NoTrees h = refl
trees_after_end (suc i) NoTrees h = refl
trees_after_end zero (MoreTrees t ts) h = absurd (omega (arith, h))
trees_after_end (suc i) (MoreTrees t ts) h = trees_after_end i ts (omega (arith, h))

trees_after_count : (i : ℕ) (ts : Trees) → tree_count (trees_after i ts) ≡ tree_count ts - i
trees_after_count zero ts = omega arith
trees_after_count (suc i) NoTrees = omega arith
trees_after_count (suc i) (MoreTrees t ts) = let e = trees_after_count i ts in omega (arith, e)

trees_after_held : (i : ℕ) (ts : Trees) → AreWellFormed ts → AreWellFormed (trees_after i ts)
trees_after_held zero ts h = h
trees_after_held (suc i) NoTrees h = h
trees_after_held (suc i) (MoreTrees t ts) h = trees_after_held i ts h.1

abbrev pub structs_after : ℕ → Structs → Structs
structs_after zero es = es
structs_after (suc i) NoStructs = NoStructs
structs_after (suc i) (MoreStructs bytes ps es) = structs_after i es

structs_after_next : (i : ℕ) (es : Structs) → i < struct_count es → structs_after i es ≡ MoreStructs (nth_struct es i).bytes (nth_struct es i).pointers (structs_after (suc i) es)
structs_after_next i NoStructs h = absurd (omega (arith, h))
structs_after_next zero (MoreStructs bytes ps es) h = refl
structs_after_next (suc i) (MoreStructs bytes ps es) h = structs_after_next i es (omega (arith, h))

structs_after_end : (i : ℕ) (es : Structs) → struct_count es ≤ i → structs_after i es ≡ NoStructs
structs_after_end zero NoStructs h = refl
structs_after_end (suc i) NoStructs h = refl
structs_after_end zero (MoreStructs bytes ps es) h = absurd (omega (arith, h))
structs_after_end (suc i) (MoreStructs bytes ps es) h = structs_after_end i es (omega (arith, h))

structs_after_count : (i : ℕ) (es : Structs) → struct_count (structs_after i es) ≡ struct_count es - i
structs_after_count zero es = omega arith
structs_after_count (suc i) NoStructs = omega arith
structs_after_count (suc i) (MoreStructs bytes ps es) = let e = structs_after_count i es in omega (arith, e)

structs_after_held : (d p i : ℕ) (es : Structs) → AreElements d p es → AreElements d p (structs_after i es)
structs_after_held d p zero es h = h
structs_after_held d p (suc i) NoStructs h = h
structs_after_held d p (suc i) (MoreStructs bytes ps es) h = structs_after_held d p i es h.4

-- ---- room that is filled ----

-- one more pointer of a row, with what it leads to
pointer_filled : (at : ℕ) (t : Tree) (ts : Trees) (o o2 : List ℕ) → AreWellFormed (MoreTrees t ts) → row_end at (MoreTrees t ts) ≤ length o → o2 ≡ bytes_with at (spelled_number 8 (pointer_word (words_from at o - 1) t)) o ++ bytes_of t
    → (length o2 ≡ length o + 8 * words_of t) × (with_pointers (at + 8) ts o2 ≡ with_pointers at (MoreTrees t ts) o)
pointer_filled at t ts o o2 held room e =
    let n : ℕ = tree_count ts in
    let g : ℕ = words_from (row_end at (MoreTrees t ts)) o in
    let gap : words_from at o - 1 ≡ n + g = omega (arith, room) in
    let x : List ℕ = spelled_number 8 (pointer_word (n + g) t) in
    let y : List ℕ = pointer_row (g + words_of t) ts in
    let two : o2 ≡ bytes_with at x o ++ bytes_of t = e ∙ ap (λ k. bytes_with at (spelled_number 8 (pointer_word k t)) o ++ bytes_of t) gap in
    let size : length o2 ≡ length o + 8 * words_of t = omega (arith, ap length two, length-append (bytes_with at x o) (bytes_of t), length_put at x o (omega (arith, room)), length_bytes_of t held.0) in
    let later : words_from (row_end (at + 8) ts) o2 ≡ g + words_of t = omega (arith, size, room) in (
      size,
      ap (λ k. bytes_with (at + 8) (pointer_row k ts) o2 ++ bytes_of_all ts) later
          ∙ ap (λ z. bytes_with (at + 8) y z ++ bytes_of_all ts) two
          ∙ put_next at x y o (bytes_of t) (bytes_of_all ts) (omega (arith, length_pointer_row (g + words_of t) ts, room)),
    )

-- one more struct of a list
element_filled : (d p at : ℕ) (bytes : List ℕ) (ps : Trees) (es : Structs) (o o2 : List ℕ) → AreElements d p (MoreStructs bytes ps es) → elements_end (d + p) at (MoreStructs bytes ps es) ≤ length o → o2 ≡ with_encoded_element at (record { bytes = bytes; pointers = ps }) o
    → (length o2 ≡ length o + 8 * words_of_all ps) × (with_encoded_elements (d + p) (at + 8 * (d + p)) es o2 ≡ with_encoded_elements (d + p) at (MoreStructs bytes ps es) o)
element_filled d p at bytes ps es o o2 h room e =
    let g : ℕ = words_from (elements_end (d + p) at (MoreStructs bytes ps es)) o in
    let end : row_end (at + length bytes) ps ≡ at + 8 * (d + p) = omega (arith, h.1, h.2) in
    let gap : words_from (row_end (at + length bytes) ps) o ≡ struct_count es * (d + p) + g = omega (arith, end, room) in
    let x : List ℕ = bytes ++ pointer_row (struct_count es * (d + p) + g) ps in
    let y : List ℕ = element_row (d + p) (g + words_of_all ps) es in
    let own : length x ≡ 8 * (d + p) = length_element d p (struct_count es * (d + p) + g) bytes ps h.1 h.2 in
    let two : o2 ≡ bytes_with at x o ++ bytes_of_all ps = e ∙ ap (λ k. bytes_with at (bytes ++ pointer_row k ps) o ++ bytes_of_all ps) gap in
    let size : length o2 ≡ length o + 8 * words_of_all ps = omega (arith, ap length two, length-append (bytes_with at x o) (bytes_of_all ps), length_put at x o (omega (arith, own, room)), length_bytes_of_all ps h.3) in
    let later : words_from (elements_end (d + p) (at + 8 * (d + p)) es) o2 ≡ g + words_of_all ps = omega (arith, size, room) in (
      size,
      ap (λ k. bytes_with (at + 8 * (d + p)) (element_row (d + p) k es) o2 ++ bytes_below_all es) later
          ∙ ap (λ z. bytes_with (at + 8 * (d + p)) y z ++ bytes_below_all es) two
          ∙ ap (λ k. bytes_with (at + k) y (bytes_with at x o ++ bytes_of_all ps) ++ bytes_below_all es) (sym own)
          ∙ put_next at x y o (bytes_of_all ps) (bytes_below_all es) (omega (arith, own, length_element_row d p (g + words_of_all ps) es h.4, room)),
    )

-- ---- objects without pointers ----

pub bits_appended : (b : List ℕ) (n : ℕ) → packed_bits (8 * list_words 1 n) (bits_from b 0 n) ≡ bytes_of (Bits (bits_from b 0 n))
bits_appended b n = ap (λ k. packed_bits (8 * list_words 1 k) (bits_from b 0 n)) (sym (length_bits_from b 0 n)) ∙ sym (append-nil (packed_bits (8 * list_words 1 (length (bits_from b 0 n))) (bits_from b 0 n)))

-- ---- loops ----

-- a loop has filled the first pointers of a row, and met no fault
pub record IsRowFilled (at i : ℕ) (ts : Trees) (old now : List ℕ) : Type 0 where
  pub done : with_pointers (8 * (at + i)) (trees_after i ts) now ≡ with_pointers (8 * at) ts old
  pub faults : first_fault_of_all (trees_after i ts) ≡ first_fault_of_all ts
  pub kept : Spares at (tree_count ts) old now

pub row_begins : (at : ℕ) (ts : Trees) (old : List ℕ) → IsRowFilled at 0 ts old old
row_begins at ts old = record {
  done = ap (λ k. with_pointers (8 * k) ts old) {x = at + 0} {y = at} (omega arith);
  faults = refl;
  kept = spares_itself at (tree_count ts) old;
}

module _ (at i : ℕ) (ts : Trees) (old now : List ℕ) (h : IsRowFilled at i ts old now) where
  -- as the loop ends
  module _ (all : tree_count ts ≤ i) where
    pub row_filled : now ≡ with_pointers (8 * at) ts old
    row_filled = sym (ap (λ us. with_pointers (8 * (at + i)) us now) (trees_after_end i ts all) ∙ no_pointers (8 * (at + i)) now) ∙ h.done

    pub row_sound : first_fault_of_all ts ≡ None
    row_sound = sym h.faults ∙ ap first_fault_of_all (trees_after_end i ts all)

  -- one more pointer, which leads to t
  module _ (t : Tree) (here : i < tree_count ts) (is : t ≡ nth_tree ts i) where
    next : trees_after i ts ≡ MoreTrees t (trees_after (suc i) ts)
    next = trees_after_next i ts here ∙ ap (λ x. MoreTrees x (trees_after (suc i) ts)) (sym is)

    next_faults : first_of (first_fault t) (first_fault_of_all (trees_after (suc i) ts)) ≡ first_fault_of_all ts
    next_faults = rw next at h.faults

    pub pointer_refused : (e : Error) → IsCopyRefusal e (first_fault t) → IsCopyRefusal e (first_fault_of_all ts)
    pointer_refused e r = first_refused e (first_fault t) (first_fault_of_all (trees_after (suc i) ts)) (first_fault_of_all ts) next_faults r

    -- whatever came of it, the words round the row are spared
    pub pointer_kept : (new : List ℕ) → Spares (at + i) 1 now new → Spares at (tree_count ts) old new
    pointer_kept new k = spares_then at (tree_count ts) (at + i) 1 old now new (λ j l r. (omega (arith, r.0), omega (arith, r.1, here))) h.kept k

    pub pointer_next : (new : List ℕ) → length now ≡ 8 * word_count now → at + tree_count ts ≤ word_count now → AreWellFormed ts → first_fault t ≡ None
        → new ≡ bytes_with (8 * (at + i)) (spelled_number 8 (pointer_word (word_count now - suc (at + i)) t)) now ++ bytes_of t → Spares (at + i) 1 now new → IsRowFilled at (i + 1) ts old new
    pointer_next new whole room held none e k =
        let us : Trees = trees_after (suc i) ts in
        let w : AreWellFormed (MoreTrees t us) = subst AreWellFormed next (trees_after_held i ts held) in
        let n : tree_count us ≡ tree_count ts - suc i = trees_after_count (suc i) ts in
        let r : row_end (8 * (at + i)) (MoreTrees t us) ≤ length now = omega (arith, n, room, whole, here) in
        let g : word_count now - suc (at + i) ≡ words_from (8 * (at + i)) now - 1 = omega (arith, whole) in
        let f = pointer_filled (8 * (at + i)) t us now new w r (e ∙ ap (λ m. bytes_with (8 * (at + i)) (spelled_number 8 (pointer_word m t)) now ++ bytes_of t) g) in
        subst (λ m. IsRowFilled at m ts old new) {x = suc i} {y = i + 1} (omega arith) (record {
          done = ap (λ m. with_pointers m us new) {x = 8 * (at + suc i)} {y = 8 * (at + i) + 8} (omega arith) ∙ f.1 ∙ ap (λ vs. with_pointers (8 * (at + i)) vs now) (sym next) ∙ h.done;
          faults = first_none (first_fault t) (first_fault_of_all us) (first_fault_of_all ts) none next_faults;
          kept = pointer_kept new k;
        })

-- the same of structs in a row
pub record AreStructsFilled (at i d p : ℕ) (es : Structs) (old now : List ℕ) : Type 0 where
  pub done : with_encoded_elements (d + p) (8 * (at + i * (d + p))) (structs_after i es) now ≡ with_encoded_elements (d + p) (8 * at) es old
  pub faults : first_fault_of_elements (structs_after i es) ≡ first_fault_of_elements es
  pub kept : Spares at (struct_count es * (d + p)) old now

row_parts : (n i m z : ℕ) → n ≡ i + suc m → n * z ≡ i * z + suc m * z
row_parts n i m z e = ap (λ k. k * z) e ∙ omega arith

module _ (at i d p : ℕ) (es : Structs) (old now : List ℕ) (h : AreStructsFilled at i d p es old now) where
  -- as the loop ends
  module _ (all : struct_count es ≤ i) where
    pub structs_filled : now ≡ with_encoded_elements (d + p) (8 * at) es old
    structs_filled = sym (ap (λ us. with_encoded_elements (d + p) (8 * (at + i * (d + p))) us now) (structs_after_end i es all) ∙ no_elements (d + p) (8 * (at + i * (d + p))) now) ∙ h.done

    pub structs_sound : first_fault_of_elements es ≡ None
    structs_sound = sym h.faults ∙ ap first_fault_of_elements (structs_after_end i es all)

  -- one more struct
  module _ (s : StructTree) (here : i < struct_count es) (is : s ≡ nth_struct es i) where
    struct_next : structs_after i es ≡ MoreStructs s.bytes s.pointers (structs_after (suc i) es)
    struct_next = structs_after_next i es here ∙ ap (λ (x : StructTree). MoreStructs x.bytes x.pointers (structs_after (suc i) es)) (sym is)

    struct_faults : first_of (first_fault_of_all s.pointers) (first_fault_of_elements (structs_after (suc i) es)) ≡ first_fault_of_elements es
    struct_faults = rw struct_next at h.faults

    inside_row : i * (d + p) + (d + p) ≤ struct_count es * (d + p)
    inside_row = element_end i (struct_count es) (d + p) here

    pub struct_refused : (e : Error) → IsCopyRefusal e (first_fault_of_all s.pointers) → IsCopyRefusal e (first_fault_of_elements es)
    struct_refused e r = first_refused e (first_fault_of_all s.pointers) (first_fault_of_elements (structs_after (suc i) es)) (first_fault_of_elements es) struct_faults r

    pub struct_kept : (new : List ℕ) (n : ℕ) → n ≡ d + p → Spares (at + i * (d + p)) n now new → Spares at (struct_count es * (d + p)) old new
    struct_kept new n m k = spares_then at (struct_count es * (d + p)) (at + i * (d + p)) n old now new (λ j l r. (omega (arith, r.0), omega (arith, r.1, m, inside_row))) h.kept k

    pub struct_after : (new : List ℕ) (n : ℕ) → n ≡ d + p → length now ≡ 8 * word_count now → at + struct_count es * (d + p) ≤ word_count now → AreElements d p es → first_fault_of_all s.pointers ≡ None
        → new ≡ with_encoded_element (8 * (at + i * (d + p))) s now → Spares (at + i * (d + p)) n now new → AreStructsFilled at (i + 1) d p es old new
    struct_after new n m whole room held none e k =
        let us : Structs = structs_after (suc i) es in
        let w : AreElements d p (MoreStructs s.bytes s.pointers us) = subst (AreElements d p) struct_next (structs_after_held d p i es held) in
        let c : struct_count us ≡ struct_count es - suc i = structs_after_count (suc i) es in
        let x : struct_count es * (d + p) ≡ i * (d + p) + (suc (struct_count us)) * (d + p) = row_parts (struct_count es) i (struct_count us) (d + p) (omega (arith, c, here)) in
        let r : elements_end (d + p) (8 * (at + i * (d + p))) (MoreStructs s.bytes s.pointers us) ≤ length now = omega (arith, x, room, whole) in
        let f = element_filled d p (8 * (at + i * (d + p))) s.bytes s.pointers us now new w r e in
        subst (λ j. AreStructsFilled at j d p es old new) {x = suc i} {y = i + 1} (omega arith) (record {
          done = ap (λ j. with_encoded_elements (d + p) j us new) {x = 8 * (at + suc i * (d + p))} {y = 8 * (at + i * (d + p)) + 8 * (d + p)} (omega arith) ∙ f.1 ∙ ap (λ vs. with_encoded_elements (d + p) (8 * (at + i * (d + p))) vs now) (sym struct_next) ∙ h.done;
          faults = first_none (first_fault_of_all s.pointers) (first_fault_of_elements us) (first_fault_of_elements es) none struct_faults;
          kept = struct_kept new n m k;
        })
