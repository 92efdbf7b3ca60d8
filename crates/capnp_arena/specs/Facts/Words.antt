-- Words of a segment.
use Rattle.std.proofs.Common.{◌≡◌, ℕ, zero, suc, ◌+◌, ◌-◌, ◌*◌, ◌/◌, ◌^◌, ◌<◌, ◌≤◌, inl, inr, true, refl, sym, ap, subst, ◌∙◌, arith, List, [], ◌∷◌, ◌++◌, length, take, drop}
use Rattle.std.proofs.lemmas.List.{drop-drop, take-take, take-append-drop}
use Rattle.capnp_wire.specs.Place.{bytes_at}
use Rattle.capnp_wire.specs.Encoding.{spelled_number, struct_word, list_word}
use Rattle.capnp_wire.specs.Locate.{target_at, list_words, lies}
use Rattle.capnp_wire.specs.Facts.Bytes.{length_spelled}
use Rattle.capnp_wire.specs.Facts.Stands.{Stands}
use Rattle.capnp_wire.specs.Facts.PointerWords.{target_null, target_zero, target_struct, target_list, target_composite, is_at_most}
use Rattle.std.proofs.Math.Seq.{take-add}
use Rattle.capnp_arena.specs.Forest.{IsSame}
use Rattle.capnp_arena.specs.Shape.{IsTagOf, Shape, NoShape, StructIn, ListIn, CompositeIn, shape_of, shape_at, IsWordAt, Points}
use Rattle.capnp_arena.specs.Steps.Shape.{shape_target}

-- ---- a word that is spelled ----

pub stands : (bytes : List ℕ) (w word : ℕ) → IsWordAt bytes w word → Stands bytes w (spelled_number 8 word)
stands bytes w word h = record {
  rest = drop 8 (drop (8 * w) bytes);
  within = omega (arith, h.0, length_spelled 8 word);
  is = sym (take-append-drop 8 (drop (8 * w) bytes)) ∙ ap (λ x. x ++ drop 8 (drop (8 * w) bytes)) h.1;
}

-- the target of a pointer as it was written
pub target : (bytes : List ℕ) (w : ℕ) (s : Shape) → Points bytes w s → target_at (bytes ∷ []) bytes w ≡ shape_target bytes s
target bytes w NoShape h = target_null (bytes ∷ []) bytes w (stands bytes w 0 h)
target bytes w (StructIn a d p) h = elim h [
  | inl z ↦ subst (λ n. target_at (bytes ∷ []) bytes w ≡ shape_target bytes (StructIn n d p)) (sym z.0) (subst (λ n. target_at (bytes ∷ []) bytes w ≡ shape_target bytes (StructIn w n p)) (sym z.1) (subst (λ n. target_at (bytes ∷ []) bytes w ≡ shape_target bytes (StructIn w 0 n)) (sym z.2) (target_zero (bytes ∷ []) bytes w (stands bytes w (struct_word (2 ^ 30 - 1) 0 0) z.3))))
  | inr z ↦
      let e : w + 1 + (a - suc w) ≡ a = omega (arith, z.0) in
      let l : lies bytes (w + 1 + (a - suc w) + d + p) ≡ true = is_at_most (w + 1 + (a - suc w) + d + p) (length bytes / 8) (omega (arith, z.0, z.5)) in
      target_struct (bytes ∷ []) bytes w (a - suc w) z.1 d p z.2 z.3 z.4 (stands bytes w (struct_word (a - suc w) d p) z.6) l ∙ ap (λ n. shape_target bytes (StructIn n d p)) e
]
target bytes w (ListIn a size n) h =
    let e : w + 1 + (a - suc w) ≡ a = omega (arith, h.0) in
    let l : lies bytes (w + 1 + (a - suc w) + list_words size n) ≡ true = is_at_most (w + 1 + (a - suc w) + list_words size n) (length bytes / 8) (omega (arith, h.0, h.4)) in
    target_list (bytes ∷ []) bytes w (a - suc w) h.1 size n h.2 h.3 (stands bytes w (list_word (a - suc w) size n) h.5) l ∙ ap (λ x. shape_target bytes (ListIn x size n)) e
target bytes w (CompositeIn tag n d p) h =
    let e : w + 1 + (tag - suc w) ≡ tag = omega (arith, h.0) in
    let l : lies bytes (w + 1 + (tag - suc w) + 1 + n * (d + p)) ≡ true = is_at_most (w + 1 + (tag - suc w) + 1 + n * (d + p)) (length bytes / 8) (omega (arith, h.0, h.6)) in
    target_composite (bytes ∷ []) bytes w (tag - suc w) h.1 n d p h.4 h.2 h.3 h.5 (stands bytes w (list_word (tag - suc w) 7 (n * (d + p))) h.7) (subst (λ x. Stands bytes x (spelled_number 8 (struct_word n d p))) (sym e) (stands bytes tag (struct_word n d p) h.8)) l ∙ ap (λ x. shape_target bytes (CompositeIn x n d p)) e

shape_placed : (bytes : List ℕ) (s : Shape) → shape_of (shape_target bytes s) ≡ s
shape_placed bytes NoShape = refl
shape_placed bytes (StructIn a d p) = refl
shape_placed bytes (ListIn a size n) = refl
shape_placed bytes (CompositeIn tag n d p) = ap (λ x. CompositeIn x n d p) (omega arith)

pub shape : (bytes : List ℕ) (w : ℕ) (s : Shape) → Points bytes w s → shape_at bytes w ≡ s
unfolding shape_at
shape bytes w s h = ap shape_of (target bytes w s h) ∙ shape_placed bytes s

-- ---- words that stay ----

module _ (old new : List ℕ) (longer : length old ≤ length new) where
  word_kept : (w word : ℕ) → IsSame old new w → IsWordAt old w word → IsWordAt new w word
  word_kept w word s h = (omega (arith, longer, h.0), s ∙ h.1)

  -- a pointer whose word stays, and the tag of its list, leads where it did
  pub points_kept : (w : ℕ) (s : Shape) → IsSame old new w → ((k : ℕ) → IsTagOf s k → IsSame old new k) → Points old w s → Points new w s
  points_kept w NoShape e t h = word_kept w 0 e h
  points_kept w (StructIn a d p) e t h = elim h [
    | inl z ↦ inl (z.0, z.1, z.2, word_kept w (struct_word (2 ^ 30 - 1) 0 0) e z.3)
    | inr z ↦ inr (z.0, z.1, z.2, z.3, z.4, omega (arith, longer, z.5), word_kept w (struct_word (a - suc w) d p) e z.6)
  ]
  points_kept w (ListIn a size n) e t h = (h.0, h.1, h.2, h.3, omega (arith, longer, h.4), word_kept w (list_word (a - suc w) size n) e h.5)
  points_kept w (CompositeIn tag n d p) e t h =
      (h.0, h.1, h.2, h.3, h.4, h.5, omega (arith, longer, h.6), word_kept w (list_word (tag - suc w) 7 (n * (d + p))) e h.7, word_kept tag (struct_word n d p) (t tag refl) h.8)

-- words in a row that stay
pub run_same : (old new : List ℕ) (a d : ℕ) → ((k : ℕ) → a ≤ k → k < a + d → IsSame old new k) → bytes_at new a (8 * d) ≡ bytes_at old a (8 * d)
run_same old new a zero h = refl
run_same old new a (suc d) h = split new a d ∙ ap (λ x. x ++ bytes_at new (suc a) (8 * d)) (h a (omega arith) (omega arith))
    ∙ ap (λ x. bytes_at old a 8 ++ x) (run_same old new (suc a) d (λ k l m. h k (omega (arith, l)) (omega (arith, m)))) ∙ sym (split old a d)
  where
    split : (x : List ℕ) (a d : ℕ) → bytes_at x a (8 * suc d) ≡ bytes_at x a 8 ++ bytes_at x (suc a) (8 * d)
    split x a d =
        let e : 8 * suc d ≡ 8 + 8 * d = omega arith in
        let f : 8 * a + 8 ≡ 8 * suc a = omega arith in
        ap (λ n. take n (drop (8 * a) x)) e ∙ take-add 8 (8 * d) (drop (8 * a) x) ∙ ap (λ y. take 8 (drop (8 * a) x) ++ take (8 * d) y) (drop-drop 8 (8 * a) x ∙ ap (λ n. drop n x) f)

-- the bytes that lie in them
pub part_same : (old new : List ℕ) (a d n : ℕ) → n ≤ 8 * d → ((k : ℕ) → a ≤ k → k < a + d → IsSame old new k) → bytes_at new a n ≡ bytes_at old a n
part_same old new a d n f h =
    sym (take-take n (8 * d) (drop (8 * a) new) f) ∙ ap (take n) (run_same old new a d h) ∙ take-take n (8 * d) (drop (8 * a) old) f
