-- Bytes that stand at a word of a segment.
use Rattle.std.proofs.Common.{◌≡◌, ℕ, ◌+◌, ◌*◌, ◌/◌, ◌<◌, ◌≤◌, ◌^◌, List, ◌++◌, length, take, drop, refl, sym, ap, ◌∙◌, arith, subst, true}
use Rattle.std.proofs.lemmas.List.{append_assoc, drop-drop, take_at, drop_at, length-append}
use Rattle.std.proofs.lemmas.Bool.Decides.{nat_tests}
use Rattle.capnp_wire.specs.Slot.{little_endian, word_at}
use Rattle.capnp_wire.specs.Locate.{lies}
use Rattle.capnp_wire.specs.Place.{bytes_at}
use Rattle.capnp_wire.specs.Encoding.{spelled_number}
pub use Rattle.capnp_wire.specs.Facts.Bytes.{length_spelled, little_endian_spelled}

-- these bytes stand at that word, and others follow them
pub record Stands (segment : List ℕ) (w : ℕ) (xs : List ℕ) : Type 0 where
  pub rest : List ℕ
  pub within : 8 * w + length xs ≤ length segment
  pub is : drop (8 * w) segment ≡ xs ++ rest

module _ (segment : List ℕ) where
  -- the first part of what stands there
  pub stands_left : (w : ℕ) (xs ys : List ℕ) → Stands segment w (xs ++ ys) → Stands segment w xs
  stands_left w xs ys s = record {
    rest = ys ++ s.rest;
    within = omega (arith, s.within, length-append xs ys);
    is = s.is ∙ append_assoc xs ys s.rest;
  }

  -- the part after so many words
  pub stands_right : (w k : ℕ) (xs ys : List ℕ) → length xs ≡ 8 * k → Stands segment w (xs ++ ys) → Stands segment (w + k) ys
  stands_right w k xs ys e s =
      let p : 8 * (w + k) ≡ 8 * w + 8 * k = omega arith in
      record {
        rest = s.rest;
        within = omega (arith, s.within, length-append xs ys);
        is = ap (λ n. drop n segment) p ∙ sym (drop-drop (8 * k) (8 * w) segment) ∙ ap (drop (8 * k)) (s.is ∙ append_assoc xs ys s.rest) ∙ drop_at xs (ys ++ s.rest) (8 * k) e;
      }

  -- the first part, read
  pub stands_first : (w n : ℕ) (xs ys : List ℕ) → length xs ≡ n → Stands segment w (xs ++ ys) → bytes_at segment w n ≡ xs
  stands_first w n xs ys e s = ap (take n) (s.is ∙ append_assoc xs ys s.rest) ∙ take_at xs (ys ++ s.rest) n e

  -- all of it, read
  pub stands_all : (w n : ℕ) (xs : List ℕ) → length xs ≡ n → Stands segment w xs → bytes_at segment w n ≡ xs
  stands_all w n xs e s = ap (take n) s.is ∙ take_at xs s.rest n e

  -- its words lie in the segment
  pub stands_lies : (w k : ℕ) (xs : List ℕ) → length xs ≡ 8 * k → Stands segment w xs → lies segment (w + k) ≡ true
  stands_lies w k xs e s =
      let p : 8 * w + length xs ≤ length segment = s.within in
      let q : w + k ≤ length segment / 8 = omega arith in
      grind (arith, nat_tests)

  -- the same word, told otherwise
  pub stands_at : (xs : List ℕ) (v w : ℕ) → v ≡ w → Stands segment v xs → Stands segment w xs
  stands_at xs v w e s = subst (λ x. Stands segment x xs) e s

-- a word that is spelled there
pub stands_word : (segment : List ℕ) (w n : ℕ) → n < 2 ^ 64 → Stands segment w (spelled_number 8 n) → word_at segment w ≡ n
stands_word segment w n h s = ap little_endian (stands_all segment w 8 (spelled_number 8 n) refl s) ∙ little_endian_spelled 8 n h
