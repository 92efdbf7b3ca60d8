-- A tree whose encoding was added at the end, with the pointer to it, stands there.
use Rattle.std.proofs.Common.{◌≡◌, ℕ, suc, ◌+◌, ◌-◌, ◌*◌, ◌^◌, ◌<◌, ◌≤◌, inr, refl, sym, ap, ◌∙◌, arith, List, ◌++◌, length, take, drop, None}
use Rattle.std.proofs.lemmas.List.{drop_at, length-append, take-append-drop, take_all, take_at}
use Rattle.capnp_wire.specs.Encoding.{bytes_of, encoding_of, pointer_word, spelled_number}
use Rattle.capnp_wire.specs.Facts.Bytes.{length_spelled}
use Rattle.capnp_wire.specs.Facts.EncodedSizes.{length_bytes_of}
use Rattle.capnp_wire.specs.Facts.Stands.{Stands, stands_at}
use Rattle.capnp_wire.specs.Place.{bytes_at}
use Rattle.capnp_wire.specs.Tree.{Tree}
use Rattle.capnp_wire.specs.WellFormed.{IsWellFormed}
use Rattle.capnp_wire.specs.Words.{first_fault, words_of}
use Rattle.capnp_wire.specs.Steps.Filling.{bytes_with}
use Rattle.capnp_arena.specs.Steps.Copies.{Spares}
use Rattle.capnp_arena.specs.Steps.Made.{IsObjectMade}
use Rattle.capnp_arena.specs.Shape.{IsWordAt, word_count}
use Rattle.capnp_arena.specs.Forest.{Changes, Forest, tree}
use Rattle.capnp_arena.proofs.EncodedForests.{IsTreeIn, tree_stands}
use Rattle.capnp_arena.specs.Facts.Words.{run_same}
use Rattle.capnp_arena.proofs.Made.{made_added, made_length, made_longer, made_same, made_word}

-- bytes that are read at a word stand there
pub stands_part : (segment : List ℕ) (w : ℕ) (xs : List ℕ) → 8 * w + length xs ≤ length segment → bytes_at segment w (length xs) ≡ xs → Stands segment w xs
stands_part segment w xs l e = record {
  rest = drop (length xs) (drop (8 * w) segment);
  within = l;
  is = sym (take-append-drop (length xs) (drop (8 * w) segment)) ∙ ap (λ z. z ++ drop (length xs) (drop (8 * w) segment)) e;
}

-- what a pointer leads to then
pub record IsNewTree (old new : List ℕ) (at : ℕ) (t : Tree) : Type 0 where
  pub forest : Forest new at
  pub tree : tree new at ≡ t
  pub changes : Changes at old new

pub tree_made : (old new : List ℕ) (at : ℕ) (t : Tree) → IsWellFormed t → first_fault t ≡ None → IsObjectMade old new (bytes_of t) at (pointer_word (word_count old - suc at) t) → IsNewTree old new at t
tree_made old new at t well none h =
    let g : ℕ = word_count old - suc at in
    let e : at + 1 + g ≡ word_count old = omega (arith, h.inside) in
    let n : length (bytes_of t) ≡ 8 * words_of t = length_bytes_of t well in
    let size : length new ≡ 8 * (word_count old + word_count (bytes_of t)) = made_length old new (bytes_of t) at _ h in
    let word : IsWordAt new at (pointer_word g t) = made_word old new (bytes_of t) at _ h in
    let s : Stands new at (spelled_number 8 (pointer_word g t)) = stands_part new at (spelled_number 8 (pointer_word g t)) (omega (arith, word.0, length_spelled 8 (pointer_word g t))) (ap (bytes_at new at) (length_spelled 8 (pointer_word g t)) ∙ word.1) in
    let there : Stands new (word_count old) (bytes_of t) = stands_part new (word_count old) (bytes_of t) (omega (arith, size, n))
    (made_added old new (bytes_of t) at _ h (word_count old) (length (bytes_of t)) (omega arith) ∙ ap (λ k. bytes_at (bytes_of t) k (length (bytes_of t))) {x = word_count old - word_count old} {y = 0} (omega arith) ∙ take_all (length (bytes_of t)) (bytes_of t) (omega arith)) in
    let i : IsTreeIn new at (at + 1 + g) (at + 1 + g + words_of t) t = tree_stands new t at g well none (omega (arith, h.few, h.inside, n)) s (stands_at new (bytes_of t) (word_count old) (at + 1 + g) (sym e) there) in
    record {
      forest = i.forest;
      tree = i.tree;
      changes = record {
        longer = made_longer old new (bytes_of t) at _ h;
        stays = λ k l n o. made_same old new (bytes_of t) at _ h k l n;
        grows = λ k o. let y = i.owned k o in inr (omega (arith, y.0, e));
      };
    }

-- ---- a segment that is an encoding ----

pub record IsWhole (bytes : List ℕ) (t : Tree) : Type 0 where
  pub forest : Forest bytes 0
  pub tree : tree bytes 0 ≡ t

pub encoding_whole : (t : Tree) → IsWellFormed t → first_fault t ≡ None → suc (words_of t) < 2 ^ 29 → IsWhole (encoding_of t) t
encoding_whole t well none few =
    let x : List ℕ = spelled_number 8 (pointer_word 0 t) in
    let n : length (bytes_of t) ≡ 8 * words_of t = length_bytes_of t well in
    let k : length x ≡ 8 = length_spelled 8 (pointer_word 0 t) in
    let l : length (encoding_of t) ≡ 8 + 8 * words_of t = omega (arith, length-append x (bytes_of t), k, n) in
    let s : Stands (encoding_of t) 0 x = stands_part (encoding_of t) 0 x (omega (arith, l, k)) (take_at x (bytes_of t) (length x) k') in
    let there : Stands (encoding_of t) 1 (bytes_of t) = stands_part (encoding_of t) 1 (bytes_of t) (omega (arith, l, n))
    (ap (take (length (bytes_of t))) (drop_at x (bytes_of t) 8 k) ∙ take_all (length (bytes_of t)) (bytes_of t) (omega arith)) in
    let i : IsTreeIn (encoding_of t) 0 1 (1 + words_of t) t = tree_stands (encoding_of t) t 0 0 well none (omega (arith, few)) s there in
    record { forest = i.forest; tree = i.tree }
  where
    k' : length (spelled_number 8 (pointer_word 0 t)) ≡ length (spelled_number 8 (pointer_word 0 t))
    k' = refl

-- ---- copies ----

-- what was added, and then the pointer
pub copy_is_made : (old mid new : List ℕ) (at end word : ℕ) (t : Tree) → IsWellFormed t → length old ≡ 8 * word_count old → at < word_count old → end ≡ word_count old → mid ≡ old ++ bytes_of t → word_count mid < 2 ^ 29 → word ≡ pointer_word (end - at - 1) t → new ≡ bytes_with (8 * at) (spelled_number 8 word) mid
    → IsObjectMade old new (bytes_of t) at (pointer_word (word_count old - suc at) t)
copy_is_made old mid new at end word t well whole l e m few w p =
    let n : length (bytes_of t) ≡ 8 * words_of t = length_bytes_of t well in
    let k : word ≡ pointer_word (word_count old - suc at) t = w ∙ ap (λ z. pointer_word z t) {x = end - at - 1} {y = word_count old - suc at} (omega (arith, e)) in
    record {
      whole = whole;
      inside = l;
      words = omega (arith, n);
      few = omega (arith, n, few, whole, ap length m, length-append old (bytes_of t));
      is = p ∙ ap (λ z. bytes_with (8 * at) (spelled_number 8 z) mid) k ∙ ap (bytes_with (8 * at) (spelled_number 8 (pointer_word (word_count old - suc at) t))) m;
    }

-- what was added in vain is taken back
pub cut_back : (old mid : List ℕ) (n : ℕ) → length old ≡ 8 * n → Spares 0 0 old mid → take (8 * n) mid ≡ old
cut_back old mid n e s = run_same old mid 0 n (λ k x y. s.stays k (omega (arith, e, y)) (λ r. omega (arith, r.1))) ∙ take_all (8 * n) old (omega (arith, e))

-- a segment that had the root pointer alone is the encoding then
pub only_encoding : (old new : List ℕ) (t : Tree) → length old ≡ 8 → IsObjectMade old new (bytes_of t) 0 (pointer_word (word_count old - 1) t) → new ≡ encoding_of t
only_encoding old new t e h =
    let x : List ℕ = spelled_number 8 (pointer_word 0 t) in
    let k : length x ≡ 8 = length_spelled 8 (pointer_word 0 t) in
    h.is
    ∙ ap (λ n. bytes_with 0 (spelled_number 8 (pointer_word n t)) (old ++ bytes_of t)) {x = word_count old - 1} {y = 0} (omega (arith, e))
    ∙ ap (λ z. x ++ z) (ap (λ n. drop n (old ++ bytes_of t)) {x = 0 + length x} {y = 8} (omega (arith, k)) ∙ drop_at old (bytes_of t) 8 e)
