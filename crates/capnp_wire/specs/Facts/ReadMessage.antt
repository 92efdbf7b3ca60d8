-- The message of a tree, read.
use Rattle.std.proofs.Common.{Result, Ok, Err, OnOk, ◌≡◌, ℕ, suc, ◌+◌, ◌*◌, ◌<◌, ◌^◌, List, [], ◌∷◌, ◌++◌, length, take, refl, sym, ap, ◌∙◌, arith, nat_lt, false, None}
use Rattle.std.proofs.lemmas.List.{length-append, take_at, append-nil}
use Rattle.capnp_wire.specs.Tree.{Tree}
use Rattle.capnp_wire.specs.Slot.{little_endian}
use Rattle.capnp_wire.specs.Place.{root_tree}
use Rattle.capnp_wire.specs.Stream.{segments_of, root_read, message_tree_of}
use Rattle.capnp_wire.specs.Words.{words_of, first_fault}
use Rattle.capnp_wire.specs.WellFormed.{IsWellFormed}
use Rattle.capnp_wire.specs.Depth.{IsShallow}
use Rattle.capnp_wire.specs.Encoding.{spelled_number, encoding_of, message_of}
use Rattle.capnp_wire.specs.Facts.Stands.{little_endian_spelled}
use Rattle.capnp_wire.specs.Facts.EncodedSizes.{length_encoding}
use Rattle.capnp_wire.specs.Facts.PointerWords.{not_below}
use Rattle.capnp_wire.specs.Facts.ReadBack.{encoding_reads}

-- a stream of one segment, whatever follows it
pub one_segment : (n : ℕ) (xs rest : List ℕ) → n < 2 ^ 32 → length xs ≡ 8 * n → segments_of (spelled_number 4 0 ++ (spelled_number 4 n ++ (xs ++ rest))) ≡ Ok (xs ∷ [])
one_segment n xs rest h e =
    let s : little_endian (spelled_number 4 n) ≡ n = little_endian_spelled 4 n h in
    let all : List ℕ = spelled_number 4 0 ++ (spelled_number 4 n ++ (xs ++ rest)) in
    let m : length all ≡ 8 + (8 * n + length rest) = omega (arith, length-append xs rest) in
    let a : nat_lt (length all) 4 ≡ false = not_below (length all) 4 (omega arith) in
    let b : nat_lt (length all) 8 ≡ false = not_below (length all) 8 (omega arith) in
    let c : nat_lt (length all) (8 + 8 * (little_endian (spelled_number 4 n) + 0)) ≡ false = not_below (length all) (8 + 8 * (little_endian (spelled_number 4 n) + 0)) (omega arith) in
    let t : take (8 * little_endian (spelled_number 4 n)) (xs ++ rest) ≡ xs = take_at xs rest (8 * little_endian (spelled_number 4 n)) (omega arith) in
    rw (a, b, c, t) refl

-- a tree's message, whatever follows it
pub message_reads : (t : Tree) (rest : List ℕ) → IsWellFormed t → first_fault t ≡ None → IsShallow t → suc (words_of t) < 2 ^ 29 → message_tree_of (message_of t ++ rest) ≡ Ok t
message_reads t rest well none shallow bound =
    let shape : message_of t ++ rest ≡ spelled_number 4 0 ++ (spelled_number 4 (suc (words_of t)) ++ (encoding_of t ++ rest)) = refl in
    ap message_tree_of shape
    ∙ ap root_read (one_segment (suc (words_of t)) (encoding_of t) rest (omega arith) (length_encoding t well))
    ∙ ap (λ x. Ok (root_tree (x ∷ []))) (sym (append-nil (encoding_of t)))
    ∙ ap Ok (encoding_reads t ((encoding_of t ++ []) ∷ []) [] well none shallow bound)

-- bytes that are a tree's message are read as the tree, so where they were written the message is
pub written_reads : {A E : Type 0} (r : Result A E) (t : Tree) (bytes : List ℕ) → bytes ≡ message_of t → (IsShallow t → (rest : List ℕ) → message_tree_of (bytes ++ rest) ≡ Ok t) → OnOk r (IsShallow t → (rest : List ℕ) → message_tree_of (message_of t ++ rest) ≡ Ok t)
written_reads (Ok x) t bytes e h = λ shallow rest. ap (λ x. message_tree_of (x ++ rest)) (sym e) ∙ h shallow rest
written_reads (Err x) t bytes e h = tt {0}
