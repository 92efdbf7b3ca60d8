-- What follows the first message of a stream changes nothing.
use Rattle.std.proofs.Common.{Result, Ok, Err, ◌≡◌, ℕ, zero, suc, ◌+◌, ◌*◌, ◌/◌, ◌≤◌, List, ◌∷◌, ◌++◌, length, take, drop, refl, sym, ap, ◌∙◌, arith, Bool, true, false, cond, nat_lt, length-append, length-drop}
use Rattle.std.proofs.lemmas.Bool.Decides.{nat_tests}
use Rattle.std.proofs.lemmas.List.{take-append-le, drop-append-le}
use Rattle.capnp_wire.specs.Slot.{little_endian}
use Rattle.capnp_wire.specs.Locate.{Segments}
use Rattle.capnp_wire.specs.Stream.{cut_segments, total_words, header_bytes, segments_after_table, segments_after_count, segments_of, message_tree_of, root_read}
use Rattle.capnp_device.specs.declared.error.ErrorKind.{ErrorKind}
use Rattle.capnp_device.specs.declared.error.ErrorKind.TheVariants.{Truncated, TooManySegments}

-- the segments that a table cuts out of a body that holds them
cut_more : (k : ℕ) (table body more : List ℕ) → 8 * total_words k table ≤ length body → cut_segments k table (body ++ more) ≡ cut_segments k table body
cut_more zero table body more h = refl
cut_more (suc k) table body more h =
    let first : ℕ = 8 * little_endian (take 4 table) in
    let here : first ≤ length body = omega arith in
    let left : 8 * total_words k (drop 4 table) ≤ length (drop first body) = omega (arith, length-drop first body) in
    ap (λ xs. take first (body ++ more) ∷ cut_segments k (drop 4 table) xs) (drop-append-le first body more here)
    ∙ ap (λ xs. xs ∷ cut_segments k (drop 4 table) (drop first body ++ more)) (take-append-le first body more here)
    ∙ ap (λ gs. take first body ∷ gs) (cut_more k (drop 4 table) (drop first body) more left)

-- a test for too few bytes that is not what refuses
passes : (test : Bool) (r : Result Segments ErrorKind) → (cond test (Err Truncated) r ≡ Err Truncated → ⊥) → test ≡ false
passes true r h = absurd (h refl)
passes false r h = refl

enough : (a b : ℕ) → nat_lt a b ≡ false → b ≤ a
enough a b h = grind (arith, nat_tests)

not_fewer : (a b : ℕ) → b ≤ a → nat_lt a b ≡ false
not_fewer a b h = grind (arith, nat_tests)

-- past such tests, on both sides
past_tests : (s t : Bool) (x y : Result Segments ErrorKind) → s ≡ false → t ≡ false → x ≡ y → cond s (Err Truncated) x ≡ cond t (Err Truncated) y
past_tests s t x y p q e = ap (λ b. cond b (Err Truncated) x) p ∙ e ∙ sym (ap (λ b. cond b (Err Truncated) y) q)

open_test : (t : Bool) (x : Result Segments ErrorKind) → t ≡ false → (cond t (Err Truncated) x ≡ Err Truncated → ⊥) → x ≡ Err Truncated → ⊥
open_test true x p h e = cc
open_test false x p h e = h e

-- the count of segments is tested first
capped : (t : Bool) (x y : Result Segments ErrorKind) → (cond t (Err TooManySegments) x ≡ Err Truncated → ⊥) → ((x ≡ Err Truncated → ⊥) → y ≡ x) → cond t (Err TooManySegments) y ≡ cond t (Err TooManySegments) x
capped true x y h k = refl
capped false x y h k = k h

after_table_more : (n : ℕ) (table b more : List ℕ) → header_bytes n ≤ length b → (segments_after_table n table b ≡ Err Truncated → ⊥) → segments_after_table n table (b ++ more) ≡ segments_after_table n table b
after_table_more n table b more h k =
    let short = passes (nat_lt (length b) (header_bytes n + 8 * total_words (length table / 4) table)) _ k in
    let fits : header_bytes n + 8 * total_words (length table / 4) table ≤ length b = enough _ _ short in
    let body : 8 * total_words (length table / 4) table ≤ length (drop (header_bytes n) b) = omega (arith, length-drop (header_bytes n) b) in
    past_tests _ _ _ _ (not_fewer _ _ (omega (arith, length-append b more))) short
    (ap Ok (ap (cut_segments (length table / 4) table) (drop-append-le (header_bytes n) b more h) ∙ cut_more (length table / 4) table (drop (header_bytes n) b) more body))

after_count_more : (n : ℕ) (b more : List ℕ) → 4 ≤ length b → (segments_after_count n b ≡ Err Truncated → ⊥) → segments_after_count n (b ++ more) ≡ segments_after_count n b
after_count_more n b more four h = capped (nat_lt 512 n) _ _ h (λ k.
    let short = passes (nat_lt (length b) (header_bytes n)) _ k in
    let header : header_bytes n ≤ length b = enough _ _ short in
    let table_fits : 4 * n ≤ length (drop 4 b) = omega (arith, length-drop 4 b) in
    let table : take (4 * n) (drop 4 (b ++ more)) ≡ take (4 * n) (drop 4 b) = ap (take (4 * n)) (drop-append-le 4 b more four) ∙ take-append-le (4 * n) (drop 4 b) more table_fits in
    past_tests _ _ _ _ (not_fewer _ _ (omega (arith, length-append b more))) short
    (ap (λ t. segments_after_table n t (b ++ more)) table ∙ after_table_more n (take (4 * n) (drop 4 b)) b more header (open_test _ _ short k)))

pub segments_of_more : (b more : List ℕ) → (segments_of b ≡ Err Truncated → ⊥) → segments_of (b ++ more) ≡ segments_of b
segments_of_more b more h =
    let short = passes (nat_lt (length b) 4) _ h in
    let four : 4 ≤ length b = enough _ _ short in
    past_tests _ _ _ _ (not_fewer _ _ (omega (arith, length-append b more))) short
    (ap (λ xs. segments_after_count (little_endian xs + 1) (b ++ more)) (take-append-le 4 b more four)
    ∙ after_count_more (little_endian (take 4 b) + 1) b more four (open_test _ _ short h))

-- a stream that is not cut short has its message's tree, whatever follows
pub message_tree_of_more : (b more : List ℕ) → (message_tree_of b ≡ Err Truncated → ⊥) → message_tree_of (b ++ more) ≡ message_tree_of b
message_tree_of_more b more h = ap root_read (segments_of_more b more (λ e. h (ap root_read e)))
