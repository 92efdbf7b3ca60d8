-- The segments that a table cuts out.
use Rattle.std.proofs.Common.{◌≡◌, [], ℕ, zero, suc, ◌+◌, ◌*◌, ◌<◌, ◌≤◌, List, length, take, drop, refl, ap, ◌∙◌, arith, Some, None, slice_get}
use Rattle.std.proofs.lemmas.List.{drop-drop}
use Rattle.std.proofs.Math.ListN.{drop_of_length-le}
use Rattle.std.proofs.Math.Seq.{take-nil}
use Rattle.capnp_wire.specs.Slot.{little_endian}
use Rattle.capnp_wire.specs.Stream.{cut_segments, total_words}

pub cut_past : (k : ℕ) (t b : List ℕ) (i : ℕ) → k ≤ i → None ≡ slice_get (cut_segments k t b) i
cut_past zero t b i h = refl
cut_past (suc k) t b zero h = absurd (omega arith)
cut_past (suc k) t b (suc i) h = cut_past k (drop 4 t) (drop (8 * little_endian (take 4 t)) b) i (omega arith)

-- a segment by its place in the table and the words before it
pub cut_at : (k : ℕ) (t b : List ℕ) (i : ℕ) → i < k → slice_get (cut_segments k t b) i ≡ Some (take (8 * little_endian (take 4 (drop (4 * i) t))) (drop (8 * total_words i t) b))
cut_at zero t b i h = absurd (omega arith)
cut_at (suc k) t b zero h = refl
cut_at (suc k) t b (suc i) h =
    let first : ℕ = 8 * little_endian (take 4 t) in
    let table : drop (4 * i) (drop 4 t) ≡ drop (4 * suc i) t = drop-drop (4 * i) 4 t ∙ ap (λ n. drop n t) {x = 4 + 4 * i} {y = 4 * suc i} (omega arith) in
    let body : drop (8 * total_words i (drop 4 t)) (drop first b) ≡ drop (8 * total_words (suc i) t) b =
    drop-drop (8 * total_words i (drop 4 t)) first b ∙ ap (λ n. drop n b) {x = first + 8 * total_words i (drop 4 t)} {y = 8 * total_words (suc i) t} (omega arith) in
    cut_at k (drop 4 t) (drop first b) i (omega arith)
    ∙ ap (λ xs. Some (take (8 * little_endian (take 4 xs)) (drop (8 * total_words i (drop 4 t)) (drop first b)))) table
    ∙ ap (λ xs. Some (take (8 * little_endian (take 4 (drop (4 * suc i) t))) xs)) body

-- the words of one segment more
pub total_next : (i : ℕ) (t : List ℕ) → total_words (i + 1) t ≡ total_words i t + little_endian (take 4 (drop (4 * i) t))
total_next zero t = omega arith
total_next (suc i) t =
    let table : drop (4 * i) (drop 4 t) ≡ drop (4 * suc i) t = drop-drop (4 * i) 4 t ∙ ap (λ n. drop n t) {x = 4 + 4 * i} {y = 4 * suc i} (omega arith) in
    let size : little_endian (take 4 (drop (4 * i) (drop 4 t))) ≡ little_endian (take 4 (drop (4 * suc i) t)) = ap (λ xs. little_endian (take 4 xs)) table in
    let step = total_next i (drop 4 t) in
    let one : total_words (suc i + 1) t ≡ little_endian (take 4 t) + total_words (i + 1) (drop 4 t) = ap (λ n. total_words n t) {x = suc i + 1} {y = suc (i + 1)} (omega arith) in
    one ∙ omega (arith, step, size)

-- past the end there is nothing to take
pub taken_past : (n m : ℕ) (xs : List ℕ) → length xs ≤ m → take n (drop m xs) ≡ []
taken_past n m xs h = ap (take n) (drop_of_length-le xs h) ∙ take-nil n
