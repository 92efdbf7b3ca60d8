-- A byte of a text that is written is that of the text alone.
use Rattle.std.proofs.Common.{ℕ, zero, suc, ◌+◌, ◌*◌, ◌-◌, ◌%◌, ◌<◌, ◌≤◌, ◌≡◌, ◌==◌, refl, List, [], ◌∷◌, ◌++◌, Bool, true, false, cond, Ok, Err, IsOk, length, take, drop, get_or, replicate, slice_set, ap, append-nil, append_assoc, arith, sym, subst, ◌∙◌}
use Rattle.std.proofs.lemmas.Bool.{true≢false}
use Rattle.std.proofs.lemmas.List.{length-replicate, length-set, length-take-le, take-append-drop}
use Rattle.capnp_device.specs.declared.error.ErrorKind.TheVariants as kind
use Rattle.capnp_wire.specs.Edits.{with_number}
use Rattle.capnp_wire.specs.Elements.{with_number_element}
use Rattle.capnp_wire.specs.Reading.{as_data, as_text, terminated_text}
use Rattle.capnp_wire.specs.Tree as tree
use Rattle.capnp_wire.specs.Tree.{Tree}
use Rattle.capnp_builders.specs.Blobs.{bytes_in}
use Rattle.capnp_builders.specs.Steps.Blobs.{written_bytes}

-- ---- rows of bytes ----

put : (bytes : List ℕ) (i v : ℕ) → i < length bytes → take i bytes ++ (v ∷ drop (suc i) bytes) ≡ slice_set bytes i v
put [] i v a = absurd (omega (arith, a))
put (b ∷ bs) zero v a = refl
put (b ∷ bs) (suc i) v a = ap (λ t. b ∷ t) (put bs i v (omega (arith, a)))

get_other : (bytes : List ℕ) (i k v d : ℕ) → i < k → get_or (slice_set bytes i v) k d ≡ get_or bytes k d
get_other [] i k v d a = refl
get_other (b ∷ bs) zero zero v d a = absurd (omega (arith, a))
get_other (b ∷ bs) zero (suc k) v d a = refl
get_other (b ∷ bs) (suc i) zero v d a = refl
get_other (b ∷ bs) (suc i) (suc k) v d a = get_other bs i k v d (omega (arith, a))

take_put : (n : ℕ) (bytes : List ℕ) (i v : ℕ) → i < n → take n (slice_set bytes i v) ≡ slice_set (take n bytes) i v
take_put zero bytes i v a = absurd (omega (arith, a))
take_put (suc n) [] i v a = refl
take_put (suc n) (b ∷ bs) zero v a = refl
take_put (suc n) (b ∷ bs) (suc i) v a = ap (λ t. b ∷ t) (take_put n bs i v (omega (arith, a)))

with_byte : (bytes : List ℕ) (i v : ℕ) → i < length bytes → v < 256 → with_number 1 i v bytes ≡ slice_set bytes i v
with_byte bytes i v a small =
    let e : i * 1 ≡ i = omega arith in
    let n : i * 1 + 1 ≡ suc i = omega arith in
    let m : v % 256 ≡ v = omega (arith, small) in
    ap (λ k. take k bytes ++ (v % 256 ∷ drop (i * 1 + 1) bytes)) e
    ∙ (ap (λ k. take i bytes ++ (v % 256 ∷ drop k bytes)) n
    ∙ (ap (λ k. take i bytes ++ (k ∷ drop (suc i) bytes)) m
    ∙ put bytes i v a))

-- ---- texts ----

module _ (bytes : List ℕ) (i v : ℕ) (small : v < 256) where
  ended : (q : Bool) → i < length (bytes_in (cond q (Ok (take (length bytes - 1) bytes)) (Err kind.TextNotTerminated))) → i < length bytes - 1
  ended true a = let l = length-take-le (length bytes - 1) bytes (omega arith) in omega (arith, a, l)
  ended false a = absurd (omega (arith, a))

  still : i < length bytes - 1 → (q : Bool) → IsOk (cond q (Ok (take (length bytes - 1) bytes)) (Err kind.TextNotTerminated)) →
      cond q (Ok (take (length bytes - 1) (slice_set bytes i v))) (Err kind.TextNotTerminated) ≡ Ok (slice_set (bytes_in (cond q (Ok (take (length bytes - 1) bytes)) (Err kind.TextNotTerminated))) i v)
  still a true h = ap Ok (take_put (length bytes - 1) bytes i v a)
  still a false h = absurd (true≢false (sym h))

  terminated : IsOk (terminated_text bytes) → i < length (bytes_in (terminated_text bytes)) → terminated_text (with_number 1 i v bytes) ≡ Ok (slice_set (bytes_in (terminated_text bytes)) i v)
  terminated h a =
      let b : i < length bytes - 1 = ended (get_or bytes (length bytes - 1) 1 == 0) a in
      ap terminated_text (with_byte bytes i v (omega (arith, b)) small)
      ∙ (ap (λ (n : ℕ). cond (get_or (slice_set bytes i v) (n - 1) 1 == 0) (Ok (take (n - 1) (slice_set bytes i v))) (Err kind.TextNotTerminated)) (length-set bytes i v)
      ∙ (ap (λ (n : ℕ). cond (n == 0) (Ok (take (length bytes - 1) (slice_set bytes i v))) (Err kind.TextNotTerminated)) (get_other bytes i (length bytes - 1) v 1 b)
      ∙ still b (get_or bytes (length bytes - 1) 1 == 0) h))

  numbers : (q : Bool) → IsOk (cond q (terminated_text bytes) (Err kind.WrongElementSize)) → i < length (bytes_in (cond q (terminated_text bytes) (Err kind.WrongElementSize))) →
      cond q (terminated_text (with_number 1 i v bytes)) (Err kind.WrongElementSize) ≡ Ok (slice_set (bytes_in (cond q (terminated_text bytes) (Err kind.WrongElementSize))) i v)
  numbers true h a = terminated h a
  numbers false h a = absurd (true≢false (sym h))

pub text_put : (x : Tree) (i v : ℕ) → v < 256 → IsOk (as_text x) → i < length (bytes_in (as_text x)) → as_text (with_number_element 1 i v x) ≡ Ok (slice_set (bytes_in (as_text x)) i v)
text_put tree.Null i v small h a = absurd (omega (arith, a))
text_put (tree.Numbers w bytes) i v small h a = numbers bytes i v small (w == 1) h a
text_put (tree.Struct bytes ps) i v small h a = absurd (true≢false (sym h))
text_put (tree.Voids n) i v small h a = absurd (true≢false (sym h))
text_put (tree.Bits bs) i v small h a = absurd (true≢false (sym h))
text_put (tree.Pointers ps) i v small h a = absurd (true≢false (sym h))
text_put (tree.Composite d p es) i v small h a = absurd (true≢false (sym h))
text_put (tree.FaultLeaf k) i v small h a = absurd (true≢false (sym h))

-- ---- several bytes ----

-- what stands after the first byte that is written
take_next : (old : List ℕ) (i v : ℕ) → i < length old → take (suc i) (slice_set old i v) ≡ take i old ++ v ∷ []
take_next [] i v a = absurd (omega (arith, a))
take_next (b ∷ bs) zero v a = refl
take_next (b ∷ bs) (suc i) v a = ap (λ t. b ∷ t) (take_next bs i v (omega (arith, a)))

drop_past : (old : List ℕ) (i n v : ℕ) → i < n → drop n (slice_set old i v) ≡ drop n old
drop_past [] i n v a = refl
drop_past (b ∷ bs) i zero v a = absurd (omega (arith, a))
drop_past (b ∷ bs) zero (suc n) v a = refl
drop_past (b ∷ bs) (suc i) (suc n) v a = drop_past bs i n v (omega (arith, a))

pub written_is : (old : List ℕ) (i : ℕ) (vs : List ℕ) → i + length vs ≤ length old → written_bytes old i vs ≡ take i old ++ vs ++ drop (i + length vs) old
written_is old i [] a =
    let n : i ≡ i + 0 = omega arith in
    sym (take-append-drop i old) ∙ (ap (λ k. take i old ++ drop k old) n ∙ sym (ap (λ t. t ++ drop (i + 0) old) (append-nil (take i old))))
written_is old i (v ∷ vs) a =
    let n : suc i + length vs ≡ i + suc (length vs) = omega arith in
    written_is (slice_set old i v) (suc i) vs (subst (λ k. suc i + length vs ≤ k) (sym (length-set old i v)) (omega (arith, a)))
    ∙ (ap (λ t. (t ++ vs) ++ drop (suc i + length vs) (slice_set old i v)) (take_next old i v (omega (arith, a)))
    ∙ (ap (λ t. t ++ drop (suc i + length vs) (slice_set old i v)) (append_assoc (take i old) (v ∷ []) vs)
    ∙ (ap (λ t. (take i old ++ v ∷ vs) ++ t) (drop_past old i (suc i + length vs) v (omega arith))
    ∙ ap (λ k. (take i old ++ v ∷ vs) ++ drop k old) n)))

-- ---- data ----

module _ (bytes : List ℕ) (i v : ℕ) (small : v < 256) where
  data_numbers : (q : Bool) → IsOk (cond q (Ok bytes) (Err kind.WrongElementSize)) → i < length (bytes_in (cond q (Ok bytes) (Err kind.WrongElementSize))) →
      cond q (Ok (with_number 1 i v bytes)) (Err kind.WrongElementSize) ≡ Ok (slice_set (bytes_in (cond q (Ok bytes) (Err kind.WrongElementSize))) i v)
  data_numbers true h a = ap Ok (with_byte bytes i v a small)
  data_numbers false h a = absurd (true≢false (sym h))

pub data_put : (x : Tree) (i v : ℕ) → v < 256 → IsOk (as_data x) → i < length (bytes_in (as_data x)) → as_data (with_number_element 1 i v x) ≡ Ok (slice_set (bytes_in (as_data x)) i v)
data_put tree.Null i v small h a = absurd (omega (arith, a))
data_put (tree.Numbers w bytes) i v small h a = data_numbers bytes i v small (w == 1) h a
data_put (tree.Struct bytes ps) i v small h a = absurd (true≢false (sym h))
data_put (tree.Voids n) i v small h a = absurd (true≢false (sym h))
data_put (tree.Bits bs) i v small h a = absurd (true≢false (sym h))
data_put (tree.Pointers ps) i v small h a = absurd (true≢false (sym h))
data_put (tree.Composite d p es) i v small h a = absurd (true≢false (sym h))
data_put (tree.FaultLeaf k) i v small h a = absurd (true≢false (sym h))

-- ---- zeros ----

abbrev pub zeros : ℕ → List ℕ
zeros n = replicate n 0

pub zeros_first : (n i : ℕ) → i < n → drop i (zeros n) ≡ 0 ∷ drop (suc i) (zeros n)
zeros_first zero i a = absurd (omega (arith, a))
zeros_first (suc n) zero a = refl
zeros_first (suc n) (suc i) a = zeros_first n i (omega (arith, a))

none_left : (old : List ℕ) → drop (length old) old ≡ []
none_left [] = refl
none_left (b ∷ bs) = none_left bs

none_taken : (old : List ℕ) → take 0 old ≡ []
none_taken [] = refl
none_taken (b ∷ bs) = refl

pub zeros_written : (old : List ℕ) → written_bytes old 0 (zeros (length old)) ≡ zeros (length old)
zeros_written old =
    let z : List ℕ = zeros (length old) in
    let n : length z ≡ length old = length-replicate (length old) 0 in
    let k : 0 + length z ≡ length z = omega arith in
    let first : written_bytes old 0 z ≡ z ++ drop (length z) old = written_is old 0 z (omega (arith, n)) ∙ (ap (λ (t : List ℕ). t ++ z ++ drop (0 + length z) old) (none_taken old) ∙ ap (λ (m : ℕ). z ++ drop m old) k) in
    first ∙ (ap (λ (k : ℕ). z ++ drop k old) n ∙ (ap (λ (t : List ℕ). z ++ t) (none_left old) ∙ append-nil z))
