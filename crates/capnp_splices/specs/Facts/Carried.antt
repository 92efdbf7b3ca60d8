-- What elements of a spliced list are read as.
use Rattle.std.proofs.Common.{◌≡◌, ℕ, zero, suc, ◌+◌, ◌*◌, ◌<◌, ◌^◌, sym, ap, ◌∙◌, Bool, false, arith, List, length, take, drop, get_or, ◌++◌}
use Rattle.std.proofs.Math.Nat.{one-le-pow}
use Rattle.std.proofs.Math.Seq.{drop-append-add, take-append_seam}
use Rattle.std.proofs.lemmas.List.{length-append}
use Rattle.capnp_wire.specs.Encoding.{spelled_number}
use Rattle.capnp_wire.specs.Facts.ByteRuns.{little_endian_take_lt}
use Rattle.capnp_wire.specs.Facts.Bytes.{AreBytes_drop, length_spelled, little_endian_spelled}
use Rattle.capnp_wire.specs.Facts.Parts.{IsWellFormedStruct_nth_struct}
use Rattle.capnp_wire.specs.Reading.{element_number}
use Rattle.capnp_wire.specs.Slot.{little_endian, number_at}
use Rattle.capnp_wire.specs.Tree.{Tree, Null, Struct, Voids, Bits, Numbers, Pointers, Composite, FaultLeaf, nth_struct}
use Rattle.capnp_wire.specs.WellFormed.{AreBytes, IsWellFormed, IsWellFormedStruct}
use Rattle.capnp_splices.specs.Splices.{bits_by, bytes_by}

at_zero : {A : Type 0} (f : ℕ → A) (a : ℕ) → f (a + 0) ≡ f a
at_zero f a = ap f (omega arith)

at_suc : {A : Type 0} (f : ℕ → A) (a i : ℕ) → f (suc a + i) ≡ f (a + suc i)
at_suc f a i = ap f (omega arith)

-- ---- bits ----

pub bit_by : (f : ℕ → Bool) (a n i : ℕ) → i < n → get_or (bits_by f a n) i false ≡ f (a + i)
bit_by f a zero i h = absurd (omega (arith, h))
bit_by f a (suc n) zero h = sym (at_zero f a)
bit_by f a (suc n) (suc i) h = bit_by f (suc a) n i (omega (arith, h)) ∙ at_suc f a i

-- ---- numbers ----

pub length_of_bytes : (w : ℕ) (f : ℕ → ℕ) (a n : ℕ) → length (bytes_by w f a n) ≡ w * n
length_of_bytes w f a zero = omega arith
length_of_bytes w f a (suc n) = omega (arith, length-append (spelled_number w (f a)) (bytes_by w f (suc a) n), length_spelled w (f a), length_of_bytes w f (suc a) n)

pub bytes_of_number : (w : ℕ) (f : ℕ → ℕ) (a n i : ℕ) → i < n → take w (drop (i * w) (bytes_by w f a n)) ≡ spelled_number w (f (a + i))
bytes_of_number w f a zero i h = absurd (omega (arith, h))
bytes_of_number w f a (suc n) zero h =
    ap (λ m. take w (drop m (spelled_number w (f a) ++ bytes_by w f (suc a) n))) {x = 0 * w} {y = 0} (omega arith)
    ∙ ap (λ k. take k (spelled_number w (f a) ++ bytes_by w f (suc a) n)) {x = w} {y = length (spelled_number w (f a))} (sym (length_spelled w (f a)))
    ∙ (take-append_seam (spelled_number w (f a)) (bytes_by w f (suc a) n) ∙ ap (spelled_number w) (sym (at_zero f a)))
bytes_of_number w f a (suc n) (suc i) h =
    ap (λ k. take w (drop k (spelled_number w (f a) ++ bytes_by w f (suc a) n))) {x = suc i * w} {y = length (spelled_number w (f a)) + i * w} (omega (arith, length_spelled w (f a)))
    ∙ (ap (take w) (drop-append-add (spelled_number w (f a)) (bytes_by w f (suc a) n) (i * w))
    ∙ (bytes_of_number w f (suc a) n i (omega (arith, h)) ∙ ap (spelled_number w) (at_suc f a i)))

pub number_by : (w : ℕ) (f : ℕ → ℕ) (n i : ℕ) → i < n → f i < 256 ^ w → number_at w i (bytes_by w f 0 n) ≡ f i
number_by w f n i h small =
    let e : f (0 + i) ≡ f i = ap f (omega arith) in
    ap little_endian (bytes_of_number w f 0 n i h ∙ ap (spelled_number w) e) ∙ little_endian_spelled w (f i) small

-- a number of so many bytes is below their power
small_at : (w k : ℕ) (bytes : List ℕ) → AreBytes bytes → little_endian (take w (drop k bytes)) < 256 ^ w
small_at w k bytes h = little_endian_take_lt w (drop k bytes) (AreBytes_drop k bytes h)

none_small : (w : ℕ) → 0 < 256 ^ w
none_small w = omega (arith, one-le-pow w 256 (omega arith))

pub number_small : (w : ℕ) (t : Tree) (i : ℕ) → IsWellFormed t → element_number w t i < 256 ^ w
number_small w Null i h = none_small w
number_small w (Struct bytes ps) i h = none_small w
number_small w (Voids n) i h = none_small w
number_small w (Bits bs) i h = none_small w
number_small w (Numbers v bytes) i h = small_at w (i * w) bytes h.0
number_small w (Pointers ps) i h = none_small w
number_small w (Composite d p es) i h =
    let s : IsWellFormedStruct (nth_struct es i) = IsWellFormedStruct_nth_struct d p es i h.4 h.0 h.1 in
    small_at w (0 * w) (nth_struct es i).bytes s.0
number_small w (FaultLeaf k) i h = none_small w
