-- Parts of a run of bytes, and its words.
use Rattle.std.proofs.Common.{◌≡◌, ℕ, zero, suc, ◌+◌, ◌*◌, ◌<◌, ◌≤◌, ◌^◌, List, [], ◌∷◌, length, take, drop, arith}
use Rattle.std.proofs.Math.Nat.{pow-suc, one-le-pow}
use Rattle.std.proofs.lemmas.List.{length-drop, length-take-le}
use Rattle.capnp_wire.specs.Slot.{little_endian, word_at}
use Rattle.capnp_wire.specs.Place.{bytes_at}
use Rattle.capnp_wire.specs.WellFormed.{AreBytes}
pub use Rattle.capnp_wire.specs.Facts.Bytes.{AreBytes_drop, AreBytes_fits, AreBytes_none, AreBytes_part, AreBytes_take, length_part_le}

-- so many bytes from a word on
pub AreBytes_bytes_at : (segment : List ℕ) (start count : ℕ) → AreBytes segment → AreBytes (bytes_at segment start count)
AreBytes_bytes_at segment start count h = AreBytes_part count (8 * start) segment h

-- what lies in the segment is there in full
pub length_bytes_at : (segment : List ℕ) (start count : ℕ) → 8 * start + count ≤ length segment → length (bytes_at segment start count) ≡ count
length_bytes_at segment start count h = length-take-le count (drop (8 * start) segment) (omega (arith, length-drop (8 * start) segment))

-- at most n bytes spell a number below 256 ^ n
pub little_endian_take_lt : (n : ℕ) (bytes : List ℕ) → AreBytes bytes → little_endian (take n bytes) < 256 ^ n
little_endian_take_lt zero bytes h = omega arith
little_endian_take_lt (suc n) [] h = omega (arith, one-le-pow (suc n) 256 (omega arith))
little_endian_take_lt (suc n) (b ∷ bs) h =
    let first : b < 256 = omega (arith, h 0) in
    let rest : little_endian (take n bs) < 256 ^ n = little_endian_take_lt n bs (λ k. h (suc k)) in
    let p : 256 ^ suc n ≡ 256 * 256 ^ n = grind (arith, pow-suc) in
    omega arith

-- a word has 64 bits
pub word_at_lt : (segment : List ℕ) (w : ℕ) → AreBytes segment → word_at segment w < 2 ^ 64
word_at_lt segment w h = omega (arith, little_endian_take_lt 8 (drop (8 * w) segment) (AreBytes_drop (8 * w) segment h))
