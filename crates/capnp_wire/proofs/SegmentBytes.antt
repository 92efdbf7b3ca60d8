-- The segments of a message are of bytes, as the stream is that they are cut from.
use Rattle.std.proofs.Common.{ℕ, zero, suc, ◌*◌, List, take, drop}
use Rattle.capnp_wire.specs.Slot.{little_endian}
use Rattle.capnp_wire.specs.Stream.{cut_segments}
use Rattle.capnp_wire.specs.WellFormed.{AreBytes, AreSegments}
use Rattle.capnp_wire.specs.Facts.ByteRuns.{AreBytes_none, AreBytes_take, AreBytes_drop}
pub use Rattle.capnp_wire.specs.Facts.Bytes.{AreSegments_one}

-- segments that a table cuts from a body
pub AreSegments_cut : (count : ℕ) (table body : List ℕ) → AreBytes body → AreSegments (cut_segments count table body)
AreSegments_cut zero table body h i = AreBytes_none
AreSegments_cut (suc k) table body h zero = AreBytes_take (8 * little_endian (take 4 table)) body h
AreSegments_cut (suc k) table body h (suc i) =
    AreSegments_cut k (drop 4 table) (drop (8 * little_endian (take 4 table)) body) (AreBytes_drop (8 * little_endian (take 4 table)) body h) i
