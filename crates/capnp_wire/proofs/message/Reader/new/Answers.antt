use Rattle.std.proofs.Common.{◌/◌, length}
use Rattle.capnp_wire.specs.Stream.{header_bytes, segment_count, table_of}
use Rattle.capnp_wire.specs.Facts.ByteRuns.{AreBytes_drop, AreBytes_fits}
use Rattle.capnp_wire.proofs.SegmentBytes.{AreSegments_cut}
use Rattle.capnp_wire.proofs.message.Reader.new.Goals as goal

pub invariant_of-result : goal.invariant_of-result
invariant_of-result c =
    let stream = c.args.bytes.now in
    record { bytes_alone = AreSegments_cut (length (table_of stream) / 4) (table_of stream) _ (AreBytes_drop (header_bytes (segment_count stream)) stream (AreBytes_fits _ c.type_inv.bytes)) }
