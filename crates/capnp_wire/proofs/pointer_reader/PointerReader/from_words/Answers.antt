use Rattle.std.proofs.Common.{[], ◌∷◌}
use Rattle.capnp_wire.specs.Facts.ByteRuns.{AreBytes_fits}
use Rattle.capnp_wire.proofs.SegmentBytes.{AreSegments_one}
use Rattle.capnp_wire.specs.Facts.Places.{IsWellFormed_root_tree}
use Rattle.capnp_wire.proofs.pointer_reader.PointerReader.from_words.Goals as goal

pub new-requires : goal.new-requires
new-requires c = rw c.get_root_pointer.ensures (IsWellFormed_root_tree (c.args.words.now ∷ []) (AreSegments_one _ (AreBytes_fits _ c.type_inv.words)))
