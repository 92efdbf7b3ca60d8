use Rattle.std.proofs.Common.{[], ◌∷◌}
use Rattle.capnp_wire.specs.Facts.ByteRuns.{AreBytes_fits}
use Rattle.capnp_wire.specs.Facts.Places.{IsWellFormed_tree_below}
use Rattle.capnp_wire.proofs.SegmentBytes.{AreSegments_one}
use Rattle.capnp_wire.proofs.pointer_reader.PointerReader.of_word.Goals as goal

pub new-requires : goal.new-requires
new-requires c =
    let bytes = AreBytes_fits _ c.type_inv.words in
    IsWellFormed_tree_below c.min.result (c.args.words.now ∷ []) c.args.words.now c.args.index (AreSegments_one _ bytes) bytes
