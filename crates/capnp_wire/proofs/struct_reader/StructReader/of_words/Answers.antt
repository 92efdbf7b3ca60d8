-- A struct cut from one segment of bytes is well formed, since the trees below its pointers are.
use Rattle.std.proofs.Common.{[], ◌∷◌, arith}
use Rattle.capnp_wire.specs.Place.{tree_below}
use Rattle.capnp_wire.specs.Facts.ByteRuns.{AreBytes_fits}
use Rattle.capnp_wire.specs.Facts.Places.{IsWellFormed_tree_below}
use Rattle.capnp_wire.specs.Facts.WellFormedRows.{IsWellFormedStruct_struct_at}
use Rattle.capnp_wire.proofs.SegmentBytes.{AreSegments_one}
use Rattle.capnp_wire.proofs.struct_reader.StructReader.of_words.Goals as goal

pub new-requires : goal.new-requires
new-requires c =
    let bytes = AreBytes_fits _ c.type_inv.words in
    rw c.bytes_from.ensures
    (IsWellFormedStruct_struct_at (tree_below c.min.result (c.args.words.now ∷ []) c.args.words.now) c.args.words.now c.args.size.data_words c.args.size.pointers c.args.start bytes (omega arith) (omega arith)
    (λ w. IsWellFormed_tree_below c.min.result (c.args.words.now ∷ []) c.args.words.now w (AreSegments_one _ bytes) bytes))
