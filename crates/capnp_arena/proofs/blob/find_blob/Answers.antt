-- Where a word leads to bytes, the bytes found at its offset, as many as its count, are those of the pointer's tree.
use Rattle.std.proofs.Common.{arith, ◌+◌, refl, sym, subst}
use Rattle.capnp_wire.specs.Backing.{segments_in}
use Rattle.capnp_wire.specs.Found.{pointer_tree}
use Rattle.capnp_wire.specs.Locate.{count, offset}
use Rattle.capnp_arena.specs.Steps.Blob.{IsBlobAt, IsBlobOf}
use Rattle.capnp_arena.proofs.BlobsFound.{blob_found}
use Rattle.capnp_arena.proofs.blob.find_blob.Goals as goal

pub returns-else-not-leads_to_bytes : goal.returns-else-not-leads_to_bytes
returns-else-not-leads_to_bytes c =
    let word = c.read_word-word.result in
    let h = c.if-not-leads_to_bytes.ensures refl in
    let at : IsBlobAt c.in-Word.segment.now (c.in-Word.index + 1 + offset word) (count word) c.get_blob.result =
    subst (λ o. IsBlobAt c.in-Word.segment.now (c.in-Word.index + 1 + o) (count word) c.get_blob.result) c.get_offset.ensures
    (subst (λ n. IsBlobAt c.in-Word.segment.now (c.in-Word.index + 1 + c.get_offset.result) n c.get_blob.result) c.get_count.ensures c.get_blob.ensures) in
    subst (λ p. IsBlobOf c.get_blob.result (pointer_tree p)) (sym c.in-Word.is)
    (blob_found c.in-Word.depth (segments_in c.in-Word.is_stream c.in-Word.bytes.now) c.in-Word.segment.now c.in-Word.index word (λ z. omega (arith, z, c.if-depth-eq0.false)) (omega (arith, c.if-index-segment.false)) c.read_word-word.ensures h.0 h.1 h.2 c.get_blob.result at)
