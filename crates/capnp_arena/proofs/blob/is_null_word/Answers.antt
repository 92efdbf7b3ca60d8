-- A zero word inside its segment is a null pointer, so its tree is the null.
use Rattle.std.proofs.Common.{arith, ◌≡◌, sym, subst}
use Rattle.capnp_wire.specs.Backing.{segments_in}
use Rattle.capnp_wire.specs.Found.{pointer_tree}
use Rattle.capnp_wire.specs.Tree.{Null}
use Rattle.capnp_arena.proofs.BlobsFound.{null_found}
use Rattle.capnp_arena.proofs.blob.is_null_word.Goals as goal

pub returns-else-index-segment : goal.returns-else-index-segment
returns-else-index-segment c = λ h.
    let z : c.read_word.result ≡ 0 = grind (arith, h) in
    subst (λ p. pointer_tree p ≡ Null) (sym c.in-Word.is)
    (null_found c.in-Word.depth (segments_in c.in-Word.is_stream c.in-Word.bytes.now) c.in-Word.segment.now c.in-Word.index c.read_word.result (omega (arith, c.if-index-segment.false)) c.read_word.ensures z)
