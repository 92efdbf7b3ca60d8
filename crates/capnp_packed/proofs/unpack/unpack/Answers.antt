-- What was appended stands before what the rest stands for.
use Rattle.std.proofs.Common.{◌++◌, sym, ap, ◌∙◌}
use Rattle.std.proofs.lemmas.List.{append_assoc, append-nil}
use Rattle.capnp_packed.specs.Unpacking.{unpacked_bytes}
use Rattle.capnp_packed.specs.Steps.Seen.{piece_seen}
use Rattle.capnp_packed.proofs.Pieces.{first_piece, no_piece}
use Rattle.capnp_packed.proofs.unpack.unpack.Goals as goal

pub loop-piece-preserved : goal.loop-piece-preserved
loop-piece-preserved c =
    ap (λ x. x ++ unpacked_bytes c.in-Some.piece.rest.now) c.in_ok-append_piece.ensures.bytes
    ∙ append_assoc c.loop-piece.out.items (piece_seen c.in-Some.piece).0 (unpacked_bytes c.in-Some.piece.rest.now)
    ∙ ap (λ x. c.loop-piece.out.items ++ x) (sym (first_piece c.loop-piece.rest.now (piece_seen c.in-Some.piece) c.in-Some.ensures.piece))
    ∙ c.loop-piece.invariant

pub returns-clause-bytes : goal.returns-clause-bytes
returns-clause-bytes c =
    sym (append-nil c.loop-piece.out.items)
    ∙ ap (λ x. c.loop-piece.out.items ++ x) (sym (no_piece c.loop-piece.rest.now c.in_default.ensures.piece))
    ∙ c.loop-piece.invariant
