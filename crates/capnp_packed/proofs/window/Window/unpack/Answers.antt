-- What is unpacked stands before what the rest stands for, whatever follows.
use Rattle.std.proofs.Common.{◌≡◌, ◌++◌, length, Some, ap, sym, ◌∙◌, arith}
use Rattle.std.proofs.lemmas.List.{append_assoc}
use Rattle.capnp_packed.specs.Sources.{held}
use Rattle.capnp_packed.specs.Steps.Seen.{piece_seen}
use Rattle.capnp_packed.specs.Unpacking.{piece_of, unpacked_bytes}
use Rattle.capnp_packed.proofs.Followed.{piece_before, piece_rest}
use Rattle.capnp_packed.proofs.window.Window.unpack.Goals as goal

pub pieces-preserved : goal.pieces-preserved
pieces-preserved c =
    let before = held c.pieces.self in
    let packed = held c.pieces.packed in
    let piece = piece_seen c.in-Some.piece in
    let is : Some piece ≡ piece_of packed = c.in-Some.ensures.piece ∙ ap piece_of c.as_slice.ensures in
    let rest : held c.keep_last.new.self ≡ piece.1 = c.keep_last.ensures ∙ piece_rest packed piece is in
    record {
      same = λ more. ap (λ x. x ++ unpacked_bytes (held c.keep_last.new.self ++ more)) c.append.ensures.bytes
          ∙ ap (λ x. (before ++ piece.0) ++ unpacked_bytes (x ++ more)) rest
          ∙ append_assoc before piece.0 (unpacked_bytes (piece.1 ++ more))
          ∙ ap (λ x. before ++ x) (sym (piece_before packed more piece is))
          ∙ c.pieces.invariant.same more;
      end = c.append.ensures.end c.pieces.invariant.end;
      stays = λ e. absurd (let n = ap length e in omega (arith, n, c.append.ensures.some));
    }
