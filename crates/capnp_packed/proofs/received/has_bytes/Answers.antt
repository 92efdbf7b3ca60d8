-- What was counted stands before what the rest stands for.
use Rattle.std.proofs.Common.{length, ap, ◌∙◌, arith}
use Rattle.std.proofs.lemmas.List.{length-append}
use Rattle.capnp_packed.specs.Steps.Seen.{piece_seen}
use Rattle.capnp_packed.specs.Unpacking.{unpacked_bytes}
use Rattle.capnp_packed.proofs.Pieces.{first_piece, no_piece}
use Rattle.capnp_packed.proofs.received.has_bytes.Goals as goal

pub returns-in_default : goal.returns-in_default
returns-in_default c =
    let none = ap length (no_piece c.loop-at.left.now c.in_default.ensures.piece) in
    let all = c.loop-at.invariant in
    let few = c.loop-at-test.true in
    (λ t. absurd (grind (arith, t)), λ h. absurd (omega (arith, none, all, few, h)))

pub loop-at-preserved : goal.loop-at-preserved
loop-at-preserved c =
    let words = (piece_seen c.in-Some.piece).0 in
    let after = unpacked_bytes c.in-Some.piece.rest.now in
    let more = ap length (first_piece c.loop-at.left.now (piece_seen c.in-Some.piece) c.in-Some.ensures.piece) ∙ length-append words after in
    let count = c.count_bytes-at.ensures in
    let all = c.loop-at.invariant in
    omega (arith, more, count, all)
