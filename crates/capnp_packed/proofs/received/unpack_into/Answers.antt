-- Where there is room, what is written stands before what the rest stands for.
use Rattle.std.proofs.Common.{◌≡◌, ◌++◌, take, sym, ap, ◌∙◌, arith, rules}
use Rattle.capnp_packed.specs.Steps.Seen.{piece_seen}
use Rattle.capnp_packed.specs.Unpacking.{unpacked_bytes}
use Rattle.capnp_packed.proofs.Filled.{filled, filled_rest, nothing_left}
use Rattle.capnp_packed.proofs.Pieces.{first_piece, no_piece}
use Rattle.capnp_packed.proofs.received.unpack_into.Goals as goal

pub returns-in_default-clause-whole : goal.returns-in_default-clause-whole
returns-in_default-clause-whole c room =
    nothing_left c.loop-at.at c.loop-at.out (unpacked_bytes c.args.packed.now) (let s = c.loop-at.invariant.size in omega (arith, s, room))
    (ap (λ x. take c.loop-at.at c.loop-at.out ++ x) (sym (no_piece c.loop-at.left.now c.in_default.ensures.piece)) ∙ c.loop-at.invariant.rest room)

pub loop-at-preserved : goal.loop-at-preserved
loop-at-preserved c =
    let words = (piece_seen c.in-Some.piece).0 in
    let after = unpacked_bytes c.in-Some.piece.rest.now in
    let all : take c.loop-at.at c.loop-at.out ++ (words ++ after) ≡ unpacked_bytes c.args.packed.now =
    ap (λ x. take c.loop-at.at c.loop-at.out ++ x) (sym (first_piece c.loop-at.left.now (piece_seen c.in-Some.piece) c.in-Some.ensures.piece))
    ∙ c.loop-at.invariant.rest (search rules) in
    record {
      inside = search rules;
      bytes = filled c.loop-at.at c.put_piece-at.result c.loop-at.out c.put_piece-at.new.out words after (unpacked_bytes c.args.packed.now)
          (search rules) (search rules) c.put_piece-at.ensures.bytes all;
      rest = λ room. filled_rest c.loop-at.at c.put_piece-at.result c.loop-at.out c.put_piece-at.new.out words after (unpacked_bytes c.args.packed.now)
          (search rules) (c.put_piece-at.ensures.whole (search rules)) c.put_piece-at.ensures.bytes all;
      size = search rules;
    }
