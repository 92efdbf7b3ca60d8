-- Before the segment stand two halves, zero and the word count. As the segment is its own encoding, that count is the tree's.
use Rattle.std.proofs.Common.{arith, suc, ◌/◌, ◌*◌, ◌≡◌, ◌++◌, ◌∙◌, ap, length}
use Rattle.capnp_wire.specs.Encoding.{encoding_of, spelled_number}
use Rattle.capnp_wire.specs.Facts.Appending.{append_two}
use Rattle.capnp_wire.specs.Facts.Bytes.{AreBytes_fits}
use Rattle.capnp_wire.specs.Facts.EncodedSizes.{length_encoding}
use Rattle.capnp_wire.specs.Words.{words_of}
use Rattle.capnp_arena.specs.Forest.{tree}
use Rattle.capnp_arena.proofs.Encodings.{tree_held}
use Rattle.capnp_arena.proofs.message.append_whole.Goals as goal

pub returns-clause-bytes : goal.returns-clause-bytes
returns-clause-bytes c =
    let t = tree c.args.bytes.now 0 in
    let l : length c.args.bytes.now ≡ 8 * suc (words_of t) = ap length c.requires.order ∙ length_encoding t (tree_held c.args.bytes.now 0 (AreBytes_fits c.args.bytes.now c.type_inv.bytes)) in
    let b : c.append_half-2.new.out.items ≡ c.append_half.new.out.items ++ spelled_number 4 (suc (words_of t)) = c.in_ok-append_half-2.ensures ∙ ap (λ n. c.append_half.new.out.items ++ spelled_number 4 n) {x = length c.args.bytes.now / 8} {y = suc (words_of t)} (omega (arith, l)) in
    append_two c.args.out.now.items c.append_half.new.out.items c.extend_from_slice.new.self.items (spelled_number 4 0) (spelled_number 4 (suc (words_of t)) ++ encoding_of t) c.in_ok-append_half.ensures
    (append_two c.append_half.new.out.items c.append_half-2.new.out.items c.extend_from_slice.new.self.items (spelled_number 4 (suc (words_of t))) (encoding_of t) b (c.in_ok-extend_from_slice.ensures.items ∙ ap (λ z. c.append_half-2.new.out.items ++ z) c.requires.order))
    ∙ ap (λ z. z ++ (spelled_number 4 0 ++ (spelled_number 4 (suc (words_of t)) ++ encoding_of t))) c.requires.new

pub returns-clause-held : goal.returns-clause-held
returns-clause-held c = tree_held c.args.bytes.now 0 (AreBytes_fits c.args.bytes.now c.type_inv.bytes)
