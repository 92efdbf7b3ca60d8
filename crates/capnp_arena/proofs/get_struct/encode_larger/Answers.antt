-- The struct's words fit the segment, so with the larger sections they fit the limit; the extended struct has an element's size.
use Rattle.std.proofs.Common.{arith, rules, suc, ◌+◌, ◌≡◌, ◌≤◌, ap, List, ℕ}
use Rattle.capnp_wire.specs.Facts.Bytes.{AreBytes_fits}
use Rattle.capnp_wire.specs.Tree.{trees_from}
use Rattle.capnp_wire.specs.WellFormed.{AreBytes}
use Rattle.capnp_wire.specs.Words.{words_of, words_of_all}
use Rattle.capnp_arena.specs.Forest.{struct_from, tree}
use Rattle.capnp_arena.specs.Shape.{word_count}
use Rattle.capnp_arena.proofs.Bounded.{words_fit}
use Rattle.capnp_arena.proofs.Counted.{words_struct}
use Rattle.capnp_arena.proofs.Extensions.{larger_length, struct_extended}
use Rattle.capnp_arena.proofs.get_struct.encode_larger.Goals as goal

same_row : (bytes : List ℕ) (a p : ℕ) → words_of_all (trees_from (tree bytes) (a + 0) p) ≡ words_of_all (trees_from (tree bytes) a p)
same_row bytes a p = ap (λ n. words_of_all (trees_from (tree bytes) n p)) {x = a + 0} {y = a} (omega arith)

pub encode_grown-requires-clause-small : goal.encode_grown-requires-clause-small
encode_grown-requires-clause-small c =
    let fit : suc (words_of (tree c.args.bytes.now c.args.at)) ≤ word_count c.args.bytes.now = words_fit c.args.bytes.now c.args.at c.requires.forest in
    omega (arith, same_row c.args.bytes.now (c.args.place.start + c.args.place.data_words) c.args.place.pointers, words_struct _ _ c.requires.forest _ _ _ c.requires.there, fit, c.requires.room, c.requires.few)

pub returns-clause-words : goal.returns-clause-words
returns-clause-words c =
    let h : AreBytes c.args.bytes.now = AreBytes_fits c.args.bytes.now c.type_inv.bytes in
    let n = larger_length c.args.size (struct_from c.args.bytes.now c.args.place.start c.args.place.data_words c.args.place.pointers) c.in_ok-content.content.items (omega arith) (omega arith)
    (struct_extended c.args.bytes.now c.args.place.start c.args.place.data_words c.args.place.pointers c.args.size h (omega arith) (omega arith) c.requires.larger.0 c.requires.larger.1) (search rules) in
    let fit : suc (words_of (tree c.args.bytes.now c.args.at)) ≤ word_count c.args.bytes.now = words_fit c.args.bytes.now c.args.at c.requires.forest in
    (omega (arith, n), omega (arith, n, words_struct _ _ c.requires.forest _ _ _ c.requires.there, fit, c.requires.room))

pub returns-clause-held : goal.returns-clause-held
returns-clause-held c =
    let h : AreBytes c.args.bytes.now = AreBytes_fits c.args.bytes.now c.type_inv.bytes in
    struct_extended c.args.bytes.now c.args.place.start c.args.place.data_words c.args.place.pointers c.args.size h (omega arith) (omega arith) c.requires.larger.0 c.requires.larger.1
