-- The parts, extended, are the list as structs. The tree's words fit the segment, so those of the new list fit the limit.
use Rattle.std.proofs.Common.{arith, suc, ap, ◌∙◌, ◌≤◌}
use Rattle.capnp_wire.specs.Encoding.{bytes_of}
use Rattle.capnp_wire.specs.Facts.Bytes.{AreBytes_fits}
use Rattle.capnp_wire.specs.WellFormed.{AreBytes}
use Rattle.capnp_wire.specs.Words.{words_of}
use Rattle.capnp_arena.specs.Forest.{tree}
use Rattle.capnp_arena.specs.Steps.Grown.{grown_part_at}
use Rattle.capnp_arena.specs.Shape.{word_count}
use Rattle.capnp_arena.proofs.Bounded.{words_fit}
use Rattle.capnp_arena.proofs.PartLists.{grown_below, parts_as_structs, parts_held, parts_length}
use Rattle.capnp_arena.proofs.struct_lists.encode_structs.Goals as goal

pub encode_all_grown-requires-clause-small : goal.encode_all_grown-requires-clause-small
encode_all_grown-requires-clause-small c =
    let fit : suc (words_of (tree c.args.bytes.now c.args.at)) ≤ word_count c.args.bytes.now = words_fit c.args.bytes.now c.args.at c.requires.forest in
    omega (arith, grown_below c.args.size (grown_part_at c.args.bytes.now c.args.row) 0 c.args.count, c.requires.list.below, fit, c.requires.room, c.requires.few.0)

pub returns-clause-content : goal.returns-clause-content
returns-clause-content c = c.in_ok-content.ensures ∙ ap bytes_of (parts_as_structs _ _ _ _ c.args.size c.requires.list)

pub returns-clause-held : goal.returns-clause-held
returns-clause-held c =
    let h : AreBytes c.args.bytes.now = AreBytes_fits c.args.bytes.now c.type_inv.bytes in
    parts_held _ _ _ _ c.args.size c.requires.list h (omega arith) (omega arith) c.requires.fits.0 c.requires.fits.1 c.requires.few.1 (omega (arith, c.requires.room, c.requires.few.0))

pub returns-clause-words : goal.returns-clause-words
returns-clause-words c =
    let h : AreBytes c.args.bytes.now = AreBytes_fits c.args.bytes.now c.type_inv.bytes in
    let n = parts_length c.args.bytes.now c.args.at c.args.row c.args.count c.args.size c.requires.list h (omega arith) (omega arith) c.requires.fits.0 c.requires.fits.1 c.requires.few.1 (omega (arith, c.requires.room, c.requires.few.0)) c.in_ok-content.content.items
    (c.in_ok-content.ensures ∙ ap bytes_of (parts_as_structs _ _ _ _ c.args.size c.requires.list)) in
    let fit : suc (words_of (tree c.args.bytes.now c.args.at)) ≤ word_count c.args.bytes.now = words_fit c.args.bytes.now c.args.at c.requires.forest in
    (omega (arith, n), omega (arith, n, c.requires.list.below, fit, c.requires.room))
