-- Past the pointers' count there is none; inside, the section of one pointer from there on
-- has just that tree, also where its start is capped.
use Rattle.std.proofs.Common.{sym, ◌∙◌, ◌+◌}
use Rattle.capnp_wire.specs.Backing.{segments_in}
use Rattle.capnp_wire.specs.Facts.Levels.{alone_capped}
use Rattle.capnp_wire.specs.Facts.Indexed.{only_tree_from, only_tree_past}
use Rattle.capnp_wire.proofs.parts.pointers.get_only_pointer.Goals as goal

pub returns-then-index-pointers : goal.returns-then-index-pointers
returns-then-index-pointers c = c.no_pointers.ensures ∙ sym (only_tree_past _ _ _ _ c.if-index-pointers.true)

pub returns : goal.returns
returns c =
    let ps = c.args.pointers in
    rw c.get_capped.ensures.value (alone_capped ps.depth (segments_in ps.is_stream ps.bytes.now) ps.segment.now (ps.first + c.args.index) ∙ sym (only_tree_from _ _ _ _ c.if-index-pointers.false))
