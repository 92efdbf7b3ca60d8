-- A list of items stands behind the root's pointer, and what is written into it leaves a tree at the root.
use Rattle.std.proofs.Common.{subst, sym}
use Rattle.capnp_wire.specs.StructLists.{HoldsStructs}
use Rattle.capnp_wire.specs.declared.size.StructSize.{StructSize}
use Rattle.capnp_arena.specs.Built.{built_at}
use Rattle.capnp_arena.specs.Forest.{tree}
use Rattle.capnp_arena.specs.Segment.{segment}
use Rattle.capnp_arena.specs.Facts.Laws.{in_struct}
use Rattle.capnp_arena.specs.Facts.Places.{at_then, then}
use Rattle.capnp_bench.proofs.Items.{holds_structs}
use Rattle.capnp_bench.proofs.documents.build_once.Goals as goal

pub initn-requires-clause-room : goal.initn-requires-clause-room
initn-requires-clause-room c = c.requires.lies (built_at c.start_root.new.message c.in_ok-root.root) c.in_ok-root.ensures.standing.room

pub fill_items-requires-clause-holds : goal.fill_items-requires-clause-holds
fill_items-requires-clause-holds c =
    let size = c.size_of.result in
    subst (λ (z : StructSize). HoldsStructs z (tree (segment c.get_struct_list.new.self) c.pointer-at.result)) c.size_of.ensures
    (subst (HoldsStructs size) (sym c.in_ok-get_struct_list.ensures.tree)
    (holds_structs size (tree (segment c.initn.new.arena) c.pointer-at.result) c.in_ok-get_struct_list.ensures.within c.tree_is_sound.ensures.whole))

pub write_message-requires : goal.write_message-requires
write_message-requires c =
    let p = c.in_ok-root.root in
    let l = c.pointer-at.ensures.leaves _ c.in_ok-fill_items.ensures.forest (at_then c.in_ok-get_struct_list.ensures.changes c.in_ok-fill_items.ensures.changes) in
    record { forest = (in_struct _ _ 0 p.start p.data_words p.pointers c.in_ok-root.ensures.forest c.in_ok-root.ensures.place l.planted (then c.in_ok-initn.ensures.frame.changes l.changes)).forest }
