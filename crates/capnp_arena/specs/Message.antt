-- The tree of a message that is built.
use Rattle.capnp_wire.specs.Tree.{Tree}
use Rattle.capnp_arena.specs.Forest.{Forest, tree}
use Rattle.capnp_arena.specs.Segment.{segment}
use Rattle.capnp_arena.specs.declared.arena.Arena.{Arena}

-- a tree stands at its root
abbrev pub IsMessage : Arena → Type 0
IsMessage message = Forest (segment message) 0

abbrev pub message_tree : Arena → Tree
message_tree message = tree (segment message) 0
