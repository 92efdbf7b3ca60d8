-- What stands at an untyped pointer that is built.
use Rattle.std.specs.Prelude.{ℕ}
use Rattle.std.specs.Borrow.{MutBor}
use Rattle.capnp_wire.specs.Tree.{Tree}
use Rattle.capnp_arena.specs.Forest.{Forest, tree}
use Rattle.capnp_arena.specs.Segment.{segment}
use Rattle.capnp_arena.specs.declared.arena.Arena.{Arena}
use Rattle.capnp_builders.specs.declared.any_pointer.Builder.{Builder}

-- the message behind it, and the pointer's word
abbrev pub arena_behind : Builder → MutBor Arena
arena_behind b = b.arena

abbrev pub untyped_word : Builder → ℕ
untyped_word b = b.at

-- a tree stands there
abbrev pub IsUntypedPointer : Builder → Type 0
IsUntypedPointer b = Forest (segment b.arena.now) b.at

abbrev pub untyped_tree : Builder → Tree
untyped_tree b = tree (segment b.arena.now) b.at
