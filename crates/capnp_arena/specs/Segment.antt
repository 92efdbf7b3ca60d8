-- The one segment of a message in memory.
use Rattle.std.specs.Prelude.{ℕ, List}
use Rattle.capnp_arena.specs.declared.arena.Arena.{Arena}

abbrev pub segment : Arena → List ℕ
segment arena = arena.bytes.items
