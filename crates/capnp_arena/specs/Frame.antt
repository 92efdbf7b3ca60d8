-- What a call leaves in the message in memory, where it changes one struct or what one pointer leads to.
use Rattle.std.specs.Prelude.{ℕ}
use Rattle.capnp_arena.specs.Built.{ChangesIn, IsBuilt}
use Rattle.capnp_arena.specs.Forest.{Changes, Forest}
use Rattle.capnp_arena.specs.Segment.{segment}
use Rattle.capnp_arena.specs.declared.arena.Arena.{Arena}
use Rattle.capnp_arena.specs.declared.arena.Place.{Place}

-- a struct stands at the place, and nothing has changed but in it and what it led to
pub record LeavesStruct (place : Place) (old new : Arena) : Type 0 where
  pub planted : IsBuilt new place
  pub changes : ChangesIn place old new

-- the pointer leads to words of its own, and nothing has changed but it and what it led to
pub record LeavesPointer (at : ℕ) (old new : Arena) : Type 0 where
  pub forest : Forest (segment new) at
  pub changes : Changes at (segment old) (segment new)
