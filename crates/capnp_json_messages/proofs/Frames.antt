-- Frames one after another, and of what does nothing.
use Rattle.std.proofs.Common.{ℕ, inl, refl, List, arith}
use Rattle.capnp_arena.specs.Built.{IsBuilt, place_words}
use Rattle.capnp_arena.specs.Facts.Places.{at_then, then, unchanged}
use Rattle.capnp_arena.specs.Forest.{Changes, Forest}
use Rattle.capnp_arena.specs.Frame.{LeavesPointer, LeavesStruct}
use Rattle.capnp_arena.specs.Segment.{segment}
use Rattle.capnp_arena.specs.declared.arena.Arena.{Arena}
use Rattle.capnp_arena.specs.declared.arena.Place.{Place}

pub struct_then : (place : Place) (old m new : Arena) → LeavesStruct place old m → LeavesStruct place m new → LeavesStruct place old new
struct_then place old m new x y = record { planted = y.planted; changes = then x.changes y.changes }

pub struct_same : (place : Place) (a : Arena) → IsBuilt a place → LeavesStruct place a a
struct_same place a planted = record { planted = planted; changes = unchanged (segment a) (segment a) (place_words place) refl }

pub pointer_then : (word : ℕ) (old m new : Arena) → LeavesPointer word old m → LeavesPointer word m new → LeavesPointer word old new
pointer_then word old m new x y = record { forest = y.forest; changes = at_then x.changes y.changes }

changes_same : (word : ℕ) (bytes : List ℕ) → Changes word bytes bytes
changes_same word bytes = record { longer = omega arith; stays = λ k l other o. refl; grows = λ k o. inl o }

pub pointer_same : (word : ℕ) (a : Arena) → Forest (segment a) word → LeavesPointer word a a
pointer_same word a forest = record { forest = forest; changes = changes_same word (segment a) }
