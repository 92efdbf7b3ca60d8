-- What calls leave in the message round the struct or the pointer where they were made.
use Rattle.std.proofs.Common.{ℕ, List}
use Rattle.capnp_wire.specs.Tree.{Tree}
use Rattle.capnp_arena.specs.Built.{ChangesIn, LeavesIn, place_words}
use Rattle.capnp_arena.specs.Facts.Places.{at_then, then}
use Rattle.capnp_arena.specs.Forest.{Changes, Forest, PartChanges, Planted}
use Rattle.capnp_arena.specs.Frame.{LeavesPointer, LeavesStruct}
use Rattle.capnp_arena.specs.Leaves.{Leaves}
use Rattle.capnp_arena.specs.Segment.{segment}
use Rattle.capnp_arena.specs.declared.arena.Arena.{Arena}
use Rattle.capnp_arena.specs.declared.arena.Place.{Place}

-- a call after others
pub struct_after : {p : Place} {a b c : Arena} → ChangesIn p a b → LeavesStruct p b c → LeavesStruct p a c
struct_after x y = record { planted = y.planted; changes = then x y.changes }

pub pointer_after : {at : ℕ} {a b c : Arena} → Changes at (segment a) (segment b) → LeavesPointer at b c → LeavesPointer at a c
pointer_after x y = record { forest = y.forest; changes = at_then x y.changes }

-- a call at a pointer of a struct
pub struct_round : {p : Place} {i at : ℕ} {a b : Arena} → ((new : List ℕ) → Forest new at → Changes at (segment a) new → LeavesIn p i a at new) → LeavesPointer at a b → LeavesStruct p a b
struct_round leaves x = let l = leaves _ x.forest x.changes in record { planted = l.planted; changes = l.changes }

-- a call at a pointer of a list, and in a struct of one
pub list_round : {at w : ℕ} {t : List ℕ → Tree} {a b : Arena} → ((new : List ℕ) → Forest new w → Changes w (segment a) new → Leaves at (t new) (segment a) new) → LeavesPointer w a b → LeavesPointer at a b
list_round leaves x = let l = leaves _ x.forest x.changes in record { forest = l.forest; changes = l.changes }

pub list_round_struct : {at : ℕ} {p : Place} {t : List ℕ → Tree} {a b : Arena} → ((new : List ℕ) → Planted new (place_words p) → PartChanges (place_words p) (segment a) new → Leaves at (t new) (segment a) new)
    → LeavesStruct p a b → LeavesPointer at a b
list_round_struct leaves x = let l = leaves _ x.planted x.changes in record { forest = l.forest; changes = l.changes }
