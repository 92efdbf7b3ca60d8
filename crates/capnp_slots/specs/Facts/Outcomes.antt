-- Where a struct stands after a write that may have been refused and then has changed nothing.
use Rattle.std.proofs.Common.{ℕ, ◌≡◌, List, Result, Ok, Err, OnOk, OnErr, subst, sym}
use Rattle.capnp_device.specs.declared.error.Error.{Error}
use Rattle.capnp_arena.specs.Built.{IsBuilt, place_words}
use Rattle.capnp_arena.specs.Facts.Places.{unchanged}
use Rattle.capnp_arena.specs.Forest.{Planted}
use Rattle.capnp_arena.specs.Frame.{LeavesStruct}
use Rattle.capnp_arena.specs.Segment.{segment}
use Rattle.capnp_arena.specs.declared.arena.Arena.{Arena}
use Rattle.capnp_arena.specs.declared.arena.Place.{Place}

pub frame_after : {A : Type 0} (place : Place) (old new : Arena) (r : Result A Error) → IsBuilt old place → OnOk r (LeavesStruct place old new) → OnErr r (segment new ≡ segment old) → LeavesStruct place old new
frame_after place old new (Ok a) before written same = written
frame_after place old new (Err e) before written same = record {
  planted = subst (λ (b : List ℕ). Planted b (place_words place)) (sym same) before;
  changes = unchanged (segment old) (segment new) (place_words place) same;
}
