-- What a write comes to that may have been refused: it was done, or nothing has changed.
use Rattle.std.proofs.Common.{ℕ, ◌≡◌, List, Result, Ok, Err, OnOk, OnErr, IfErr, arith, ap, inl, refl, subst, sym}
use Rattle.capnp_device.specs.declared.error.Error.{Error}
use Rattle.capnp_arena.specs.Built.{built_at}
use Rattle.capnp_arena.specs.Forest.{Changes, Forest, struct_from}
use Rattle.capnp_arena.specs.Frame.{LeavesPointer}
use Rattle.capnp_arena.specs.Segment.{segment}
use Rattle.capnp_arena.specs.declared.arena.Arena.{Arena}
use Rattle.capnp_arena.specs.declared.arena.Place.{Place}
use Rattle.capnp_records.specs.Call.{Done, Refused, Reply}
use Rattle.capnp_slots.specs.Copied.{refusal_of}
use Rattle.capnp_call.specs.Steps.Seen.{reply_by}

-- two facts of a write that was done
pub both : {A : Type 0} (V W : Type 0) (r : Result A Error) → OnOk r V → OnOk r W → OnOk r (V × W)
both V W (Ok a) v w = (v, w)
both V W (Err e) v w = tt

-- what holds of the reply: of its being done, and of each refusal
pub by_outcome : {A W S : Type 0} {C : Error → Type 0} (Q : Reply → Type 0) (r : Result A Error) (reply : Reply) → reply ≡ reply_by (refusal_of r) →
    OnOk r W → (W → Q Done) → OnErr r S → IfErr r C → ((e : Error) → S → C e → Q (Refused e.kind)) → Q reply
by_outcome Q (Ok a) reply is written done same cause refused = subst Q (sym is) (done written)
by_outcome Q (Err e) reply is written done same cause refused = subst Q (sym is) (refused e same cause)

-- ---- where it stands ----

pub same_struct : (old new : Arena) (p : Place) → segment new ≡ segment old → built_at new p ≡ built_at old p
same_struct old new p e = ap (λ (b : List ℕ). struct_from b p.start p.data_words p.pointers) e

-- a list stands where it stood, and nothing else has changed
pub list_frame_after : {A : Type 0} (at : ℕ) (old new : Arena) (r : Result A Error) → Forest (segment old) at → OnOk r (LeavesPointer at old new) → OnErr r (segment new ≡ segment old) → LeavesPointer at old new
list_frame_after at old new (Ok a) before written same = written
list_frame_after at old new (Err e) before written same = record {
  forest = subst (λ (b : List ℕ). Forest b at) (sym same) before;
  changes = subst (Changes at (segment old)) (sym same) (record { longer = omega arith; stays = λ k l o p. refl; grows = λ k o. inl o });
}
