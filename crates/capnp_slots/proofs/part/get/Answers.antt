-- The pointer that was filled, by the slot's index.
use Rattle.std.proofs.Common.{ℕ, List, subst, ◌∙◌}
use Rattle.capnp_arena.specs.Forest.{Changes, Forest}
use Rattle.capnp_arena.specs.Segment.{segment}
use Rattle.capnp_arena.specs.Built.{LeavesIn, built_at}
use Rattle.capnp_slots.proofs.Pointers.{pointer_read, pointer_there}
use Rattle.capnp_slots.proofs.part.get.Goals as goal

pub fill_slot-requires-clause-inside : goal.fill_slot-requires-clause-inside
fill_slot-requires-clause-inside c = c.pointer_slot-index.ensures.inside _ c.requires.room

pub pointer_at-requires-clause-inside : goal.pointer_at-requires-clause-inside
pointer_at-requires-clause-inside c = pointer_there _ (built_at c.args.arena.now c.args.place) _ _ c.in_ok-fill_slot.ensures.written.filled (c.pointer_slot-index.ensures.inside _ c.requires.room)

pub returns-clause-now : goal.returns-clause-now
returns-clause-now c = c.pointer_at.ensures.tree ∙ pointer_read _ (built_at c.args.arena.now c.args.place) _ _ c.in_ok-fill_slot.ensures.written.filled (c.pointer_slot-index.ensures.inside _ c.requires.room)

pub returns-clause-leaves : goal.returns-clause-leaves
returns-clause-leaves c =
    subst (λ (i : ℕ). (new : List ℕ) → Forest new c.pointer_at.result → Changes c.pointer_at.result (segment c.fill_slot.new.arena) new → LeavesIn c.args.place i c.fill_slot.new.arena c.pointer_at.result new) c.pointer_slot-index.ensures.is
    c.pointer_at.ensures.leaves
