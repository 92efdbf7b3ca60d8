-- The pointer of the slot by the slot's index.
use Rattle.std.proofs.Common.{ℕ, List, ap, subst, ◌∙◌}
use Rattle.capnp_wire.specs.Tree.{nth_tree}
use Rattle.capnp_arena.specs.Forest.{Changes, Forest}
use Rattle.capnp_arena.specs.Segment.{segment}
use Rattle.capnp_arena.specs.Built.{LeavesIn, built_at}
use Rattle.capnp_slots.proofs.part.pointer.Goals as goal

pub pointer_at-requires-clause-inside : goal.pointer_at-requires-clause-inside
pointer_at-requires-clause-inside c = c.pointer_slot-index.ensures.inside _ c.requires.room

pub returns-clause-tree : goal.returns-clause-tree
returns-clause-tree c = c.pointer_at.ensures.tree ∙ ap (nth_tree (built_at c.args.arena.now c.args.place).pointers) c.pointer_slot-index.ensures.is

pub returns-clause-leaves : goal.returns-clause-leaves
returns-clause-leaves c =
    subst (λ (i : ℕ). (new : List ℕ) → Forest new c.pointer_at.result → Changes c.pointer_at.result (segment c.args.arena.now) new → LeavesIn c.args.place i c.args.arena.now c.pointer_at.result new) c.pointer_slot-index.ensures.is
    c.pointer_at.ensures.leaves
