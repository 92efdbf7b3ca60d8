-- What is cleared by the plan is cleared in the slot, and the rest is kept.
use Rattle.std.proofs.Common.{◌∙◌}
use Rattle.capnp_schema.specs.FieldLists.{typed_of}
use Rattle.capnp_records.specs.Facts.GroupWrite.{suits_cleared}
use Rattle.capnp_records.specs.Writes.Overlay.{cleared_content}
use Rattle.capnp_arena.specs.Built.{built_at}
use Rattle.capnp_slots.proofs.Stored.{cleared_keeps}
use Rattle.capnp_slots.proofs.slot.clear.Goals as goal

pub returns-clause-kept : goal.returns-clause-kept
returns-clause-kept c = cleared_keeps c.args.field _ c.slot_plan.ensures _ _ c.requires.room
    (c.clear_plan.ensures.written ∙ (c.slot_plan.ensures.clears (built_at c.args.arena.now c.args.place) ∙ c.slot_plan.ensures.writes (cleared_content (typed_of c.args.field).type) (built_at c.args.arena.now c.args.place) (suits_cleared (typed_of c.args.field).type)))
