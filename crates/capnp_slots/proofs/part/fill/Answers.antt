-- The pointer has what was filled.
use Rattle.capnp_arena.specs.Built.{built_at}
use Rattle.capnp_slots.proofs.Pointers.{slot_read}
use Rattle.capnp_slots.proofs.part.fill.Goals as goal

pub fill_slot-requires-clause-inside : goal.fill_slot-requires-clause-inside
fill_slot-requires-clause-inside c = c.pointer_slot-index.ensures.inside _ c.requires.room

pub returns-clause-here : goal.returns-clause-here
returns-clause-here c =
    slot_read c.args.field _ c.fill_slot.result (built_at c.args.arena.now c.args.place) (built_at c.fill_slot.new.arena c.args.place) _ c.pointer_slot-index.ensures.is (c.pointer_slot-index.ensures.inside _ c.requires.room) c.fill_slot.ensures.written.filled
