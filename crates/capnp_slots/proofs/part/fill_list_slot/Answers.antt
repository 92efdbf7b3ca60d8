-- The pointer has what was filled.
use Rattle.capnp_arena.specs.Built.{built_at}
use Rattle.capnp_slots.proofs.Pointers.{slot_read}
use Rattle.capnp_slots.proofs.part.fill_list_slot.Goals as goal

pub fill_list_at-requires-clause-inside : goal.fill_list_at-requires-clause-inside
fill_list_at-requires-clause-inside c = c.pointer_slot-index.ensures.inside _ c.requires.room

pub returns-clause-here : goal.returns-clause-here
returns-clause-here c =
    slot_read c.args.field _ c.fill_list_at.result (built_at c.args.arena.now c.args.place) (built_at c.fill_list_at.new.arena c.args.place) _ c.pointer_slot-index.ensures.is (c.pointer_slot-index.ensures.inside _ c.requires.room) c.fill_list_at.ensures.written.filled
