-- The switch to a group's field keeps the sections of the group.
use Rattle.std.proofs.Common.{◌∙◌, ap}
use Rattle.capnp_arena.specs.Built.{built_at}
use Rattle.capnp_arena.specs.Facts.Frames.{struct_after}
use Rattle.capnp_schema.specs.StructHandles.{number_of, set_of}
use Rattle.capnp_records.specs.Facts.FieldWrite.{fits_after}
use Rattle.capnp_records.specs.Writes.Overlay.{cleared_group}
use Rattle.capnp_slots.specs.Fields.{field_brand, field_set}
use Rattle.capnp_slots.proofs.GroupClears.{keeps_size, keeps_trans}
use Rattle.capnp_slots.proofs.group_copy.open.Goals as goal

pub clear_whole-requires-clause-room : goal.clear_whole-requires-clause-room
clear_whole-requires-clause-room c =
    c.requires.group.room _ (fits_after _ (field_set c.args.field) (field_brand c.args.field) (built_at c.args.arena.now c.args.place) (built_at c.switch.new.arena c.args.place) c.switch.ensures.kept.writes c.requires.room)

pub returns-clause-frame : goal.returns-clause-frame
returns-clause-frame c = struct_after c.switch.ensures.frame.changes c.clear_whole.ensures.frame

pub returns-clause-cleared : goal.returns-clause-cleared
returns-clause-cleared c = c.clear_whole.ensures.cleared ∙ ap (cleared_group (set_of c.args.group) (number_of c.args.group)) c.switch.ensures.switched

pub returns-clause-kept : goal.returns-clause-kept
returns-clause-kept c = keeps_trans _ _ _ (keeps_size _ _ _ c.switch.ensures.kept) c.clear_whole.ensures.kept
