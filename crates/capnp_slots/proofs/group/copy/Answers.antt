-- A field's group, copied through one more group than there are brands.
use Rattle.std.proofs.Common.{◌≡◌, ap, length, subst, sym, ◌∙◌}
use Rattle.std.proofs.lemmas.List.{length-map}
use Rattle.capnp_wire.specs.Standing.{struct_levels, struct_of}
use Rattle.capnp_schema.specs.Entries.{lists_seen}
use Rattle.capnp_schema.specs.Ranges.{HasRanges}
use Rattle.capnp_schema.specs.Schema.{Schemas, seen_brand}
use Rattle.capnp_schema.specs.StructHandles.{IsStruct, set_of}
use Rattle.capnp_records.specs.Record.{Left}
use Rattle.capnp_slots.specs.Fields.{field_set}
use Rattle.capnp_slots.proofs.GroupClears.{keeps_size}
use Rattle.capnp_slots.proofs.GroupCopies.{copied_kept, copied_whole}
use Rattle.capnp_arena.specs.Facts.Frames.{struct_after}
use Rattle.capnp_slots.proofs.group.copy.Goals as goal

pub returns-clause-copied : goal.returns-clause-copied
returns-clause-copied c =
    let set : lists_seen c.get_set-schemas.result.now ≡ field_set c.args.field = c.get_set-schemas.ensures ∙ ap set_of c.get_containing_struct.ensures.is in
    copied_whole c.args.field c.args.group _ (Left (struct_levels c.args.source)) (struct_of c.args.source) _ _ _ _ c.requires.group
    (sym (length-map c.brands.result.now seen_brand) ∙ (ap length c.brands.ensures ∙ ap (λ (z : Schemas). length z.brands) set)) c.switch.ensures.switched c.copy_group.ensures.copied

pub returns-clause-kept : goal.returns-clause-kept
returns-clause-kept c =
    let set : lists_seen c.get_set-schemas.result.now ≡ field_set c.args.field = c.get_set-schemas.ensures ∙ ap set_of c.get_containing_struct.ensures.is in
    copied_kept c.args.field c.args.group (Left (struct_levels c.args.source)) (struct_of c.args.source) _ _ _ _
    (subst IsStruct c.get_containing_struct.ensures.is c.get_containing_struct.ensures.stands) (subst HasRanges set c.numbers_fit.ensures) c.group_is_copied.ensures.inside
    c.requires.group c.requires.room (returns-clause-copied c) (keeps_size _ _ _ c.switch.ensures.kept) c.copy_group.ensures.kept

pub returns-clause-frame : goal.returns-clause-frame
returns-clause-frame c = struct_after c.switch.ensures.frame.changes c.copy_group.ensures.frame
