-- A field's group, cleared through as many groups as there are brands.
use Rattle.std.proofs.Common.{◌≡◌, ap, subst, sym, length, ◌∙◌}
use Rattle.std.proofs.lemmas.List.{length-map}
use Rattle.capnp_schema.specs.Entries.{lists_seen}
use Rattle.capnp_schema.specs.Ranges.{HasRanges}
use Rattle.capnp_schema.specs.Schema.{Schemas, seen_brand}
use Rattle.capnp_schema.specs.StructHandles.{IsStruct, set_of}
use Rattle.capnp_slots.specs.Fields.{field_set}
use Rattle.capnp_slots.proofs.GroupClears.{group_kept, group_whole, keeps_size}
use Rattle.capnp_arena.specs.Facts.Frames.{struct_after}
use Rattle.capnp_slots.proofs.group.clear.Goals as goal

pub returns-clause-cleared : goal.returns-clause-cleared
returns-clause-cleared c =
    let set : lists_seen c.get_set-schemas.result.now ≡ field_set c.args.field = c.get_set-schemas.ensures ∙ ap set_of c.get_containing_struct.ensures.is in
    group_whole c.args.field c.in-Some.group _ _ _ _ c.in-Some.ensures
    (sym (length-map c.brands.result.now seen_brand) ∙ (ap length c.brands.ensures ∙ ap (λ (z : Schemas). length z.brands) set))
    c.switch.ensures.switched c.clear_group.ensures.cleared

pub returns-clause-kept : goal.returns-clause-kept
returns-clause-kept c =
    let set : lists_seen c.get_set-schemas.result.now ≡ field_set c.args.field = c.get_set-schemas.ensures ∙ ap set_of c.get_containing_struct.ensures.is in
    group_kept c.args.field c.in-Some.group _ _ _
    (subst IsStruct c.get_containing_struct.ensures.is c.get_containing_struct.ensures.stands)
    (subst HasRanges set c.numbers_fit.ensures)
    c.group_is_cleared.ensures.inside c.in-Some.ensures c.requires.room (returns-clause-cleared c)
    (keeps_size _ _ _ c.switch.ensures.kept) c.clear_group.ensures.kept

pub returns-clause-frame : goal.returns-clause-frame
returns-clause-frame c = struct_after c.switch.ensures.frame.changes c.clear_group.ensures.frame
