-- What is filled, by the field's type.
use Rattle.std.proofs.Common.{None, Ok, ap, refl, ◌∙◌}
use Rattle.capnp_arena.specs.Built.{built_at}
use Rattle.capnp_wire.specs.Tree.{StructTree}
use Rattle.capnp_schema.specs.Entries.{lists_seen}
use Rattle.capnp_schema.specs.Facts.Layers.{seen_which}
use Rattle.capnp_schema.specs.StructHandles.{number_of, set_of}
use Rattle.capnp_schema.specs.Types.{seen_variant}
use Rattle.capnp_schema.specs.Plan.{brand_size}
use Rattle.capnp_slots.specs.Fields.{field_set}
use Rattle.capnp_slots.proofs.Filled.{default_is}
use Rattle.capnp_slots.proofs.FilledSlots.{data_part, list_part, part_filled, part_made, part_stayed, struct_part, text_part, untyped_part}
use Rattle.capnp_slots.proofs.Places.{same_struct}
use Rattle.capnp_slots.proofs.part.fill_null.Goals as goal

pub returns-in-Struct-clause-written : goal.returns-in-Struct-clause-written
returns-in-Struct-clause-written c =
    let s : StructTree = built_at c.args.arena.now c.args.place in
    let set = c.get_set-schemas.ensures ∙ ap set_of c.get_containing_struct.ensures.is in
    let size = c.size_of-size.ensures ∙ (ap (λ z. brand_size z (number_of c.struct_schema.result)) (c.struct_schema.ensures.set ∙ set) ∙ ap (brand_size (field_set c.args.field)) c.struct_schema.ensures.number) in
    let part = struct_part c.args.field _ c.requires.slot c.default_pointer-default.ensures c.in-Struct.raw c.which.result c.size_of-size.result c.args.index s size c.requires.is c.in-Struct.is
    (ap seen_variant c.which.ensures ∙ (seen_which c.get_type.result ∙ c.get_type.ensures.is)) in
    part_made (built_at c.args.arena.now c.args.place) (built_at c.fill_struct.new.arena c.args.place) c.args.index c.fill_struct.result c.args.field _ _ _ part
    c.fill_struct.ensures.ok c.fill_struct.ensures.within (same_struct c.args.place c.args.arena.now c.fill_struct.new.arena c.fill_struct.result c.fill_struct.ensures.refused) c.fill_struct.ensures.cause c.fill_struct.ensures.succeeds

pub returns-in-List-clause-written : goal.returns-in-List-clause-written
returns-in-List-clause-written c =
    part_filled (built_at c.args.arena.now c.args.place) (built_at c.fill_elements.new.arena c.args.place) c.args.index c.fill_elements.result c.args.field _ _ _
    (list_part c.args.field _ c.requires.slot c.default_pointer-default.ensures (lists_seen c.get_set-schemas.result.now) c.in-List.element c.which.result c.args.index (built_at c.args.arena.now c.args.place)
    (c.get_set-schemas.ensures ∙ ap set_of c.get_containing_struct.ensures.is) c.requires.is c.in-List.is
    (ap seen_variant c.which.ensures ∙ (seen_which c.get_type.result ∙ c.get_type.ensures.is)))
    c.fill_elements.ensures.written

pub returns-in-Text-clause-written : goal.returns-in-Text-clause-written
returns-in-Text-clause-written c =
    let s : StructTree = built_at c.args.arena.now c.args.place in
    part_made (built_at c.args.arena.now c.args.place) (built_at c.fill_blob.new.arena c.args.place) c.args.index c.fill_blob.result c.args.field _ _ _
    (text_part c.args.field c.which.result c.args.index s c.requires.is (ap seen_variant c.which.ensures ∙ (seen_which c.get_type.result ∙ c.get_type.ensures.is)) (default_is c.args.field _ c.requires.slot c.default_pointer-default.ensures) c.in-Text.is)
    c.fill_blob.ensures.ok c.fill_blob.ensures.within (same_struct c.args.place c.args.arena.now c.fill_blob.new.arena c.fill_blob.result c.fill_blob.ensures.refused) c.fill_blob.ensures.cause (λ h. absurd h)

pub returns-in-Data-clause-written : goal.returns-in-Data-clause-written
returns-in-Data-clause-written c =
    let s : StructTree = built_at c.args.arena.now c.args.place in
    part_made (built_at c.args.arena.now c.args.place) (built_at c.fill_blob-in-Data.new.arena c.args.place) c.args.index c.fill_blob-in-Data.result c.args.field _ _ _
    (data_part c.args.field c.which.result c.args.index s c.requires.is (ap seen_variant c.which.ensures ∙ (seen_which c.get_type.result ∙ c.get_type.ensures.is)) (default_is c.args.field _ c.requires.slot c.default_pointer-default.ensures) c.in-Data.is)
    c.fill_blob-in-Data.ensures.ok c.fill_blob-in-Data.ensures.within (same_struct c.args.place c.args.arena.now c.fill_blob-in-Data.new.arena c.fill_blob-in-Data.result c.fill_blob-in-Data.ensures.refused) c.fill_blob-in-Data.ensures.cause (λ h. absurd h)

pub returns-in-AnyPointer-clause-written : goal.returns-in-AnyPointer-clause-written
returns-in-AnyPointer-clause-written c =
    let s : StructTree = built_at c.args.arena.now c.args.place in
    part_stayed s s c.args.index (Ok tt) c.args.field None
    (untyped_part c.args.field c.which.result c.args.index s c.requires.is (ap seen_variant c.which.ensures ∙ (seen_which c.get_type.result ∙ c.get_type.ensures.is)) c.in-AnyPointer.is)
    refl refl
