-- What is filled where something stands, by the field's type.
use Rattle.std.proofs.Common.{None, Ok, ap, refl, ◌∙◌}
use Rattle.capnp_arena.specs.Built.{built_at}
use Rattle.capnp_wire.specs.Defaults.{error_of}
use Rattle.capnp_wire.specs.Reading.{as_data, as_text}
use Rattle.capnp_wire.specs.Tree.{StructTree}
use Rattle.capnp_schema.specs.Entries.{lists_seen}
use Rattle.capnp_schema.specs.Facts.Layers.{seen_which}
use Rattle.capnp_schema.specs.StructHandles.{number_of, set_of}
use Rattle.capnp_schema.specs.Types.{seen_variant}
use Rattle.capnp_schema.specs.Plan.{brand_size}
use Rattle.capnp_slots.specs.Fields.{field_set}
use Rattle.capnp_slots.proofs.FilledSlots.{part_filled, part_made, part_stayed, untyped_part}
use Rattle.capnp_slots.proofs.StandingSlots.{data_in, list_in, struct_stands_in, text_in}
use Rattle.capnp_slots.proofs.Places.{same_struct}
use Rattle.capnp_slots.proofs.part.fill_standing.Goals as goal

pub returns-in-Struct-clause-written : goal.returns-in-Struct-clause-written
returns-in-Struct-clause-written c =
    let s : StructTree = built_at c.args.arena.now c.args.place in
    let type = ap seen_variant c.which.ensures ∙ (seen_which c.get_type.result ∙ c.get_type.ensures.is) in
    let set = c.get_set-schemas.ensures ∙ ap set_of c.get_containing_struct.ensures.is in
    let size = c.size_of-size.ensures ∙ (ap (λ z. brand_size z (number_of c.struct_schema.result)) (c.struct_schema.ensures.set ∙ set) ∙ ap (brand_size (field_set c.args.field)) c.struct_schema.ensures.number) in
    part_made (built_at c.args.arena.now c.args.place) (built_at c.extend_struct.new.arena c.args.place) c.args.index c.extend_struct.result c.args.field _ _ _
    (struct_stands_in c.args.field c.which.result c.args.index s c.requires.is type c.requires.standing c.in-Struct.raw c.size_of-size.result size c.in-Struct.is)
    c.extend_struct.ensures.ok c.extend_struct.ensures.within (same_struct c.args.place c.args.arena.now c.extend_struct.new.arena c.extend_struct.result c.extend_struct.ensures.refused) c.extend_struct.ensures.cause c.extend_struct.ensures.succeeds

pub returns-in-List-clause-written : goal.returns-in-List-clause-written
returns-in-List-clause-written c =
    part_filled (built_at c.args.arena.now c.args.place) (built_at c.fill_elements.new.arena c.args.place) c.args.index c.fill_elements.result c.args.field _ _ _
    (list_in c.args.field c.which.result c.args.index (built_at c.args.arena.now c.args.place) c.requires.is
    (ap seen_variant c.which.ensures ∙ (seen_which c.get_type.result ∙ c.get_type.ensures.is)) c.requires.standing
    (lists_seen c.get_set-schemas.result.now) c.in-List.element (c.get_set-schemas.ensures ∙ ap set_of c.get_containing_struct.ensures.is) c.in-List.is)
    c.fill_elements.ensures.written

pub returns-in-Text-clause-written : goal.returns-in-Text-clause-written
returns-in-Text-clause-written c =
    let s : StructTree = built_at c.args.arena.now c.args.place in
    part_stayed (built_at c.args.arena.now c.args.place) (built_at c.args.arena.now c.args.place) c.args.index c.check_blob.result c.args.field _
    (text_in c.args.field c.which.result c.args.index s c.requires.is (ap seen_variant c.which.ensures ∙ (seen_which c.get_type.result ∙ c.get_type.ensures.is)) c.requires.standing c.in-Text.is)
    refl (c.check_blob.ensures ∙ ap (λ x. error_of (as_text x)) c.pointer_at.ensures.tree)

pub returns-in-Data-clause-written : goal.returns-in-Data-clause-written
returns-in-Data-clause-written c =
    let s : StructTree = built_at c.args.arena.now c.args.place in
    part_stayed (built_at c.args.arena.now c.args.place) (built_at c.args.arena.now c.args.place) c.args.index c.check_blob-in-Data.result c.args.field _
    (data_in c.args.field c.which.result c.args.index s c.requires.is (ap seen_variant c.which.ensures ∙ (seen_which c.get_type.result ∙ c.get_type.ensures.is)) c.requires.standing c.in-Data.is)
    refl (c.check_blob-in-Data.ensures ∙ ap (λ x. error_of (as_data x)) c.pointer_at-in-Data.ensures.tree)

pub returns-in-AnyPointer-clause-written : goal.returns-in-AnyPointer-clause-written
returns-in-AnyPointer-clause-written c =
    let s : StructTree = built_at c.args.arena.now c.args.place in
    part_stayed s s c.args.index (Ok tt) c.args.field None
    (untyped_part c.args.field c.which.result c.args.index s c.requires.is (ap seen_variant c.which.ensures ∙ (seen_which c.get_type.result ∙ c.get_type.ensures.is)) c.in-AnyPointer.is)
    refl refl
