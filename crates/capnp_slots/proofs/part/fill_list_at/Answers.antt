-- A list that stands is filled by the type of its elements.
use Rattle.std.proofs.Common.{ap, refl, sym, ◌∙◌}
use Rattle.capnp_arena.specs.Built.{built_at}
use Rattle.capnp_wire.specs.Reading.{is_null_tree}
use Rattle.capnp_base.specs.declared.introspect.TypeVariant.TheVariants as variant
use Rattle.capnp_schema.specs.Entries.{lists_seen}
use Rattle.capnp_schema.specs.StructHandles.{set_of}
use Rattle.capnp_slots.proofs.FilledSlots.{part_filled}
use Rattle.capnp_slots.proofs.StandingSlots.{list_in}
use Rattle.capnp_slots.proofs.part.fill_list_at.Goals as goal

pub returns-clause-written : goal.returns-clause-written
returns-clause-written c =
    part_filled (built_at c.args.arena.now c.args.place) (built_at c.fill_elements.new.arena c.args.place) c.args.index c.fill_elements.result c.args.field _ _ _
    (list_in c.args.field (variant.List c.args.element) c.args.index (built_at c.args.arena.now c.args.place) c.requires.is c.requires.type_is
    (ap is_null_tree (sym c.pointer_at.ensures.tree) ∙ (sym c.is_null.ensures ∙ c.if-is_null.false))
    (lists_seen c.get_set-schemas.result.now) c.args.element (c.get_set-schemas.ensures ∙ ap set_of c.get_containing_struct.ensures.is) refl)
    c.fill_elements.ensures.written
