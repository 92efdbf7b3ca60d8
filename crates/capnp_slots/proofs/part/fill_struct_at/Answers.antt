-- A struct that stands is extended to the sections of its schema.
use Rattle.std.proofs.Common.{ap, sym, ◌∙◌}
use Rattle.capnp_arena.specs.Built.{built_at}
use Rattle.capnp_wire.specs.Reading.{is_null_tree}
use Rattle.capnp_wire.specs.Tree.{StructTree}
use Rattle.capnp_schema.specs.StructHandles.{number_of}
use Rattle.capnp_schema.specs.Plan.{brand_size}
use Rattle.capnp_slots.proofs.FilledSlots.{part_made}
use Rattle.capnp_slots.proofs.StandingSlots.{struct_at}
use Rattle.capnp_slots.proofs.Places.{same_struct}
use Rattle.capnp_slots.proofs.part.fill_struct_at.Goals as goal

pub returns-clause-written : goal.returns-clause-written
returns-clause-written c =
    let s : StructTree = built_at c.args.arena.now c.args.place in
    part_made (built_at c.args.arena.now c.args.place) (built_at c.extend_struct.new.arena c.args.place) c.args.index c.extend_struct.result c.args.field _ _ _
    (struct_at c.args.field c.args.index s c.requires.is (ap is_null_tree (sym c.pointer_at.ensures.tree) ∙ (sym c.is_null.ensures ∙ c.if-is_null.false)) (number_of c.args.schema) _ c.size_of.result
    (c.size_of.ensures ∙ ap (λ z. brand_size z (number_of c.args.schema)) c.requires.set) c.requires.type_is)
    c.extend_struct.ensures.ok c.extend_struct.ensures.within (same_struct c.args.place c.args.arena.now c.extend_struct.new.arena c.extend_struct.result c.extend_struct.ensures.refused) c.extend_struct.ensures.cause c.extend_struct.ensures.succeeds
