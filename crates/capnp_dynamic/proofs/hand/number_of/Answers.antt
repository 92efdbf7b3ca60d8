-- The number that is read is the one of the whole struct.
use Rattle.std.proofs.Common.{◌≡◌, subst, sym, ◌∙◌}
use Rattle.capnp_wire.specs.Standing.{struct_of, struct_levels}
use Rattle.capnp_wire.specs.declared.struct_reader.StructReader.{StructReader}
use Rattle.capnp_arena.specs.Same.{IsStructCutOf}
use Rattle.capnp_schema.specs.FieldLists.{index_of}
use Rattle.capnp_schema.specs.StructHandles.{set_of, struct_field}
use Rattle.capnp_schema.specs.declared.schema.structs.StructSchema.{StructSchema}
use Rattle.capnp_arena.specs.Built.{built_at}
use Rattle.capnp_dynamic_readers.specs.Typed.{IsOf}
use Rattle.capnp_dynamic.proofs.Fields.{number_same}
use Rattle.capnp_dynamic.proofs.hand.number_of.Goals as goal

pub returns-clause-stands : goal.returns-clause-stands
returns-clause-stands c =
    let f = c.args.field in
    let s = built_at c.args.arena.now c.args.place in
    let same = c.new-reader.ensures.schema ∙ c.get_containing_struct.ensures.is in (
      c.in-Ok.value,
      c.built_number.ensures.reads,
      c.in-Ok.ensures.value
          ∙ number_same f s c.new-reader.result same
          (subst (λ (x : StructReader). IsStructCutOf (struct_of x) s) (sym c.new-reader.ensures.reader) c.get_struct_reader.ensures.cut)
          (subst (λ (x : StructReader). struct_levels x ≡ 64) (sym c.new-reader.ensures.reader) c.get_struct_reader.ensures.levels) c.requires.slot c.requires.number,
      subst (λ (z : StructSchema). IsOf (set_of z) (struct_field z (index_of f)).type c.in-Ok.value) same c.in-Ok.ensures.typed,
    )
