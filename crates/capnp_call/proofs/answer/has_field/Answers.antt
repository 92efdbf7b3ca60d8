-- A field is there whatever levels the reader has.
use Rattle.std.proofs.Common.{ap, ◌∙◌, subst, refl}
use Rattle.capnp_arena.specs.Built.{built_at}
use Rattle.capnp_wire.specs.Standing.{struct_levels, struct_of}
use Rattle.capnp_schema.specs.Facts.Layers.{seen_which}
use Rattle.capnp_schema.specs.FieldLists.{field_schema}
use Rattle.capnp_schema.specs.StructHandles.{IsStruct}
use Rattle.capnp_schema.specs.Types.{seen_variant}
use Rattle.capnp_records.specs.Call.{Flag}
use Rattle.capnp_dynamic_readers.specs.Facts.HasWhich.{ok_same}
use Rattle.capnp_call.proofs.FieldReads.{StandsOn, has_reads}
use Rattle.capnp_call.proofs.answer.has_field.Goals as goal

pub returns : goal.returns
returns c whole old =
    let f = c.args.field in
    let is : IsStruct (field_schema f) = subst IsStruct c.get_containing_struct.ensures.is c.get_containing_struct.ensures.stands in
    let s = built_at c.args.arena.now c.args.place in
    let x = struct_of c.get_struct_reader.result in
    let on : StandsOn c.new-reader.result (field_schema f) x = record {
      schema_is = c.new-reader.ensures.schema ∙ c.get_containing_struct.ensures.is;
      struct_is = ap struct_of c.new-reader.ensures.reader;
      levels = ap struct_levels c.new-reader.ensures.reader ∙ c.get_struct_reader.ensures.levels;
    } in (
      ap Flag (ok_same c.has.result c.in-Ok.there _ c.in-Ok.is c.has.ensures ∙ has_reads c.new-reader.result f x s on c.get_struct_reader.ensures.cut is f.inside c.which-variant.result
          (ap seen_variant c.which-variant.ensures ∙ (seen_which c.get_type.result ∙ c.get_type.ensures.is))),
      refl,
    )
