-- What is read of the struct is there in the whole one.
use Rattle.std.proofs.Common.{Ok, ap, subst, ℕ, ◌∙◌}
use Rattle.capnp_wire.specs.Standing.{struct_levels, struct_of}
use Rattle.capnp_schema.specs.Facts.Layers.{seen_which}
use Rattle.capnp_schema.specs.FieldLists.{index_of, field_schema as field_schema}
use Rattle.capnp_schema.specs.StructHandles.{IsStruct, number_of, set_of, struct_field}
use Rattle.capnp_schema.specs.Types.{seen_variant}
use Rattle.capnp_schema.specs.declared.schema.structs.StructSchema.{StructSchema}
use Rattle.capnp_records.specs.Part.{has_of}
use Rattle.capnp_records.specs.Reading.{struct_record}
use Rattle.capnp_records.specs.Record.{Left}
use Rattle.capnp_dynamic_readers.specs.Handles.{reader_of}
use Rattle.capnp_dynamic.specs.Built.{built_schema, built_struct}
use Rattle.capnp_dynamic.proofs.Fields.{has_same}
use Rattle.capnp_dynamic.proofs.dynamic_struct.build.Builder.has.Goals as goal

pub returns : goal.returns
returns c =
    let f = c.args.field in
    let schema = built_schema c.args.self.now in
    let r = c.reborrow_as_reader.result in
    let stands : IsStruct (field_schema f) = subst IsStruct c.get_containing_struct-schema.ensures.is c.get_containing_struct-schema.ensures.stands in
    c.has.ensures
    ∙ (ap (λ (z : StructSchema). Ok (has_of (struct_record (set_of z) (Left (struct_levels (reader_of r))) (struct_of (reader_of r)) (number_of z)) (struct_field z (index_of f)).field (index_of f))) c.reborrow_as_reader.ensures.schema
    ∙ (ap (λ (n : ℕ). Ok (has_of (struct_record (set_of schema) (Left n) (struct_of (reader_of r)) (number_of schema)) (struct_field schema (index_of f)).field (index_of f))) c.reborrow_as_reader.ensures.levels
    ∙ ap Ok (has_same f schema (struct_of (reader_of r)) (built_struct c.args.self.now) c.which-variant.result c.requires.belongs stands f.inside
    (ap seen_variant c.which-variant.ensures ∙ (seen_which c.get_type.result ∙ c.get_type.ensures.is)) c.reborrow_as_reader.ensures.cut)))
