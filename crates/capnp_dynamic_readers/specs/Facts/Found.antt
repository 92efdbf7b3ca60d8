-- Fields that were found by a name belong to the schema, and those of one name are one.
use Rattle.std.proofs.Common.{ℕ, ◌≡◌, Option, Some, None, Bool, ap, sym, ◌∙◌}
use Rattle.capnp_schema.specs.FieldLists.{IsFound, index_of}
use Rattle.capnp_schema.specs.StructHandles.{number_of, set_of, struct_field}
use Rattle.capnp_schema.specs.declared.schema.fields.Field.{Field}
use Rattle.capnp_schema.specs.declared.schema.structs.StructSchema.{StructSchema}
use Rattle.capnp_records.specs.Part.{has_of}
use Rattle.capnp_records.specs.Record.{Record}
use Rattle.capnp_dynamic_readers.specs.Reads.{BelongsTo}

-- a field of a name belongs to the schema
pub found_belongs : (s : StructSchema) (o : Option ℕ) (f : Field) → IsFound s o (Some f) → BelongsTo f s
found_belongs s None f a = absurd a
found_belongs s (Some i) f a = record { set = ap set_of a.schema; number = ap number_of a.schema }

-- whether the field of an index is there
abbrev pub there : Record → StructSchema → ℕ → Bool
there r s i = has_of r (struct_field s i).field i

-- fields of one name are of one index
pub same_there : (r : Record) (s : StructSchema) (o : Option ℕ) (f g : Field) → IsFound s o (Some f) → IsFound s o (Some g) → there r s (index_of f) ≡ there r s (index_of g)
same_there r s None f g a b = absurd a
same_there r s (Some i) f g a b = ap (there r s) (a.index ∙ sym b.index)
