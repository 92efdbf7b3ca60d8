-- A field that belongs to a struct's schema is read as that schema's.
use Rattle.std.proofs.Common.{ℕ, ◌≡◌, not, ap, ◌∙◌}
use Rattle.capnp_wire.specs.Standing.{struct_levels, struct_of}
use Rattle.capnp_schema.specs.FieldLists.{index_of, field_schema as field_schema, typed_of}
use Rattle.capnp_schema.specs.Schema.{Schemas, TypedField, field_at}
use Rattle.capnp_schema.specs.StructHandles.{number_of, set_of, struct_field}
use Rattle.capnp_schema.specs.declared.schema.fields.Field.{Field}
use Rattle.capnp_schema.specs.declared.schema.structs.StructSchema.{StructSchema}
use Rattle.capnp_records.specs.Part.{has_of, is_inactive}
use Rattle.capnp_records.specs.Reading.{struct_record}
use Rattle.capnp_records.specs.Record.{Left}
use Rattle.capnp_dynamic_readers.specs.Handles.{reader_of, schema_of}
use Rattle.capnp_dynamic_readers.specs.Reads.{BelongsTo, field_read, field_seen}
use Rattle.capnp_dynamic_readers.specs.Seen.{record_seen}
use Rattle.capnp_dynamic_readers.specs.declared.dynamic_struct.Reader.{Reader as StructHandle}

module _ (f : Field) (s : StructSchema) (belongs : BelongsTo f s) where
  pub same_field : typed_of f ≡ struct_field s (index_of f)
  same_field =
      ap (λ (z : Schemas). field_at z (number_of (field_schema f)) (index_of f)) belongs.set
      ∙ ap (λ (b : ℕ). field_at (set_of s) b (index_of f)) belongs.number

pub same_read : (f : Field) (r : StructHandle) → BelongsTo f (schema_of r) →
    field_read (set_of (field_schema f)) (Left (struct_levels (reader_of r))) (struct_of (reader_of r)) (typed_of f) ≡ field_seen r (index_of f)
same_read f r belongs =
    ap (λ (z : Schemas). field_read z (Left (struct_levels (reader_of r))) (struct_of (reader_of r)) (typed_of f)) belongs.set
    ∙ ap (field_read (set_of (schema_of r)) (Left (struct_levels (reader_of r))) (struct_of (reader_of r))) (same_field f (schema_of r) belongs)

pub same_has : (f : Field) (r : StructHandle) → BelongsTo f (schema_of r) →
    has_of (struct_record (set_of (field_schema f)) (Left (struct_levels (reader_of r))) (struct_of (reader_of r)) (number_of (field_schema f))) (typed_of f).field (index_of f) ≡ has_of (record_seen r) (struct_field (schema_of r) (index_of f)).field (index_of f)
same_has f r belongs =
    ap (λ (z : Schemas). has_of (struct_record z (Left (struct_levels (reader_of r))) (struct_of (reader_of r)) (number_of (field_schema f))) (typed_of f).field (index_of f)) belongs.set
    ∙ (ap (λ (b : ℕ). has_of (struct_record (set_of (schema_of r)) (Left (struct_levels (reader_of r))) (struct_of (reader_of r)) b) (typed_of f).field (index_of f)) belongs.number
    ∙ ap (λ (t : TypedField). has_of (record_seen r) t.field (index_of f)) (same_field f (schema_of r) belongs))

pub same_active : (f : Field) (r : StructHandle) → BelongsTo f (schema_of r) →
    not (is_inactive (struct_record (set_of (field_schema f)) (Left (struct_levels (reader_of r))) (struct_of (reader_of r)) (number_of (field_schema f))) (typed_of f).field (index_of f))
    ≡ not (is_inactive (record_seen r) (struct_field (schema_of r) (index_of f)).field (index_of f))
same_active f r belongs =
    ap (λ (z : Schemas). not (is_inactive (struct_record z (Left (struct_levels (reader_of r))) (struct_of (reader_of r)) (number_of (field_schema f))) (typed_of f).field (index_of f))) belongs.set
    ∙ (ap (λ (b : ℕ). not (is_inactive (struct_record (set_of (schema_of r)) (Left (struct_levels (reader_of r))) (struct_of (reader_of r)) b) (typed_of f).field (index_of f))) belongs.number
    ∙ ap (λ (t : TypedField). not (is_inactive (record_seen r) t.field (index_of f))) (same_field f (schema_of r) belongs))
