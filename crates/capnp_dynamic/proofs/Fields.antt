-- Whether a field is there, by the reader of a struct that is cut off further down.
use Rattle.std.proofs.Common.{ℕ, ◌<◌, ◌≡◌, false, length, ap, subst, ◌∙◌}
use Rattle.capnp_wire.specs.Tree.{StructTree}
use Rattle.capnp_arena.specs.Same.{IsStructCutOf}
use Rattle.capnp_base.specs.declared.introspect.TypeVariant.{TypeVariant}
use Rattle.capnp_schema.specs.FieldLists.{index_of, field_schema as field_schema, typed_of}
use Rattle.capnp_schema.specs.Schema.{Schemas, field_at, fields_of}
use Rattle.capnp_schema.specs.StructHandles.{IsStruct, number_of, set_of, struct_field}
use Rattle.capnp_schema.specs.Types.{seen_variant, is_pointer}
use Rattle.capnp_schema.specs.declared.schema.fields.Field.{Field}
use Rattle.capnp_schema.specs.declared.schema.structs.StructSchema.{StructSchema}
use Rattle.capnp_records.specs.Part.{has_of}
use Rattle.capnp_records.specs.Reading.{struct_record}
use Rattle.capnp_records.specs.Record.{Left}
use Rattle.capnp_wire.specs.Standing.{struct_levels, struct_of}
use Rattle.capnp_slots.specs.Fields.{IsSlot, field_set}
use Rattle.capnp_dynamic_readers.specs.Handles.{reader_of, schema_of}
use Rattle.capnp_dynamic_readers.specs.Reads.{BelongsTo, field_read, field_seen}
use Rattle.capnp_dynamic_readers.specs.declared.dynamic_struct.Reader.{Reader as StructReading}
use Rattle.capnp_dynamic.proofs.Heads.{has_cut, number_cut}

module _ (f : Field) (schema : StructSchema) (x s : StructTree) where
  abbrev there : Schemas → ℕ → Type 0
  there set b = has_of (struct_record set (Left 64) x b) (field_at set b (index_of f)).field (index_of f) ≡ has_of (struct_record set (Left 64) s b) (field_at set b (index_of f)).field (index_of f)

  pub has_same : (v : TypeVariant) → BelongsTo f schema → IsStruct (field_schema f) → index_of f < length (fields_of (set_of (field_schema f)) (number_of (field_schema f))) → seen_variant v ≡ (typed_of f).type → IsStructCutOf x s →
      has_of (struct_record (set_of schema) (Left 64) x (number_of schema)) (struct_field schema (index_of f)).field (index_of f)
      ≡ has_of (struct_record (set_of schema) (Left 64) s (number_of schema)) (struct_field schema (index_of f)).field (index_of f)
  has_same v belongs stands inside e cut =
      subst (λ (z : Schemas). there z (number_of schema)) belongs.set
      (subst (λ (b : ℕ). there (set_of (field_schema f)) b) belongs.number
      (has_cut (set_of (field_schema f)) (Left 64) x s cut stands.accepted (number_of (field_schema f)) (index_of f) stands.number inside v e))

-- the number of a slot
pub number_same : (f : Field) (s : StructTree) (r : StructReading) → schema_of r ≡ field_schema f → IsStructCutOf (struct_of (reader_of r)) s → struct_levels (reader_of r) ≡ 64 → IsSlot f → is_pointer (typed_of f).type ≡ false →
    field_seen r (index_of f) ≡ field_read (field_set f) (Left 64) s (typed_of f)
number_same f s r same cut levels slot e =
    ap (λ (z : StructSchema). field_read (set_of z) (Left (struct_levels (reader_of r))) (struct_of (reader_of r)) (struct_field z (index_of f))) same
    ∙ (ap (λ (n : ℕ). field_read (field_set f) (Left n) (struct_of (reader_of r)) (typed_of f)) levels
    ∙ number_cut (field_set f) (Left 64) (struct_of (reader_of r)) s cut (typed_of f) slot e)
