-- What a get, a has and a which answer after a write of a field of a struct's schema: the statements of the laws.
use Rattle.std.specs.Prelude.{ℕ, ◌<◌, ◌≡◌, ◌≢◌, false, true, ◌&&◌, None, Some, length}
use Rattle.capnp_wire.specs.Tree.{StructTree}
use Rattle.capnp_schema.specs.FieldLists.{index_of, typed_of}
use Rattle.capnp_schema.specs.Schema.{is_member}
use Rattle.capnp_schema.specs.StructHandles.{number_of, set_of, struct_field, struct_fields}
use Rattle.capnp_schema.specs.declared.schema.fields.Field.{Field}
use Rattle.capnp_schema.specs.declared.schema.structs.StructSchema.{StructSchema}
use Rattle.capnp_records.specs.Part.{has_of, which_of}
use Rattle.capnp_records.specs.ReadBack.{default_got}
use Rattle.capnp_records.specs.Reading.{struct_record}
use Rattle.capnp_records.specs.Record.{Levels, Record, Value}
use Rattle.capnp_slots.specs.Fields.{IsSlot, Keeps, names_of}
use Rattle.capnp_slots.specs.FieldWrites.{IsFieldSet, field_cleared}
use Rattle.capnp_slots.specs.Groups.{IsGroup}
use Rattle.capnp_slots.specs.ReadBack.{HasKind, IsWithoutParts}
use Rattle.capnp_slots.specs.Standing.{IsUnder}
use Rattle.capnp_dynamic.specs.Built.{built_record, built_schema}
use Rattle.capnp_dynamic.specs.Handed.{HandsInit}
use Rattle.capnp_dynamic_readers.specs.Reads.{BelongsTo, field_read}
use Rattle.capnp_dynamic_readers.specs.Seen.{value_seen}
use Rattle.capnp_slots.specs.SetValues.{source_of}
use Rattle.capnp_dynamic.specs.declared.dynamic_struct.build.Builder.{Builder as StructHandle}
use Rattle.capnp_dynamic_readers.specs.declared.dynamic_value.Reader.{Reader as DynamicValue}
use Rattle.capnp_dynamic.specs.declared.dynamic_value.build.Builder.TheVariants as built

-- what a get of field i answers of a struct under a schema, where its reader has so many levels left
abbrev pub got_under : StructSchema → Levels → StructTree → ℕ → Value
got_under schema l s i = field_read (set_of schema) l s (struct_field schema i)

-- the record that has and which are asked of
abbrev pub record_under : StructSchema → Levels → StructTree → Record
record_under schema l s = struct_record (set_of schema) l s (number_of schema)

-- a field of a schema is the active member where it is one
abbrev pub IsActiveUnder : StructSchema → Field → StructTree → Type 0
IsActiveUnder schema f s = is_member (typed_of f).field ≡ true → (l : Levels) → which_of (record_under schema l s) ≡ Some (index_of f)

-- a number, truth value, enum, text or data that was set in a slot of its kind is answered
abbrev pub SetIsGot : Field → DynamicValue → Type 0
SetIsGot f v = (schema : StructSchema) → BelongsTo f schema → (old new : StructTree) → IsUnder schema old → IsSlot f → IsFieldSet f (source_of v) old None new →
    IsWithoutParts (source_of v) → HasKind (typed_of f).type → (l : Levels) → got_under schema l new (index_of f) ≡ value_seen v

-- a field that was set is active, and one that was cleared
abbrev pub BuilderSetIsActive : Field → DynamicValue → Type 0
BuilderSetIsActive f v = (schema : StructSchema) → BelongsTo f schema → (old new : StructTree) → IsUnder schema old → IsFieldSet f (source_of v) old None new → IsActiveUnder schema f new

abbrev pub BuilderClearIsActive : Field → Type 0
BuilderClearIsActive f = (schema : StructSchema) → BelongsTo f schema → (s : StructTree) → IsUnder schema s → IsActiveUnder schema f (field_cleared f s)

-- of a slot that was cleared the default is answered
abbrev pub BuilderClearIsGot : Field → Type 0
BuilderClearIsGot f = (schema : StructSchema) → BelongsTo f schema → (s : StructTree) → IsUnder schema s → IsSlot f → (l : Levels) →
    got_under schema l (field_cleared f s) (index_of f) ≡ default_got (set_of schema) l (struct_field schema (index_of f))

-- a group that init hands out has its member of discriminant value 0 active, where it has one
abbrev pub BuilderGroupStarts : Field → Type 0
BuilderGroupStarts f = (schema : StructSchema) → BelongsTo f schema → (s : StructTree) → IsUnder schema s → IsGroup f → (g : StructHandle) → HandsInit f s (built.Struct g) →
    (k : ℕ) → k < length (struct_fields (built_schema g)) → is_member (struct_field (built_schema g) k).field ≡ true → (struct_field (built_schema g) k).field.discriminant_value ≡ 0 →
    which_of (built_record g) ≡ Some k

-- two fields of a schema, of which one is no member
pub record AreSchemaFieldsApart (schema : StructSchema) (f g : Field) : Type 0 where
  pub belongs : BelongsTo f schema
  pub other : BelongsTo g schema
  pub differ : index_of f ≢ index_of g
  pub not_both : (is_member (typed_of f).field && is_member (typed_of g).field) ≡ false

-- a write of one changes neither what is answered of the other nor whether it is there
abbrev pub BuilderOtherIsGot : (f g : Field) → Type 0
BuilderOtherIsGot f g = (schema : StructSchema) → AreSchemaFieldsApart schema f g → (s s' : StructTree) → Keeps (names_of f) s s' → (l : Levels) →
    got_under schema l s' (index_of g) ≡ got_under schema l s (index_of g)

abbrev pub BuilderOtherIsThere : (f g : Field) → Type 0
BuilderOtherIsThere f g = (schema : StructSchema) → AreSchemaFieldsApart schema f g → (s s' : StructTree) → Keeps (names_of f) s s' → (l : Levels) →
    has_of (record_under schema l s') (struct_field schema (index_of g)).field (index_of g) ≡ has_of (record_under schema l s) (struct_field schema (index_of g)).field (index_of g)
