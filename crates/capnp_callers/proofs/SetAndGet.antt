-- A reader of the struct that a set left answers what was set, also where it is cut off further down.
use Rattle.std.proofs.Common.{ℕ, ◌≡◌, None, Result, Ok, Err, IfOk, ap, sym, subst, ◌∙◌}
use Rattle.capnp_device.specs.declared.error.Error.{Error}
use Rattle.capnp_wire.specs.Standing.{struct_levels, struct_of}
use Rattle.capnp_wire.specs.Tree.{StructTree}
use Rattle.capnp_arena.specs.Same.{IsStructCutOf}
use Rattle.capnp_schema.specs.FieldLists.{index_of, typed_of}
use Rattle.capnp_schema.specs.StructHandles.{set_of, struct_field}
use Rattle.capnp_schema.specs.declared.schema.fields.Field.{Field}
use Rattle.capnp_schema.specs.declared.schema.structs.StructSchema.{StructSchema}
use Rattle.capnp_records.specs.Record.{Left}
use Rattle.capnp_slots.specs.Fields.{IsSlot}
use Rattle.capnp_slots.specs.ReadBack.{HasKind, IsWithoutParts}
use Rattle.capnp_slots.specs.Standing.{IsUnder}
use Rattle.capnp_slots.specs.FieldWrites.{IsFieldSet}
use Rattle.capnp_dynamic_readers.specs.Handles.{reader_of, schema_of}
use Rattle.capnp_dynamic.specs.ReadBack.{SetIsGot}
use Rattle.capnp_dynamic_readers.specs.Reads.{BelongsTo, field_read, field_seen}
use Rattle.capnp_dynamic_readers.specs.Seen.{answered_value, value_seen}
use Rattle.capnp_slots.specs.SetValues.{source_of}
use Rattle.capnp_dynamic_readers.specs.declared.dynamic_struct.Reader.{Reader as StructHandle}
use Rattle.capnp_dynamic_readers.specs.declared.dynamic_value.Reader.{Reader as DynamicValue}
use Rattle.capnp_dynamic_readers.specs.declared.dynamic_value.Reader.TheVariants as dynamic
use Rattle.capnp_callers.proofs.CutReads.{IsLeaf, leaf_cut}

-- a number, truth value, enum, text or data has no parts
whole_is_leaf : (v : DynamicValue) → IsWithoutParts (source_of v) → IsLeaf (value_seen v)
whole_is_leaf (dynamic.Struct s) whole = absurd whole
whole_is_leaf (dynamic.List l) whole = absurd whole
whole_is_leaf (dynamic.AnyPointer p) whole = absurd whole
whole_is_leaf v whole = tt

-- a set of a slot of a struct under a schema
pub record IsSlotSet (f : Field) (v : DynamicValue) (schema : StructSchema) (old new : StructTree) : Type 0 where
  -- the field is a slot of the schema, which the struct had room for
  pub belongs : BelongsTo f schema
  pub slot : IsSlot f
  pub room : IsUnder schema old
  -- the set left this struct
  pub set : IsFieldSet f (source_of v) old None new

-- a get of the field from a reader of what the set left
pub record IsReadBack (f : Field) (schema : StructSchema) (new : StructTree) (s : StructHandle) (r : Result DynamicValue Error) : Type 0 where
  -- the reader has the schema and all levels
  pub schema_same : schema_of s ≡ schema
  pub levels : struct_levels (reader_of s) ≡ 64
  -- it stands on the struct, cut off further down
  pub cut : IsStructCutOf (struct_of (reader_of s)) new
  -- what it answered
  pub value : answered_value r ≡ field_seen s (index_of f)

pub set_is_got : (f : Field) (v : DynamicValue) (schema : StructSchema) (old new : StructTree) (s : StructHandle) (r : Result DynamicValue Error) → SetIsGot f v →
    IsSlotSet f v schema old new → IsReadBack f schema new s r → IsWithoutParts (source_of v) → HasKind (typed_of f).type → IfOk r (λ got. value_seen got ≡ value_seen v)
set_is_got f v schema old new s (Ok got) law done back whole kind =
    let set_got : field_read (set_of schema) (Left 64) new (struct_field schema (index_of f)) ≡ value_seen v = law schema done.belongs old new done.room done.slot done.set whole kind (Left 64) in
    back.value
    ∙ (ap (λ (z : StructSchema). field_read (set_of z) (Left (struct_levels (reader_of s))) (struct_of (reader_of s)) (struct_field z (index_of f))) back.schema_same
    ∙ (ap (λ (n : ℕ). field_read (set_of schema) (Left n) (struct_of (reader_of s)) (struct_field schema (index_of f))) back.levels
    ∙ (leaf_cut (set_of schema) (struct_of (reader_of s)) new back.cut (struct_field schema (index_of f)) (subst IsLeaf (sym set_got) (whole_is_leaf v whole))
    ∙ set_got)))
set_is_got f v schema old new s (Err e) law done back whole kind = tt
