-- The set of a group: what its fields are copied from, and their copies one after another: steps of the code.
use Rattle.std.specs.Prelude.{ℕ, zero, suc, List, [], ◌∷◌, Bool, cond, Option, Some, None, length}
use Rattle.capnp_device.specs.declared.error.ErrorKind.{ErrorKind}
use Rattle.capnp_wire.specs.Standing.{struct_levels, struct_of}
use Rattle.capnp_wire.specs.Tree.{StructTree}
use Rattle.capnp_wire.specs.declared.struct_reader.StructReader.{StructReader}
use Rattle.capnp_schema.specs.FieldLists.{typed_of}
use Rattle.capnp_schema.specs.Query.{keep_index, non_union_fields, records_of}
use Rattle.capnp_schema.specs.Schema.{Schemas, TypedField, field_at}
use Rattle.capnp_schema.specs.StructHandles.{number_of, set_of}
use Rattle.capnp_schema.specs.declared.schema.fields.Field.{Field}
use Rattle.capnp_schema.specs.declared.schema.structs.StructSchema.{StructSchema}
use Rattle.capnp_records.specs.Part.{which_of}
use Rattle.capnp_records.specs.Reading.{part_of, struct_record, values_of}
use Rattle.capnp_records.specs.Record.{Left, Levels, is_there}
use Rattle.capnp_records.specs.Writes.TreeCopy.{TreeCopiesFields, TreeCopiesWithin}
use Rattle.capnp_slots.specs.Fields.{field_set, switched_to}
use Rattle.capnp_slots.specs.Steps.GroupClears.{field_cleared_at}

-- ---- what the source has ----

-- the active member of a struct under a brand, by its index
unfoldable pub active_in : Schemas → Levels → StructTree → ℕ → Option ℕ
active_in set l x b = which_of (struct_record set l x b)

-- whether a struct has a field: all but a null pointer
unfoldable pub is_part_there : Schemas → Levels → StructTree → TypedField → Bool
is_part_there set l x f = is_there (part_of set l x.bytes (values_of set x.pointers) f)

-- a member, where there is one
abbrev pub member_indices : Option ℕ → List ℕ
member_indices None = []
member_indices (Some i) = i ∷ []

-- those of several indices that pass
abbrev pub kept_indices : (ℕ → Bool) → List ℕ → List ℕ
kept_indices passes [] = []
kept_indices passes (i ∷ is) = keep_index (passes i) i (kept_indices passes is)

-- whether a struct has the field of an index, and those of its non-union fields that it has
abbrev pub is_index_there : Schemas → Levels → StructTree → ℕ → ℕ → Bool
is_index_there set l x b i = is_part_there set l x (field_at set b i)

abbrev pub non_union_in : Schemas → Levels → StructTree → ℕ → List ℕ
non_union_in set l x b = kept_indices (is_index_there set l x b) (non_union_fields (records_of set b))

-- what passes of a field, where there is one
abbrev pub if_passes : (ℕ → Bool) → Option ℕ → Option ℕ
if_passes passes None = None
if_passes passes (Some i) = cond (passes i) (Some i) None

-- the field that is copied at a place: at 0 the active member, and at i + 1 field i, where that is non-union and there
unfoldable pub copied_at : Schemas → Levels → StructTree → ℕ → (place : ℕ) → Option ℕ
copied_at set l x b zero = active_in set l x b
copied_at set l x b (suc i) = if_passes (is_index_there set l x b) (field_cleared_at set b (suc i))

-- ---- field by field ----

-- the fields of these indices were copied out of a struct, through at most so many groups
unfoldable pub CopiesIndices : ℕ → Schemas → Levels → StructTree → ℕ → List ℕ → StructTree → Option ErrorKind → StructTree → Type 0
CopiesIndices groups set l x b is s refused s' = TreeCopiesFields (TreeCopiesWithin groups set l x) set l x b is s refused s'

-- a brand's struct was cleared, and then copied
unfoldable pub CopiesThrough : ℕ → Schemas → Levels → StructTree → ℕ → StructTree → Option ErrorKind → StructTree → Type 0
CopiesThrough groups set l x b s refused s' = TreeCopiesWithin groups set l x b s refused s'

-- the same by handles
abbrev pub IsCopiedThrough : ℕ → StructSchema → StructReader → StructTree → Option ErrorKind → StructTree → Type 0
IsCopiedThrough groups schema source s refused s' = CopiesThrough groups (set_of schema) (Left (struct_levels source)) (struct_of source) (number_of schema) s refused s'

-- a struct's fields were copied into the group of a field, to which the union was switched
abbrev pub IsCopiedInto : Field → StructSchema → StructReader → StructTree → Option ErrorKind → StructTree → Type 0
IsCopiedInto f group source s refused s' =
    CopiesThrough (suc (length (field_set f).brands)) (field_set f) (Left (struct_levels source)) (struct_of source) (number_of group) (switched_to f s) refused s'

abbrev pub active_field : StructSchema → StructReader → Option ℕ
active_field schema source = active_in (set_of schema) (Left (struct_levels source)) (struct_of source) (number_of schema)

abbrev pub copied_field : StructSchema → StructReader → ℕ → Option ℕ
copied_field schema source place = copied_at (set_of schema) (Left (struct_levels source)) (struct_of source) (number_of schema) place

abbrev pub has_field : Field → StructReader → Bool
has_field f source = is_part_there (field_set f) (Left (struct_levels source)) (struct_of source) (typed_of f)
