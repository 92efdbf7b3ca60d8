-- What is read of a part of a struct's record, by the sections of the struct.
use Rattle.std.proofs.Common.{ℕ, ◌<◌, ◌≡◌, ◌∙◌, ap, ap₂, length}
use Rattle.capnp_wire.specs.Standing.{struct_levels, struct_of}
use Rattle.capnp_wire.specs.Tree.{StructTree}
use Rattle.capnp_wire.specs.declared.struct_reader.StructReader.{StructReader}
use Rattle.capnp_schema.specs.Schema.{FieldKind, Schemas, field_at, fields_of, kind_default}
use Rattle.capnp_schema.specs.Types.{SchemaType}
use Rattle.capnp_records.specs.Default.{read_of}
use Rattle.capnp_records.specs.Facts.PartHere.{part_here}
use Rattle.capnp_records.specs.Reading.{kind_value, record_within, values_of}
use Rattle.capnp_records.specs.Record.{Left, Levels, Value}
use Rattle.capnp_dynamic_readers.specs.Reads.{handed_out}
use Rattle.capnp_known.specs.Known.{IsActive, IsField, field_in, read_at, read_under, record_in}

-- what is read of a struct, by the kind and type of a field
abbrev pub read_by : Schemas → Levels → StructTree → FieldKind → SchemaType → Value
read_by set l s k t =
    handed_out k (read_of set (kind_default k) t (kind_value (record_within (length set.brands) set l s.bytes (values_of set s.pointers)) l s.bytes (values_of set s.pointers) k t))

module _ (set : Schemas) (s : StructReader) (b i : ℕ) (active : IsActive set b i s) where
  pub part_seen : i < length (fields_of set b) → read_at set b i (record_in set b s) ≡ field_in set b i s
  unfolding read_at
  part_seen inside = ap (read_under set (field_at set b i)) (part_here set (Left (struct_levels s)) (struct_of s) b i inside active)

  -- where its kind and type are known
  pub seen_by : (k : FieldKind) (t : SchemaType) → IsField set b i t → (field_at set b i).field.kind ≡ k → read_at set b i (record_in set b s) ≡ read_by set (Left (struct_levels s)) (struct_of s) k t
  seen_by k t field kind = part_seen field.0 ∙ ap₂ (read_by set (Left (struct_levels s)) (struct_of s)) kind field.1
