-- A group is the same struct under its own brand.
use Rattle.std.proofs.Common.{ℕ, ◌<◌, ◌≡◌, ◌∙◌, ap, refl, sym, true, length}
use Rattle.capnp_wire.specs.Standing.{struct_levels, struct_of}
use Rattle.capnp_wire.specs.declared.struct_reader.StructReader.{StructReader}
use Rattle.capnp_schema.specs.Accepted.{IsAccepted, IsGroupOf}
use Rattle.capnp_schema.specs.Schema.{FieldKind, Group, Schemas, Slot, TypedField, Value as SchemaValue, field_at, kind_default}
use Rattle.capnp_schema.specs.Types.{SchemaType, struct_brand}
use Rattle.capnp_records.specs.Default.{read_field, read_of}
use Rattle.capnp_records.specs.Facts.Groups.{part_of_group}
use Rattle.capnp_records.specs.Reading.{part_of, record_of, values_of}
use Rattle.capnp_records.specs.Record as value
use Rattle.capnp_records.specs.Record.{Left, Record}
use Rattle.capnp_dynamic_readers.specs.Reads.{handed_out}
use Rattle.capnp_known.specs.Known.{IsActive, IsField, read_at, record_in, struct_type}
use Rattle.capnp_known.specs.Facts.PartsSeen.{part_seen}
use Rattle.capnp_request.specs.Parts.{request_read_at, request_struct}
use Rattle.capnp_request.specs.RequestSet.{request_set}
use Rattle.capnp_request.specs.Steps.Handles.{IsGroupField, IsRequestField, IsRequestFieldActive, is_group_kind}
use Rattle.capnp_request.specs.Steps.Seen.{IsRequestRecord, record_seen}
use Rattle.capnp_request.specs.declared.handles.RequestRecord.{RequestRecord}
use Rattle.capnp_request.proofs.PartsRead.{active_in, same_record, there}
use Rattle.capnp_request.proofs.RequestAccepted.{request_accepted}

module _ (set : Schemas) where
  handed_group : (k : FieldKind) (d : SchemaValue) (t : SchemaType) (r : Record) → is_group_kind k ≡ true → handed_out k (read_of set d t (value.Group r)) ≡ value.Struct r
  handed_group (Slot offset default) d t r h = cc
  handed_group (Group node) d t r h = refl

  named_group : (k : FieldKind) (t : SchemaType) (g : ℕ) → is_group_kind k ≡ true → t ≡ struct_type g → IsGroupOf k t g
  named_group (Slot offset default) t g h e = cc
  named_group (Group node) t g h e = ap struct_brand e

  module _ (accepted : IsAccepted set) (x : StructReader) (b i g : ℕ) where
    group_read : IsActive set b i x → b < length set.brands → IsField set b i (struct_type g) → is_group_kind (field_at set b i).field.kind ≡ true → value.Struct (record_in set g x) ≡ read_at set b i (record_in set b x)
    group_read active inside field group =
        let f : TypedField = field_at set b i in
        let part : part_of set (Left (struct_levels x)) (struct_of x).bytes (values_of set (struct_of x).pointers) f
        ≡ value.Group (record_of set (Left (struct_levels x)) (struct_of x).bytes (values_of set (struct_of x).pointers) g) =
        part_of_group set accepted (Left (struct_levels x)) (struct_of x).bytes (values_of set (struct_of x).pointers) b i g inside field.0 (named_group f.field.kind f.type g group field.1) in
        sym (part_seen set x b i active field.0 ∙ (ap (λ v. handed_out f.field.kind (read_field set f v)) part ∙ handed_group f.field.kind (kind_default f.field.kind) f.type (record_of set (Left (struct_levels x)) (struct_of x).bytes (values_of set (struct_of x).pointers) g) group))

pub group_seen : (s : RequestRecord) (b i g : ℕ) → IsRequestRecord b s → IsRequestFieldActive b i s → b < length request_set.brands → IsRequestField b i (request_struct g) → IsGroupField b i →
    value.Struct (record_in request_set g s.sections) ≡ request_read_at b i (record_seen s)
group_seen s b i g is active inside field group = there b i (same_record s b is) (group_read request_set request_accepted s.sections b i g (active_in s b i is active) inside field group)
