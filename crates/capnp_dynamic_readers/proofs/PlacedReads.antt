-- The read at a field's place is the read of its part of the record.
use Rattle.std.proofs.Common.{ℕ, ◌<◌, ◌≡◌, refl, length, Some, arith, ap, sym, subst}
use Rattle.capnp_wire.specs.Tree.{StructTree}
use Rattle.capnp_base.specs.declared.introspect.TypeVariant.{TypeVariant}
use Rattle.capnp_base.specs.declared.introspect.TypeVariant.TheVariants as variant
use Rattle.capnp_schema.specs.Accepted.{IsAccepted, IsGroupOf, GroupFits, NamesEntries}
use Rattle.capnp_schema.specs.Plan.{IsSlotPlace, plan_place}
use Rattle.capnp_schema.specs.Schema.{FieldKind, Group, Schemas, Slot, default_of, field_at, fields_of, kind_default, Value as SchemaValue}
use Rattle.capnp_schema.specs.Types.{SchemaType, StructType, struct_brand, struct_number, seen_variant}
use Rattle.capnp_records.specs.Facts.Groups.{part_of_group}
use Rattle.capnp_records.specs.Facts.Pointers.{values_of_nth}
use Rattle.capnp_records.specs.Default.{read_of}
use Rattle.capnp_records.specs.Reading.{Reading, kind_value, record_of, record_within, slot_value, values_of}
use Rattle.capnp_records.specs.Record.{Levels}
use Rattle.capnp_records.specs.Record as value
use Rattle.capnp_dynamic_readers.specs.Reads.{field_read, handed_out}
use Rattle.capnp_dynamic_readers.specs.Steps.Planned.{IsSound, placed_read}

-- a group's type is that of a struct
group_brand : (set : Schemas) (v : TypeVariant) (n : ℕ) → GroupFits set (Group n) (seen_variant v) → struct_brand (seen_variant v) ≡ Some (struct_number (seen_variant v))
group_brand set (variant.Struct x) n fits = refl
group_brand set v n fits = absurd fits

module _ (set : Schemas) (l : Levels) (s : StructTree) where
  slot_placed : (v : TypeVariant) (o : ℕ) (d : SchemaValue) →
      placed_read set l s d (seen_variant v) (plan_place (Slot o d) (seen_variant v)) ≡ read_of set d (seen_variant v) (slot_value l s.bytes (values_of set s.pointers) o d (seen_variant v))
  slot_placed variant.Void o d = refl
  slot_placed variant.Bool o d = refl
  slot_placed variant.Int8 o d = refl
  slot_placed variant.Int16 o d = refl
  slot_placed variant.Int32 o d = refl
  slot_placed variant.Int64 o d = refl
  slot_placed variant.UInt8 o d = refl
  slot_placed variant.UInt16 o d = refl
  slot_placed variant.UInt32 o d = refl
  slot_placed variant.UInt64 o d = refl
  slot_placed (variant.Enum e) o d = refl
  slot_placed variant.Text o d = ap (λ (r : Reading). read_of set d (seen_variant variant.Text) (r l (seen_variant variant.Text))) (sym (values_of_nth set s.pointers o))
  slot_placed variant.«Data» o d = ap (λ (r : Reading). read_of set d (seen_variant variant.«Data») (r l (seen_variant variant.«Data»))) (sym (values_of_nth set s.pointers o))
  slot_placed (variant.Struct x) o d = ap (λ (r : Reading). read_of set d (seen_variant (variant.Struct x)) (r l (seen_variant (variant.Struct x)))) (sym (values_of_nth set s.pointers o))
  slot_placed (variant.List x) o d = ap (λ (r : Reading). read_of set d (seen_variant (variant.List x)) (r l (seen_variant (variant.List x)))) (sym (values_of_nth set s.pointers o))
  slot_placed variant.AnyPointer o d = ap (λ (r : Reading). read_of set d (seen_variant variant.AnyPointer) (r l (seen_variant variant.AnyPointer))) (sym (values_of_nth set s.pointers o))

  pub field_placed : IsAccepted set → (b i : ℕ) → b < length set.brands → i < length (fields_of set b) → (v : TypeVariant) → seen_variant v ≡ (field_at set b i).type →
      placed_read set l s (default_of (field_at set b i).field) (field_at set b i).type (plan_place (field_at set b i).field.kind (field_at set b i).type) ≡ field_read set l s (field_at set b i)
  field_placed accepted b i b_in i_in v e =
      go (field_at set b i).field.kind (field_at set b i).type e (accepted.rule7 b i b_in i_in) (λ h. part_of_group set accepted l s.bytes (values_of set s.pointers) b i (struct_number (field_at set b i).type) b_in i_in h)
    where
      go : (k : FieldKind) (t : SchemaType) → seen_variant v ≡ t → GroupFits set k t →
          (IsGroupOf k t (struct_number t) → kind_value (record_within (length set.brands) set l s.bytes (values_of set s.pointers)) l s.bytes (values_of set s.pointers) k t ≡ value.Group (record_of set l s.bytes (values_of set s.pointers) (struct_number t))) →
          placed_read set l s (kind_default k) t (plan_place k t) ≡ handed_out k (read_of set (kind_default k) t (kind_value (record_within (length set.brands) set l s.bytes (values_of set s.pointers)) l s.bytes (values_of set s.pointers) k t))
      go (Slot o d) t e fits group = subst (λ t. placed_read set l s d t (plan_place (Slot o d) t) ≡ read_of set d t (slot_value l s.bytes (values_of set s.pointers) o d t)) e (slot_placed v o d)
      go (Group n) t e fits group = ap (λ w. handed_out (Group n) (read_of set (kind_default (Group n)) t w)) (sym (group (subst (λ t. GroupFits set (Group n) t → struct_brand t ≡ Some (struct_number t)) e (group_brand set v n) fits)))

-- ---- the place is sound ----

slot_sound : (set : Schemas) (v : TypeVariant) (o : ℕ) (d : SchemaValue) → IsSlotPlace (plan_place (Slot o d) (seen_variant v)) → IsSound set (seen_variant v) (plan_place (Slot o d) (seen_variant v))
slot_sound set variant.Void o d h = refl
slot_sound set variant.Bool o d h = (omega arith, h.is_aligned, h.mask_fits)
slot_sound set variant.Int8 o d h = (omega arith, h.is_aligned, h.mask_fits)
slot_sound set variant.Int16 o d h = (omega arith, h.is_aligned, h.mask_fits)
slot_sound set variant.Int32 o d h = (omega arith, h.is_aligned, h.mask_fits)
slot_sound set variant.Int64 o d h = (omega arith, h.is_aligned, h.mask_fits)
slot_sound set variant.UInt8 o d h = (omega arith, h.is_aligned, h.mask_fits)
slot_sound set variant.UInt16 o d h = (omega arith, h.is_aligned, h.mask_fits)
slot_sound set variant.UInt32 o d h = (omega arith, h.is_aligned, h.mask_fits)
slot_sound set variant.UInt64 o d h = (omega arith, h.is_aligned, h.mask_fits)
slot_sound set (variant.Enum e) o d h = (omega arith, h.is_aligned, h.mask_fits)
slot_sound set variant.Text o d h = refl
slot_sound set variant.«Data» o d h = refl
slot_sound set (variant.Struct x) o d h = refl
slot_sound set (variant.List x) o d h = refl
slot_sound set variant.AnyPointer o d h = refl

group_sound : (set : Schemas) (v : TypeVariant) (n : ℕ) → GroupFits set (Group n) (seen_variant v) → NamesEntries set (seen_variant v) → IsSound set (seen_variant v) (plan_place (Group n) (seen_variant v))
group_sound set (variant.Struct x) n fits named = (named.0, ap (StructType x.number) named.1)
group_sound set v n fits named = absurd fits

pub place_sound : (set : Schemas) → IsAccepted set → (b i : ℕ) → b < length set.brands → i < length (fields_of set b) → (v : TypeVariant) → seen_variant v ≡ (field_at set b i).type →
    IsSlotPlace (plan_place (field_at set b i).field.kind (field_at set b i).type) → IsSound set (field_at set b i).type (plan_place (field_at set b i).field.kind (field_at set b i).type)
place_sound set accepted b i b_in i_in v e =
    go (field_at set b i).field.kind (field_at set b i).type e (accepted.rule7 b i b_in i_in) (accepted.rule1.fields b i b_in i_in)
  where
    go : (k : FieldKind) (t : SchemaType) → seen_variant v ≡ t → GroupFits set k t → NamesEntries set t → IsSlotPlace (plan_place k t) → IsSound set t (plan_place k t)
    go (Slot o d) t e fits named h = subst (λ t. IsSlotPlace (plan_place (Slot o d) t) → IsSound set t (plan_place (Slot o d) t)) e (slot_sound set v o d) h
    go (Group n) t e fits named h = subst (λ t. GroupFits set (Group n) t → NamesEntries set t → IsSound set t (plan_place (Group n) t)) e (group_sound set v n) fits named
