-- Targets of fields and elements, and which of them are floats.
use Rattle.std.proofs.Common.{ℕ, ◌≡◌, Bool, true, false, ◌&&◌, Some, None, refl, ap, sym, ◌∙◌}
use Rattle.std.proofs.lemmas.Bool.{true≢false}
use Rattle.capnp_base.specs.declared.introspect.TypeVariant.{TypeVariant}
use Rattle.capnp_base.specs.declared.introspect.TypeVariant.TheVariants as variant
use Rattle.capnp_schema.specs.Accepted.{IsGroupOf}
use Rattle.capnp_schema.specs.Schema.{FieldKind, Group, Slot, TypedField}
use Rattle.capnp_schema.specs.Types.{SchemaType, StructType, seen_variant}
use Rattle.capnp_records.specs.Step.{is_group_field}
use Rattle.capnp_json_fields.specs.Marks.{data_form, has_float_base, is_float}
use Rattle.capnp_from_json.specs.Leaves.{OfGroup, OfSlot, Part}
use Rattle.capnp_from_json.specs.LeafReads.{is_leaf, may_be_float, under}
use Rattle.capnp_from_json.specs.Records.{field_target, part_of_kind}

-- ---- parts ----

pub part_slot : (k : FieldKind) → is_group_field k ≡ false → OfSlot ≡ part_of_kind k
part_slot (Slot offset d) h = refl
part_slot (Group n) h = absurd (true≢false h)

pub part_group : (k : FieldKind) → is_group_field k ≡ true → OfGroup ≡ part_of_kind k
part_group (Slot offset d) h = absurd (true≢false (sym h))
part_group (Group n) h = refl

pub target_is : (f : TypedField) (t : SchemaType) (p : Part) → t ≡ f.type → p ≡ part_of_kind f.field.kind → under t p (is_float f) (data_form f) ≡ field_target f
target_is f t p same part = ap (λ (x : SchemaType). under x p (is_float f) (data_form f)) same ∙ ap (λ (q : Part). under f.type q (is_float f) (data_form f)) part

-- the type of a group's field
none_some : {n : ℕ} → None ≡ Some n → ⊥
none_some e = cc

some_same : {m n : ℕ} → Some m ≡ Some n → m ≡ n
some_same e = cc

pub group_type : (k : FieldKind) (t : SchemaType) (g : ℕ) → IsGroupOf k t g → (x : ℕ) × (StructType g x ≡ t)
group_type (Slot offset d) t g h = absurd h
group_type (Group n) (StructType m x) g h = (x, ap (λ (y : ℕ). StructType y x) (sym (some_same h)))
group_type (Group n) t g h = absurd (none_some h)

-- ---- floats ----

both : (a b : Bool) → (a && b) ≡ true → b ≡ true
both true b h = h
both false b h = absurd (true≢false (sym h))

pub float_base : (f : TypedField) → is_float f ≡ true → has_float_base f.type ≡ true
float_base f h = both _ (has_float_base f.type) h

pub float_leaf : (v : TypeVariant) → is_leaf v ≡ true → has_float_base (seen_variant v) ≡ true → may_be_float v ≡ true
float_leaf variant.UInt32 leaf h = refl
float_leaf variant.UInt64 leaf h = refl
float_leaf (variant.List t) leaf h = absurd (true≢false (sym leaf))
float_leaf v leaf h = absurd (true≢false (sym h))
