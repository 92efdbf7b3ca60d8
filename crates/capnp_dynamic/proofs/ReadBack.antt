-- What a get, a has and a which answer after a write of a field of a struct's schema.
use Rattle.std.proofs.Common.{ℕ, ◌<◌, ◌≡◌, refl, Bool, true, false, ◌==◌, cond, None, Some, length, ap, sym, subst, ◌∙◌}
use Rattle.std.proofs.lemmas.Bool.{eqb-true, true≢false}
use Rattle.capnp_device.specs.declared.error.ErrorKind.TheVariants.{TypeMismatch}
use Rattle.capnp_wire.specs.Tree.{StructTree}
use Rattle.capnp_schema.specs.FieldLists.{index_of, typed_of}
use Rattle.capnp_schema.specs.Schema.{FieldKind, Group, Schemas, Slot, field_at, fields_of, is_member}
use Rattle.capnp_schema.specs.StructHandles.{number_of, set_of}
use Rattle.capnp_schema.specs.Types.{struct_number}
use Rattle.capnp_schema.specs.declared.schema.fields.Field.{Field}
use Rattle.capnp_schema.specs.declared.schema.structs.StructSchema.{StructSchema}
use Rattle.capnp_records.specs.Call.{Source, StructSource}
use Rattle.capnp_records.specs.Given.{CopiesGroup, Fails}
use Rattle.capnp_records.specs.Part.{has_of, which_of}
use Rattle.capnp_records.specs.ReadBack.{default_got}
use Rattle.capnp_records.specs.Reading.{struct_record}
use Rattle.capnp_records.specs.Record.{Left, Levels, Value}
use Rattle.capnp_records.specs.Step.{is_group_field}
use Rattle.capnp_slots.specs.Fields.{IsRoomFor, IsSlot, field_brand, field_set}
use Rattle.capnp_slots.specs.FieldWrites.{IsFieldSet, KindIsSet, cleared_field_kind, field_cleared}
use Rattle.capnp_slots.specs.Groups.{group_without}
use Rattle.capnp_slots.specs.GroupSets.{IsGroupSet, given_to_group}
use Rattle.capnp_slots.specs.ReadBack as slots
use Rattle.capnp_slots.specs.ReadBack.{IsWithoutParts, whole_value}
use Rattle.capnp_slots.specs.Sources.{IsSet}
use Rattle.capnp_dynamic.specs.Built.{built_schema}
use Rattle.capnp_dynamic.specs.Handed.{HandsGroup, start_handed}
use Rattle.capnp_dynamic.specs.ReadBack.{AreSchemaFieldsApart, BuilderClearIsActive, BuilderClearIsGot, BuilderGroupStarts, IsActiveUnder, BuilderOtherIsGot, BuilderOtherIsThere, BuilderSetIsActive, SetIsGot}
use Rattle.capnp_dynamic_readers.specs.Reads.{BelongsTo, field_read, handed_out}
use Rattle.capnp_dynamic_readers.specs.Seen.{value_seen}
use Rattle.capnp_slots.specs.SetValues.{source_of}
use Rattle.capnp_dynamic_readers.specs.declared.dynamic_value.Reader.{Reader as DynamicValue}
use Rattle.capnp_dynamic_readers.specs.declared.dynamic_value.Reader.TheVariants as dynamic
use Rattle.capnp_dynamic.specs.declared.dynamic_value.build.Builder.TheVariants as built
use Rattle.capnp_dynamic.proofs.Builders.{room_for}

-- what holds of a field's own set and brand holds of its schema's
under_schema : (P : Schemas → ℕ → Type 0) (f : Field) (schema : StructSchema) → BelongsTo f schema → P (field_set f) (field_brand f) → P (set_of schema) (number_of schema)
under_schema P f schema belongs p = subst (λ set. P set (number_of schema)) belongs.set (subst (P (field_set f)) belongs.number p)

-- a slot's value is handed out as it is
handed_slot : (k : FieldKind) (v : Value) → is_group_field k ≡ false → handed_out k v ≡ v
handed_slot (Slot offset d) v slot = refl
handed_slot (Group node) v slot = absurd (true≢false slot)

whole_seen : (v : DynamicValue) → IsWithoutParts (source_of v) → whole_value (source_of v) ≡ value_seen v
whole_seen (dynamic.Bool b) whole = refl
whole_seen (dynamic.Int8 x) whole = refl
whole_seen (dynamic.Int16 x) whole = refl
whole_seen (dynamic.Int32 x) whole = refl
whole_seen (dynamic.Int64 x) whole = refl
whole_seen (dynamic.UInt8 x) whole = refl
whole_seen (dynamic.UInt16 x) whole = refl
whole_seen (dynamic.UInt32 x) whole = refl
whole_seen (dynamic.UInt64 x) whole = refl
whole_seen (dynamic.Enum e) whole = refl
whole_seen (dynamic.Text t) whole = refl
whole_seen (dynamic.«Data» bytes) whole = refl
whole_seen v whole = absurd whole

-- ---- sets ----

slot_was_set : (f : Field) (s : Source) (old new : StructTree) → IsSlot f → IsFieldSet f s old None new → IsSet f s old new
slot_was_set f s old new slot set = subst (λ q. KindIsSet q f s old None new) slot set

pub set_got : (f : Field) (v : DynamicValue) → slots.WholeIsGot f (source_of v) → SetIsGot f v
set_got f v law schema belongs old new under slot set whole kind l =
    under_schema (λ set b. field_read set l new (field_at set b (index_of f)) ≡ value_seen v) f schema belongs
    (handed_slot (typed_of f).field.kind _ slot
    ∙ (law old new slot (room_for f schema old belongs under) (slot_was_set f (source_of v) old new slot set) whole kind l
    ∙ whole_seen v whole))

-- the copy that a set of a group was
record IsGroupCopied (f : Field) (old new : StructTree) : Type 0 where
  levels : Levels
  source : StructTree
  copied : IsGroupSet f (CopiesGroup levels source (struct_number (typed_of f).type)) old None new

none_some : {A : Type 0} {x : A} → None ≡ Some x → ⊥
none_some e = cc

group_was_set : (f : Field) (s : Source) (old new : StructTree) → IsGroupSet f (given_to_group f s) old None new → IsGroupCopied f old new
group_was_set f (StructSource l x from) old new h = go (from == struct_number (typed_of f).type) refl h
  where
    go : (q : Bool) → (from == struct_number (typed_of f).type) ≡ q → IsGroupSet f (cond q (CopiesGroup l x from) (Fails TypeMismatch)) old None new → IsGroupCopied f old new
    go true e h = record { levels = l; source = x; copied = subst (λ n. IsGroupSet f (CopiesGroup l x n) old None new) (eqb-true _ _ e) h }
    go false e h = absurd (none_some h.0)
group_was_set f s old new h = absurd (none_some h.0)

-- a field that is active in its own words is so under the schema
active_under : (f : Field) (schema : StructSchema) → BelongsTo f schema → (s : StructTree) → slots.IsActiveIn f s → IsActiveUnder schema f s
active_under f schema belongs s active member l =
    under_schema (λ set b. which_of (struct_record set l s b) ≡ Some (index_of f)) f schema belongs (active member l)

pub set_active : (f : Field) (v : DynamicValue) → slots.SetIsActive f (source_of v) → slots.CopyIsActive f → BuilderSetIsActive f v
set_active f v slot_law group_law schema belongs old new under set = active_under f schema belongs new (go (is_group_field (typed_of f).field.kind) refl set)
  where
    room : IsRoomFor f old
    room = room_for f schema old belongs under

    go : (q : Bool) → is_group_field (typed_of f).field.kind ≡ q → KindIsSet q f (source_of v) old None new → slots.IsActiveIn f new
    go false slot set = slot_law old new slot room set
    go true group set = let copy : IsGroupCopied f old new = group_was_set f (source_of v) old new set in group_law old new group room copy.levels copy.source None copy.copied

-- ---- clears ----

pub clear_got : (f : Field) → slots.ClearIsGot f → BuilderClearIsGot f
clear_got f law schema belongs s under slot l =
    under_schema (λ set b. field_read set l (field_cleared f s) (field_at set b (index_of f)) ≡ default_got set l (field_at set b (index_of f))) f schema belongs
    (ap (λ q. field_read (field_set f) l (cleared_field_kind q f s) (typed_of f)) slot
    ∙ (handed_slot (typed_of f).field.kind _ slot ∙ law s slot (room_for f schema s belongs under) l))

pub clear_active : (f : Field) → slots.ClearIsActive f → slots.GroupIsActive f → BuilderClearIsActive f
clear_active f slot_law group_law schema belongs s under = active_under f schema belongs (field_cleared f s) (go (is_group_field (typed_of f).field.kind) refl)
  where
    go : (q : Bool) → is_group_field (typed_of f).field.kind ≡ q → slots.IsActiveIn f (cleared_field_kind q f s)
    go false slot = slot_law s slot (room_for f schema s belongs under)
    go true group = group_law s group (room_for f schema s belongs under)

-- ---- groups ----

pub group_starts : (f : Field) → slots.GroupStarts f → BuilderGroupStarts f
group_starts f law schema belongs s under group g hands k k_in member zero =
    ap (λ x. which_of (struct_record (set_of (built_schema g)) (Left 64) x (number_of (built_schema g)))) is.2
    ∙ subst (λ set. Starts set (number_of (built_schema g))) (sym is.0) (subst (Starts (field_set f)) (sym is.1) own) k k_in member zero
  where
    Starts : Schemas → ℕ → Type 0
    Starts set n = (k : ℕ) → k < length (fields_of set n) → is_member (field_at set n k).field ≡ true → (field_at set n k).field.discriminant_value ≡ 0 →
        which_of (struct_record set (Left 64) (group_without f s) n) ≡ Some k

    own : Starts (field_set f) (struct_number (typed_of f).type)
    own k k_in member zero = law s group (room_for f schema s belongs under) (struct_number (typed_of f).type) refl k k_in member zero (Left 64)

    is : HandsGroup (field_set f) (typed_of f) (group_without f s) (built.Struct g)
    is = subst (λ q. start_handed q (field_set f) (field_brand f) (typed_of f) s (built.Struct g)) group hands

-- ---- other fields ----

apart_in : (schema : StructSchema) (f g : Field) → AreSchemaFieldsApart schema f g → slots.AreFieldsApart f g
apart_in schema f g apart = record {
  set = apart.other.set ∙ sym apart.belongs.set;
  brand = apart.other.number ∙ sym apart.belongs.number;
  differ = apart.differ;
  not_both = apart.not_both;
}

pub other_got : (f g : Field) → slots.OtherIsGot f g → BuilderOtherIsGot f g
other_got f g law schema apart s s' keeps l =
    under_schema (λ set b. field_read set l s' (field_at set b (index_of g)) ≡ field_read set l s (field_at set b (index_of g))) g schema apart.other
    (ap (handed_out (typed_of g).field.kind) (law (apart_in schema f g apart) s s' keeps l))

pub other_there : (f g : Field) → slots.OtherIsThere f g → BuilderOtherIsThere f g
other_there f g law schema apart s s' keeps l =
    under_schema (λ set b. has_of (struct_record set l s' b) (field_at set b (index_of g)).field (index_of g) ≡ has_of (struct_record set l s b) (field_at set b (index_of g)).field (index_of g)) g schema apart.other
    (law (apart_in schema f g apart) s s' keeps l)
