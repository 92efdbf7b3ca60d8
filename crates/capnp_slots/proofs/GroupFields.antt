-- Whether a field is a slot, by the place of its plan, and its group.
use Rattle.std.specs.Prelude.{ℕ, zero, suc, ◌<◌, ◌≡◌, refl, Bool, true, false, not, unwrap_or, IfSome, MatchOption, None, Option, Some}
use Rattle.std.specs.Option.{option_map}
use Rattle.std.proofs.Common.{arith, ap, sym, subst, ◌∙◌}
use Rattle.capnp_schema.specs.Accepted.{IsGroupOf, GroupFits}
use Rattle.capnp_schema.specs.FieldLists.{index_of, field_schema, typed_of}
use Rattle.capnp_schema.specs.GroupFields.{group_field_of}
use Rattle.capnp_schema.specs.GroupsDown.{IsGroupSchemaIn, place_of_field}
use Rattle.capnp_schema.specs.Laws.{group_height}
use Rattle.capnp_schema.specs.Plan.{plan_place, plan_of, slot_place}
use Rattle.capnp_schema.specs.Schema.{FieldKind, Group, Schemas, Slot, Value, kind_target}
use Rattle.capnp_schema.specs.StructHandles.{IsStruct, number_of}
use Rattle.capnp_schema.specs.Types.{SchemaType, StructType, is_pointer, struct_number, width}
use Rattle.capnp_schema.specs.declared.plan.Place.TheVariants as place
use Rattle.capnp_schema.specs.declared.plan.SlotPlan.{SlotPlan}
use Rattle.capnp_schema.specs.declared.schema.fields.Field.{Field}
use Rattle.capnp_schema.specs.declared.schema.structs.StructSchema.{StructSchema}
use Rattle.capnp_records.specs.Step.{is_group_field}
use Rattle.capnp_records.specs.Writes.Slots.{Fits}
use Rattle.capnp_slots.specs.Fields.{IsSlot, field_brand, field_set}
use Rattle.capnp_slots.specs.Groups.{IsGroupAt}

-- the place of a slot is no group
no_group : (q : Bool) (bits offset : ℕ) (d : Value) (g : ℕ) → slot_place q bits offset d ≡ place.Group g → ⊥
no_group true bits offset d g e = cc
no_group false zero offset d g e = cc
no_group false (suc bits) offset d g e = cc

is_slot : (k : FieldKind) (t : SchemaType) → ((g : ℕ) → plan_place k t ≡ place.Group g → ⊥) → is_group_field k ≡ false
is_slot (Slot offset d) t none = refl
is_slot (Group n) t none = absurd (none (struct_number t) refl)

pub slot_is : (f : Field) (p : SlotPlan) → p ≡ plan_of (field_set f) (field_brand f) (typed_of f) → ((g : ℕ) → p.place ≡ place.Group g → ⊥) → IsSlot f
slot_is f p e none = is_slot (typed_of f).field.kind (typed_of f).type (λ g h. none g (ap (λ (q : SlotPlan). q.place) e ∙ h))

group_kind : (k : FieldKind) (t : SchemaType) (g : ℕ) → plan_place k t ≡ place.Group g → is_group_field k ≡ true
group_kind (Slot offset d) t g e = absurd (no_group (is_pointer t) (width t) offset d g e)
group_kind (Group n) t g e = refl

-- whether a field is a slot, by its place
pub group_placed : (f : Field) (p : SlotPlan) (g : ℕ) → p ≡ plan_of (field_set f) (field_brand f) (typed_of f) → p.place ≡ place.Group g → false ≡ not (is_group_field (typed_of f).field.kind)
group_placed f p g e h = sym (ap not (group_kind (typed_of f).field.kind (typed_of f).type g (sym (ap (λ (q : SlotPlan). q.place) e) ∙ h)))

pub slot_placed : (f : Field) (p : SlotPlan) → p ≡ plan_of (field_set f) (field_brand f) (typed_of f) → ((g : ℕ) → p.place ≡ place.Group g → ⊥) → true ≡ not (is_group_field (typed_of f).field.kind)
slot_placed f p e none = sym (ap not (slot_is f p e none))

-- ---- the group of a field, by the brand that its kind and type name ----

-- a brand is named by a group alone
target_is : (k : FieldKind) (t : SchemaType) (g : ℕ) → Some g ≡ kind_target k t → (is_group_field k ≡ true) × IsGroupOf k t g × (g ≡ struct_number t)
target_is (Slot offset d) t g e = cc
target_is (Group n) t g e = (refl, sym e, ap (λ (b : Option ℕ). unwrap_or b 0) e)

-- where rule 7 holds, by each of them
no_target : (set : Schemas) (k : FieldKind) (t : SchemaType) → GroupFits set k t → None ≡ kind_target k t → is_group_field k ≡ false
no_target set (Slot offset d) t fits e = refl
no_target set (Group n) (StructType b x) fits e = cc
no_target set (Group n) t fits e = absurd fits

pub group_or_slot : (f : Field) (group : Option StructSchema) → IsStruct (field_schema f) → option_map number_of group ≡ kind_target (typed_of f).field.kind (typed_of f).type → IfSome group (IsGroupSchemaIn (field_schema f)) →
    IfSome group (λ g. group_field_of (field_set f) (number_of g) ≡ Some (place_of_field f)) → MatchOption group (IsSlot f) (IsGroupAt f)
group_or_slot f None is number down back = no_target (field_set f) (typed_of f).field.kind (typed_of f).type (is.accepted.rule7 (field_brand f) (index_of f) is.number f.inside) number
group_or_slot f (Some g) is number down back =
    let named = target_is (typed_of f).field.kind (typed_of f).type (number_of g) number in
    let sizes = down.leads.sizes in
    record {
      is_group = named.0;
      stands = down.stands;
      set = down.set;
      number = named.2;
      names = named.1;
      room = λ s room. subst (λ (z : Schemas). Fits z (number_of g) s) (sym down.set) (omega (arith, sizes.0, room.0), omega (arith, sizes.1, room.1));
      lower = subst (λ (z : Schemas). group_height z (number_of g) < group_height (field_set f) (field_brand f)) (sym down.set) down.leads.down.lower;
      back = back;
    }
