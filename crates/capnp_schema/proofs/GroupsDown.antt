-- Group fields lead to groups of lesser height, in the sections of the struct that they are in.
use Rattle.std.proofs.Common.{ℕ, zero, suc, ◌≡◌, ◌<◌, Bool, true, false, length, Some, refl, sym, ap, ◌∙◌, subst}
use Rattle.capnp_schema.specs.Types.{SchemaType, StructType, is_pointer, width}
use Rattle.capnp_schema.specs.Schema.{Schemas, FieldKind, Slot, Group, Value, fields_of, field_at, kind_target}
use Rattle.capnp_schema.specs.Accepted.{GroupFits, HasOneParent, HaveSameSizes, IsAccepted, IsGroupOf, IsParent}
use Rattle.capnp_schema.specs.Laws.{LeadsDown}
use Rattle.capnp_schema.specs.Plan.{plan_place, plan_of, slot_place}
use Rattle.capnp_schema.specs.FieldLists.{index_of, field_schema, typed_of}
use Rattle.capnp_schema.specs.GroupsDown.{LeadsToGroup, IfGroup, IsGroupSchemaIn}
use Rattle.capnp_schema.specs.StructHandles.{IsStruct, number_of, set_of}
use Rattle.capnp_schema.specs.declared.schema.fields.Field.{Field as FieldHandle}
use Rattle.capnp_schema.specs.declared.schema.structs.StructSchema.{StructSchema}
use Rattle.capnp_schema.specs.declared.plan.Place.{Place}
use Rattle.capnp_schema.specs.declared.plan.Place.TheVariants as place
use Rattle.capnp_schema.specs.declared.plan.SlotPlan.{SlotPlan}
use Rattle.capnp_schema.specs.Facts.Groups.{heights_fall}
use Rattle.capnp_schema.proofs.NamedTypes.{brand_of_field}

pub leads_to_group : (set : Schemas) → IsAccepted set → (b i g : ℕ) → b < length set.brands → i < length (fields_of set b) →
    IsGroupOf (field_at set b i).field.kind (field_at set b i).type g → LeadsToGroup set b g
leads_to_group set accepted b i g b_in i_in names = record {
  down = down;
  sizes = subst (HaveSameSizes set g) same one.sizes;
}
  where
    down : LeadsDown set b g
    down = (heights_fall set accepted b b_in).1 i g i_in names

    one : HasOneParent set g
    one = (accepted.rule8 g down.brand down.group).0

    is_parent : IsParent set g b i
    is_parent = record { brand = b_in; field = i_in; names = names }

    same : one.parent ≡ b
    same = sym (one.only b i is_parent).0

-- a slot's place is no group's
no_group : (pointer : Bool) (bits offset : ℕ) (default : Value) (P : ℕ → Type 0) → IfGroup (slot_place pointer bits offset default) P
no_group true bits offset default P = tt
no_group false zero offset default P = tt
no_group false (suc bits) offset default P = tt

group_place : (set : Schemas) (k : FieldKind) (t : SchemaType) → GroupFits set k t → (P : ℕ → Type 0) → ((g : ℕ) → IsGroupOf k t g → P g) → IfGroup (plan_place k t) P
group_place set (Slot offset default) t fits P h = no_group (is_pointer t) (width t) offset default P
group_place set (Group node) (StructType number generic) fits P h = h number refl
group_place set (Group node) t fits P h = absurd fits

-- the brand of a group's place is that of such a group
pub place_leads : (set : Schemas) → IsAccepted set → (b i : ℕ) → i < length (fields_of set b) → IfGroup (plan_of set b (field_at set b i)).place (LeadsToGroup set b)
place_leads set accepted b i i_in =
    let b_in = brand_of_field set b i i_in in
    group_place set (field_at set b i).field.kind (field_at set b i).type (accepted.rule7 b i b_in i_in) (LeadsToGroup set b) (λ g names. leads_to_group set accepted b i g b_in i_in names)

-- and so of a plan that is looked up
pub plan_leads : (set : Schemas) → IsAccepted set → (b i : ℕ) (plan : SlotPlan) → plan ≡ plan_of set b (field_at set b i) → i < length (fields_of set b) → IfGroup plan.place (LeadsToGroup set b)
plan_leads set accepted b i plan is i_in = subst (λ (p : SlotPlan). IfGroup p.place (LeadsToGroup set b)) (sym is) (place_leads set accepted b i i_in)

-- ---- the group of a field, by the place of its plan ----

no_group_place : (pointer : Bool) (bits offset : ℕ) (default : Value) (g : ℕ) → slot_place pointer bits offset default ≡ place.Group g → ⊥
no_group_place true bits offset default g e = cc
no_group_place false zero offset default g e = cc
no_group_place false (suc bits) offset default g e = cc

group_target : (set : Schemas) (k : FieldKind) (t : SchemaType) (g : ℕ) → GroupFits set k t → plan_place k t ≡ place.Group g → Some g ≡ kind_target k t
group_target set (Slot offset default) t g fits e = absurd (no_group_place (is_pointer t) (width t) offset default g e)
group_target set (Group node) (StructType number generic) g fits e = cc
group_target set (Group node) t g fits e = absurd fits

-- ---- the same of a field's handle ----

module _ (f : FieldHandle) (p : SlotPlan) (is : p ≡ plan_of (set_of (field_schema f)) (number_of (field_schema f)) (typed_of f)) where
  placed : (q : Place) → p.place ≡ q → plan_place (typed_of f).field.kind (typed_of f).type ≡ q
  placed q h = sym (ap (λ (x : SlotPlan). x.place) is) ∙ h

  module _ (accepted : IsAccepted (set_of (field_schema f))) (n : ℕ) (at : p.place ≡ place.Group n) where
    pub handle_target : Some n ≡ kind_target (typed_of f).field.kind (typed_of f).type
    handle_target =
        let b_in = brand_of_field (set_of (field_schema f)) (number_of (field_schema f)) (index_of f) f.inside in
        group_target (set_of (field_schema f)) (typed_of f).field.kind (typed_of f).type n (accepted.rule7 (number_of (field_schema f)) (index_of f) b_in f.inside) (placed (place.Group n) at)

    pub group_in : IfGroup p.place (LeadsToGroup (set_of (field_schema f)) (number_of (field_schema f))) → (g : StructSchema) → set_of g ≡ set_of (field_schema f) → number_of g ≡ n → (n < length (set_of (field_schema f)).brands → IsStruct g) → IsGroupSchemaIn (field_schema f) g
    group_in leads g set number stands =
        let down : LeadsToGroup (set_of (field_schema f)) (number_of (field_schema f)) n = subst (λ (q : Place). IfGroup q (LeadsToGroup (set_of (field_schema f)) (number_of (field_schema f)))) at leads in
        record {
          stands = stands down.down.brand;
          set = set;
          leads = subst (LeadsToGroup (set_of (field_schema f)) (number_of (field_schema f))) (sym number) down;
        }
