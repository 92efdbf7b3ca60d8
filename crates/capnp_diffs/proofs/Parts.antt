-- A field that stands on both sides, and a member that becomes active: behind a pointer, a group, or a number.
use Rattle.std.proofs.Common.{ℕ, zero, suc, ◌<◌, ◌≤◌, ◌+◌, ◌≡◌, ◌∙◌, refl, [], ◌∷◌, ◌++◌, List, length, Bool, true, false, Some, None, arith, ap, sym, subst}
use Rattle.capnp_wire.specs.Standing.{struct_of}
use Rattle.capnp_wire.specs.Tree.{Tree, empty_struct, nth_tree}
use Rattle.capnp_wire.specs.declared.struct_reader.StructReader.{StructReader}
use Rattle.capnp_schema.specs.Accepted.{IsAccepted, IsGroupOf}
use Rattle.capnp_schema.specs.Facts.Groups.{group_fields_name_brands}
use Rattle.capnp_schema.specs.FieldLists.{IsFieldOf, field_schema, index_of, typed_of}
use Rattle.capnp_schema.specs.GroupsDown.{IfGroup, LeadsToGroup}
use Rattle.capnp_schema.specs.Laws.{group_height}
use Rattle.capnp_schema.specs.Plan.{data_place, plan_of, plan_place, slot_place}
use Rattle.capnp_schema.specs.Schema.{FieldKind, Group, Schemas, Slot, TypedField, field_at, fields_of, Value as SchemaValue}
use Rattle.capnp_schema.specs.StructHandles.{IsStruct, number_of, set_of}
use Rattle.capnp_schema.specs.Types.{SchemaType, StructType, AnyPointerType, BoolType, DataType, EnumType, IntType, ListType, TextType, UIntType, VoidType, is_pointer, struct_brand, struct_number, width}
use Rattle.capnp_schema.specs.declared.plan.Place.{Place}
use Rattle.capnp_schema.specs.declared.plan.Place.TheVariants as place
use Rattle.capnp_schema.specs.declared.plan.SlotPlan.{SlotPlan}
use Rattle.capnp_schema.specs.declared.schema.fields.Field.{Field}
use Rattle.capnp_schema.specs.declared.schema.structs.StructSchema.{StructSchema}
use Rattle.capnp_records.specs.Call.{FieldNumber}
use Rattle.capnp_records.specs.Default.{default_record}
use Rattle.capnp_records.specs.Facts.Frame.{chosen_first}
use Rattle.capnp_records.specs.Facts.Groups.{part_of_group}
use Rattle.capnp_records.specs.Facts.PartRead.{slot_part}
use Rattle.capnp_records.specs.Facts.Pointers.{values_of_nth}
use Rattle.capnp_records.specs.Reading.{Reading, nth_reading, number_value, reads, value_of, values_of}
use Rattle.capnp_records.specs.Record as value
use Rattle.capnp_records.specs.Record.{Endless, Record, Value}
use Rattle.capnp_schema.specs.SlotValue.{slot_number}
use Rattle.capnp_dynamic_readers.specs.Seen.{value_seen}
use Rattle.capnp_dynamic_readers.specs.Typed.{IsOf}
use Rattle.capnp_dynamic_readers.specs.declared.dynamic_value.Reader.{Reader as DynamicValue}
use Rattle.capnp_call.specs.Seen.{step_seen}
use Rattle.capnp_call.specs.declared.calls.Op.TheVariants as op
use Rattle.capnp_call.specs.declared.calls.Step.{Step}
use Rattle.capnp_call.specs.declared.calls.Step.TheVariants as step
use Rattle.capnp_diffs.specs.Changes.{ByKind, CanStand, Change, Inits, IsGroupTold, IsSwitchTold, IsTold, all_behind, record_changes, switch_changes, value_changes, whole_change}
use Rattle.capnp_diffs.specs.Found.{IsReady, goal_seen}
use Rattle.capnp_diffs.specs.Steps.Adding.{Adds, IsFoundAt, IsPartFound, IsRecordFound, IsSwitchFound, one_change, whole_part, whole_record}
use Rattle.capnp_diffs.specs.declared.change.Change.{Change as FoundChange}
use Rattle.capnp_diffs.proofs.Added.{adds_behind, adds_both}
use Rattle.capnp_diffs.proofs.Falls.{base_least, group_falls, walk_base}
use Rattle.capnp_diffs.proofs.Slots.{IsNoGroup, by_slot, field_no_group, field_put, field_stands}
use Rattle.capnp_diffs.proofs.Steps.{switch_whole}

-- ---- by the place of a field ----

-- what stands at a pointer's place
pub record AtPointer (k : FieldKind) (t : SchemaType) (index : ℕ) : Type 0 where
  pub default : SchemaValue
  pub kind : k ≡ Slot index default
  pub pointer : is_pointer t ≡ true

nothing_pointer : {i : ℕ} → place.Nothing ≡ place.Pointer i → ⊥
nothing_pointer e = cc

bits_pointer : {start bits mask i : ℕ} → place.Bits start bits mask ≡ place.Pointer i → ⊥
bits_pointer e = cc

group_pointer : {g i : ℕ} → place.Group g ≡ place.Pointer i → ⊥
group_pointer e = cc

nothing_group : {g : ℕ} → place.Nothing ≡ place.Group g → ⊥
nothing_group e = cc

bits_group : {start bits mask g : ℕ} → place.Bits start bits mask ≡ place.Group g → ⊥
bits_group e = cc

pointer_group : {i g : ℕ} → place.Pointer i ≡ place.Group g → ⊥
pointer_group e = cc

same_pointer : {i j : ℕ} → place.Pointer i ≡ place.Pointer j → i ≡ j
same_pointer e = cc

same_group : {g h : ℕ} → place.Group g ≡ place.Group h → g ≡ h
same_group e = cc

no_data_pointer : (bits offset i : ℕ) (d : SchemaValue) → data_place bits offset d ≡ place.Pointer i → ⊥
no_data_pointer zero offset i d e = nothing_pointer e
no_data_pointer (suc bits) offset i d e = bits_pointer e

no_data_group : (bits offset g : ℕ) (d : SchemaValue) → data_place bits offset d ≡ place.Group g → ⊥
no_data_group zero offset g d e = nothing_group e
no_data_group (suc bits) offset g d e = bits_group e

pub at_pointer : (k : FieldKind) (t : SchemaType) (index : ℕ) → plan_place k t ≡ place.Pointer index → AtPointer k t index
at_pointer (Group node) t index e = absurd (group_pointer e)
at_pointer (Slot offset d) t index e = go (is_pointer t) refl e
  where
    go : (q : Bool) → is_pointer t ≡ q → slot_place q (width t) offset d ≡ place.Pointer index → AtPointer (Slot offset d) t index
    go true p e = record { default = d; kind = ap (λ n. Slot n d) (same_pointer e); pointer = p }
    go false p e = absurd (no_data_pointer (width t) offset index d e)

pub pointer_slot : (k : FieldKind) (t : SchemaType) (index : ℕ) → AtPointer k t index → IsNoGroup k
pointer_slot k t index at node e = slot_group (sym at.kind ∙ e)
  where
    slot_group : {o n : ℕ} {d : SchemaValue} → Slot o d ≡ Group n → ⊥
    slot_group e = cc

-- what stands at a group's place
pub record AtGroup (k : FieldKind) (t : SchemaType) (g : ℕ) : Type 0 where
  pub node : ℕ
  pub kind : k ≡ Group node
  pub brand : struct_number t ≡ g

pub at_group : (k : FieldKind) (t : SchemaType) (g : ℕ) → plan_place k t ≡ place.Group g → AtGroup k t g
at_group (Group node) t g e = record { node = node; kind = refl; brand = same_group e }
at_group (Slot offset d) t g e = go (is_pointer t) e
  where
    go : (q : Bool) → slot_place q (width t) offset d ≡ place.Group g → AtGroup (Slot offset d) t g
    go true e = absurd (pointer_group e)
    go false e = absurd (no_data_group (width t) offset g d e)

-- what stands at neither's place is a number
pub at_number : (k : FieldKind) (t : SchemaType) → ((i : ℕ) → plan_place k t ≡ place.Pointer i → ⊥) → ((g : ℕ) → plan_place k t ≡ place.Group g → ⊥) → is_pointer t ≡ false
at_number (Group node) t no_pointer no_group = absurd (no_group (struct_number t) refl)
at_number (Slot offset d) t no_pointer no_group = go (is_pointer t) refl no_pointer
  where
    go : (q : Bool) → is_pointer t ≡ q → ((i : ℕ) → slot_place q (width t) offset d ≡ place.Pointer i → ⊥) → is_pointer t ≡ false
    go true p no_pointer = absurd (no_pointer offset refl)
    go false p no_pointer = p

-- ---- what is put whole ----

pub whole_switched : (set : Schemas) (f : TypedField) (i : ℕ) (w : Value) (path : List Step) (old new : List FoundChange) → IsNoGroup f.field.kind →
    Adds set path old new (whole_change (FieldNumber i) f.type w ∷ []) → CanStand f.type w → IsSwitchFound set f i w path old new
whole_switched set f i w path old new none adds stands = record {
  adds = subst (Adds set path old new) (sym (switch_whole set i f.type w stands)) adds;
  told = by_slot f.field.kind (CanStand f.type w) (IsSwitchTold set f.type w) none stands;
}

-- ---- behind a pointer ----

module _ (set : Schemas) (f : TypedField) (index : ℕ) (at : AtPointer f.field.kind f.type index) where
  pointer_part : (r : StructReader) (x : Tree) → x ≡ nth_tree (struct_of r).pointers index → whole_part set r f ≡ value_of set x Endless f.type
  unfolding whole_part
  pointer_part r x is =
      slot_part set Endless (struct_of r) f index at.default at.kind
      ∙ (chosen_first (is_pointer f.type) (nth_reading (values_of set (struct_of r).pointers) index Endless f.type) (number_value f.type (slot_number (struct_of r).bytes index at.default f.type)) at.pointer
      ∙ (ap (λ (reading : Reading). reading Endless f.type) (values_of_nth set (struct_of r).pointers index)
      ∙ ap (λ y. value_of set y Endless f.type) (sym is)))

  module _ (i : ℕ) (path : List Step) (out found : List FoundChange) where
    part_of_found : (v w : Value) (k : ℕ) → k ≡ i → IsFoundAt set (step.Field k) f.type v w path out found → IsPartFound set f i v w path out found
    part_of_found v w k is at_field = record {
      adds = subst (λ n. Adds set path out found (value_changes set (FieldNumber n) f.type v w)) is at_field.adds;
      told = by_slot f.field.kind (IsTold set f.type v w) (IsGroupTold set f.type v w) (pointer_slot f.field.kind f.type index at) at_field.told;
    }

    pub pointer_found : (old new : StructReader) (x y : Tree) (t : SchemaType) (k : ℕ) → k ≡ i → t ≡ f.type → x ≡ nth_tree (struct_of old).pointers index → y ≡ nth_tree (struct_of new).pointers index →
        IsFoundAt set (step.Field k) t (value_of set x Endless t) (value_of set y Endless t) path out found →
        IsPartFound set f i (whole_part set old f) (whole_part set new f) path out found
    pointer_found old new x y t k is_index is_type is_x is_y found_at =
        subst (λ v. IsPartFound set f i v (whole_part set new f) path out found) (sym (pointer_part old x is_x))
        (subst (λ w. IsPartFound set f i (value_of set x Endless f.type) w path out found) (sym (pointer_part new y is_y))
        (part_of_found (value_of set x Endless f.type) (value_of set y Endless f.type) k is_index
        (subst (λ u. IsFoundAt set (step.Field k) u (value_of set x Endless u) (value_of set y Endless u) path out found) is_type found_at)))

    pub pointer_switched : (new : StructReader) (y : Tree) (t : SchemaType) (k : ℕ) → k ≡ i → t ≡ f.type → y ≡ nth_tree (struct_of new).pointers index →
        Adds set path out found (whole_change (step_seen (step.Field k)) t (value_of set y Endless t) ∷ []) → CanStand t (value_of set y Endless t) →
        IsSwitchFound set f i (whole_part set new f) path out found
    pointer_switched new y t k is_index is_type is_y adds stands =
        whole_switched set f i (whole_part set new f) path out found (pointer_slot f.field.kind f.type index at)
        (subst (λ n. Adds set path out found (whole_change (FieldNumber n) f.type (whole_part set new f) ∷ [])) is_index
        (subst (λ v. Adds set path out found (whole_change (FieldNumber k) f.type v ∷ [])) (sym (pointer_part new y is_y))
        (subst (λ u. Adds set path out found (whole_change (FieldNumber k) u (value_of set y Endless u) ∷ [])) is_type adds)))
        (subst (CanStand f.type) (sym (pointer_part new y is_y)) (subst (λ u. CanStand u (value_of set y Endless u)) is_type stands))

-- ---- groups ----

record IsStructOf (t : SchemaType) (g : ℕ) : Type 0 where
  generic : ℕ
  is : t ≡ StructType g generic

none_some : {g : ℕ} → None ≡ Some g → ⊥
none_some e = cc

some_same : {g h : ℕ} → Some g ≡ Some h → g ≡ h
some_same e = cc

struct_of_brand : (t : SchemaType) (g : ℕ) → struct_brand t ≡ Some g → IsStructOf t g
struct_of_brand (StructType b n) g e = record { generic = n; is = ap (λ m. StructType m n) (some_same e) }
struct_of_brand VoidType g e = absurd (none_some e)
struct_of_brand BoolType g e = absurd (none_some e)
struct_of_brand (IntType k) g e = absurd (none_some e)
struct_of_brand (UIntType k) g e = absurd (none_some e)
struct_of_brand (EnumType n) g e = absurd (none_some e)
struct_of_brand TextType g e = absurd (none_some e)
struct_of_brand DataType g e = absurd (none_some e)
struct_of_brand (ListType t) g e = absurd (none_some e)
struct_of_brand AnyPointerType g e = absurd (none_some e)

by_group : (k : FieldKind) (P Q : Type 0) (node : ℕ) → k ≡ Group node → Q → ByKind k P Q
by_group k P Q node e q = subst (λ z. ByKind z P Q) (sym e) q

-- an empty struct has the default record
default_whole : (set : Schemas) (r : StructReader) (g : ℕ) → struct_of r ≡ empty_struct → whole_record set r g ≡ default_record set Endless g
unfolding whole_record
default_whole set r g e = ap (λ s. reads set s g) e

module _ (set : Schemas) (accepted : IsAccepted set) (b i : ℕ) (b_in : b < length set.brands) (i_in : i < length (fields_of set b)) (g : ℕ) (at : AtGroup (field_at set b i).field.kind (field_at set b i).type g) where
  abbrev f : TypedField
  f = field_at set b i

  names_group : IsGroupOf f.field.kind f.type g
  names_group = subst (IsGroupOf f.field.kind f.type) at.brand (group_fields_name_brands set accepted b i at.node b_in i_in at.kind)

  of_struct : IsStructOf f.type g
  of_struct = struct_of_brand f.type g (subst (λ k. IsGroupOf k f.type g) at.kind names_group)

  group_part : (r : StructReader) → whole_part set r f ≡ value.Group (whole_record set r g)
  unfolding whole_part whole_record
  group_part r = part_of_group set accepted Endless (struct_of r).bytes (values_of set (struct_of r).pointers) b i g b_in i_in names_group

  module _ (path inner : List Step) (out found : List FoundChange) (k : ℕ) (is_index : k ≡ i) (is_inner : inner ≡ (path ++ step.Field k ∷ [])) where
    adds_inside : (r q : Record) → Adds set inner out found (record_changes set g r q) → Adds set path out found (all_behind (FieldNumber i) (record_changes set g r q))
    adds_inside r q adds = subst (λ n. Adds set path out found (all_behind (FieldNumber n) (record_changes set g r q))) is_index (adds_behind set path inner (step.Field k) out found (record_changes set g r q) is_inner adds)

    -- a group is gone into
    pub group_found : (old new : StructReader) → IsRecordFound set g (whole_record set old g) (whole_record set new g) inner out found → IsPartFound set f i (whole_part set old f) (whole_part set new f) path out found
    group_found old new rec =
        subst (λ v. IsPartFound set f i v (whole_part set new f) path out found) (sym (group_part old))
        (subst (λ w. IsPartFound set f i (value.Group r) w path out found) (sym (group_part new)) (record {
          adds = subst (λ t. Adds set path out found (value_changes set (FieldNumber i) t (value.Group r) (value.Group q))) (sym of_struct.is) (adds_inside r q rec.adds);
          told = by_group f.field.kind (IsTold set f.type (value.Group r) (value.Group q)) (IsGroupTold set f.type (value.Group r) (value.Group q)) at.node at.kind
              (subst (λ t. IsGroupTold set t (value.Group r) (value.Group q)) (sym of_struct.is) rec.told);
        }))
      where
        r : Record
        r = whole_record set old g

        q : Record
        q = whole_record set new g

    -- a group that becomes active is made anew, and then gone into
    pub group_switched : (before : List FoundChange) (empty new : StructReader) → struct_of empty ≡ empty_struct → Adds set path before out (one_change (step.Field k) Inits) →
        IsRecordFound set g (whole_record set empty g) (whole_record set new g) inner out found → IsSwitchFound set f i (whole_part set new f) path before found
    group_switched before empty new is_empty first rec =
        subst (λ w. IsSwitchFound set f i w path before found) (sym (group_part new)) (record {
          adds = subst (λ t. Adds set path before found (switch_changes set i t (value.Group q))) (sym of_struct.is)
              (adds_both set path before out found made (all_behind (FieldNumber i) (record_changes set g none_yet q)) first_at (adds_inside none_yet q from_none.adds));
          told = by_group f.field.kind (CanStand f.type (value.Group q)) (IsSwitchTold set f.type (value.Group q)) at.node at.kind
              (subst (λ t. IsSwitchTold set t (value.Group q)) (sym of_struct.is) from_none.told);
        })
      where
        q : Record
        q = whole_record set new g

        none_yet : Record
        none_yet = default_record set Endless g

        from_none : IsRecordFound set g none_yet q inner out found
        from_none = subst (λ z. IsRecordFound set g z q inner out found) (default_whole set empty g is_empty) rec

        made : List Change
        made = record { path = []; last = FieldNumber i; goal = Inits } ∷ []

        first_at : Adds set path before out made
        first_at = subst (λ n. Adds set path before out (record { path = []; last = FieldNumber n; goal = Inits } ∷ [])) is_index first

-- ---- by handles ----

-- the group at a place that was looked at
pub leads_in : (set : Schemas) (b g : ℕ) (p : Place) → IfGroup p (LeadsToGroup set b) → p ≡ place.Group g → LeadsToGroup set b g
leads_in set b g p leads e = subst (λ z. IfGroup z (LeadsToGroup set b)) e leads

module _ (f : Field) (plan : SlotPlan) (is_plan : plan ≡ plan_of (set_of (field_schema f)) (number_of (field_schema f)) (typed_of f)) where
  abbrev k : FieldKind
  k = (typed_of f).field.kind

  abbrev t : SchemaType
  t = (typed_of f).type

  place_is : plan.place ≡ plan_place k t
  place_is = ap (λ (p : SlotPlan). p.place) is_plan

  pub pointer_here : (index : ℕ) → plan.place ≡ place.Pointer index → AtPointer k t index
  pointer_here index e = at_pointer k t index (sym place_is ∙ e)

  pub group_here : (g : ℕ) → plan.place ≡ place.Group g → AtGroup k t g
  group_here g e = at_group k t g (sym place_is ∙ e)

  pub number_here : ((i : ℕ) → plan.place ≡ place.Pointer i → ⊥) → ((g : ℕ) → plan.place ≡ place.Group g → ⊥) → is_pointer t ≡ false
  number_here no_pointer no_group = at_number k t (λ i e. no_pointer i (place_is ∙ e)) (λ g e. no_group g (place_is ∙ e))

-- a group's walk is shorter than its field's
pub lower_group : (s g : StructSchema) (levels brand : ℕ) → set_of g ≡ set_of s → number_of g ≡ brand → LeadsToGroup (set_of s) (number_of s) brand →
    walk_base (set_of g) levels (group_height (set_of g) (number_of g)) + 7 < walk_base (set_of s) levels (group_height (set_of s) (number_of s)) + 5
lower_group s g levels brand is_set is_number leads =
    subst (λ (z : Schemas). walk_base z levels (group_height z (number_of g)) + 7 < walk_base (set_of s) levels (group_height (set_of s) (number_of s)) + 5) (sym is_set)
    (subst (λ (n : ℕ). walk_base (set_of s) levels (group_height (set_of s) n) + 7 < walk_base (set_of s) levels (group_height (set_of s) (number_of s)) + 5) (sym is_number)
    (omega (arith, group_falls (set_of s) levels (group_height (set_of s) brand) (group_height (set_of s) (number_of s)) 7 leads.down.lower (omega arith))))

-- the record of a group's schema is that of its brand
pub record_of_group : (set : Schemas) (brand : ℕ) (g : StructSchema) (old new : StructReader) (path : List Step) (out found : List FoundChange) → set_of g ≡ set → number_of g ≡ brand →
    IsRecordFound (set_of g) (number_of g) (whole_record (set_of g) old (number_of g)) (whole_record (set_of g) new (number_of g)) path out found →
    IsRecordFound set brand (whole_record set old brand) (whole_record set new brand) path out found
record_of_group set brand g old new path out found is_set is_number rec =
    subst (λ (n : ℕ). IsRecordFound set n (whole_record set old n) (whole_record set new n) path out found) is_number
    (subst (λ (z : Schemas). IsRecordFound z (number_of g) (whole_record z old (number_of g)) (whole_record z new (number_of g)) path out found) is_set rec)

pub same_base : (s z : StructSchema) (levels : ℕ) → z ≡ s → walk_base (set_of z) levels (group_height (set_of z) (number_of z)) ≡ walk_base (set_of s) levels (group_height (set_of s) (number_of s))
same_base s z levels is = ap (λ (x : StructSchema). walk_base (set_of x) levels (group_height (set_of x) (number_of x))) is

-- what a call of a walk takes for a pointer
pub pointer_base : (set z : Schemas) (levels l height : ℕ) → z ≡ set → l ≡ levels → walk_base z l 0 ≤ walk_base set levels height
pointer_base set z levels l height is_set is_levels =
    subst (λ (x : Schemas). walk_base x l 0 ≤ walk_base set levels height) (sym is_set) (subst (λ (n : ℕ). walk_base set n 0 ≤ walk_base set levels height) (sym is_levels) (base_least set levels height))

module _ (f : Field) (own : StructSchema) (is_own : own ≡ field_schema f) (stands : IsStruct own) (here : IsFieldOf own (index_of f) f) (plan : SlotPlan)
    (is_plan : plan ≡ plan_of (set_of (field_schema f)) (number_of (field_schema f)) (typed_of f)) where
  abbrev own_set : Schemas
  own_set = set_of (field_schema f)

  own_stands : IsStruct (field_schema f)
  own_stands = subst IsStruct is_own stands

  own_inside : index_of f < length (fields_of own_set (number_of (field_schema f)))
  own_inside = subst (λ (z : StructSchema). index_of f < length (fields_of (set_of z) (number_of z))) is_own here.inside

  module _ (path : List Step) (out found : List FoundChange) (k : ℕ) (is_index : k ≡ index_of f) where
    -- behind a pointer
    module _ (index : ℕ) (e : plan.place ≡ place.Pointer index) (z : Schemas) (is_set : z ≡ own_set) (t : SchemaType) (is_type : t ≡ (typed_of f).type) where
      pub behind_found : (old new : StructReader) (x y : Tree) → x ≡ nth_tree (struct_of old).pointers index → y ≡ nth_tree (struct_of new).pointers index →
          IsFoundAt z (step.Field k) t (value_of z x Endless t) (value_of z y Endless t) path out found →
          IsPartFound own_set (typed_of f) (index_of f) (whole_part own_set old (typed_of f)) (whole_part own_set new (typed_of f)) path out found
      behind_found old new x y is_x is_y found_at =
          pointer_found own_set (typed_of f) index (pointer_here f plan is_plan index e) (index_of f) path out found old new x y t k is_index is_type is_x is_y
          (subst (λ (u : Schemas). IsFoundAt u (step.Field k) t (value_of u x Endless t) (value_of u y Endless t) path out found) is_set found_at)

      pub behind_switched : (new : StructReader) (y : Tree) → y ≡ nth_tree (struct_of new).pointers index →
          Adds z path out found (whole_change (step_seen (step.Field k)) t (value_of z y Endless t) ∷ []) → CanStand t (value_of z y Endless t) →
          IsSwitchFound own_set (typed_of f) (index_of f) (whole_part own_set new (typed_of f)) path out found
      behind_switched new y is_y adds can =
          pointer_switched own_set (typed_of f) index (pointer_here f plan is_plan index e) (index_of f) path out found new y t k is_index is_type is_y
          (subst (λ (u : Schemas). Adds u path out found (whole_change (step_seen (step.Field k)) t (value_of u y Endless t) ∷ [])) is_set adds)
          (subst (λ (u : Schemas). CanStand t (value_of u y Endless t)) is_set can)

    -- a group
    module _ (g : ℕ) (e : plan.place ≡ place.Group g) (gs : StructSchema) (is_set : set_of gs ≡ own_set) (is_number : number_of gs ≡ g) (inner : List Step) (is_inner : inner ≡ (path ++ step.Field k ∷ [])) where
      pub group_gone : (old new : StructReader) →
          IsRecordFound (set_of gs) (number_of gs) (whole_record (set_of gs) old (number_of gs)) (whole_record (set_of gs) new (number_of gs)) inner out found →
          IsPartFound own_set (typed_of f) (index_of f) (whole_part own_set old (typed_of f)) (whole_part own_set new (typed_of f)) path out found
      group_gone old new rec =
          group_found own_set own_stands.accepted (number_of (field_schema f)) (index_of f) own_stands.number own_inside g (group_here f plan is_plan g e) path inner out found k is_index is_inner old new
          (record_of_group own_set g gs old new inner out found is_set is_number rec)

      pub group_made : (before : List FoundChange) (empty new : StructReader) → struct_of empty ≡ empty_struct → Adds own_set path before out (one_change (step.Field k) Inits) →
          IsRecordFound (set_of gs) (number_of gs) (whole_record (set_of gs) empty (number_of gs)) (whole_record (set_of gs) new (number_of gs)) inner out found →
          IsSwitchFound own_set (typed_of f) (index_of f) (whole_part own_set new (typed_of f)) path before found
      group_made before empty new is_empty first rec =
          group_switched own_set own_stands.accepted (number_of (field_schema f)) (index_of f) own_stands.number own_inside g (group_here f plan is_plan g e) path inner out found k is_index is_inner before empty new is_empty first
          (record_of_group own_set g gs empty new inner out found is_set is_number rec)

-- a number that is put for a member
module _ (f : Field) (stands : IsStruct (field_schema f)) (inside : index_of f < length (fields_of (set_of (field_schema f)) (number_of (field_schema f)))) (number : is_pointer (typed_of f).type ≡ false) where
  pub number_switched : (reader : StructReader) (target : DynamicValue) (path : List Step) (old new : List FoundChange) → value_seen target ≡ whole_part (set_of (field_schema f)) reader (typed_of f) →
      (k : ℕ) → k ≡ index_of f → IsOf (set_of (field_schema f)) (typed_of f).type target →
      ((s : Schemas) → IsReady s (op.Set target) → Adds s path old new (one_change (step.Field k) (goal_seen (op.Set target)))) →
      IsSwitchFound (set_of (field_schema f)) (typed_of f) (index_of f) (whole_part (set_of (field_schema f)) reader (typed_of f)) path old new
  number_switched reader target path old new is k is_index of added =
      whole_switched (set_of (field_schema f)) (typed_of f) (index_of f) (whole_part (set_of (field_schema f)) reader (typed_of f)) path old new
      (field_no_group f stands inside number reader target path old new is)
      (field_put f stands inside number reader target path old new is k is_index of added)
      (field_stands f stands inside number reader target path old new is)

-- a path as a slice
pub switched_along : (f : Field) (new : StructReader) (slice path : List Step) (out found : List FoundChange) → slice ≡ path →
    IsSwitchFound (set_of (field_schema f)) (typed_of f) (index_of f) (whole_part (set_of (field_schema f)) new (typed_of f)) slice out found →
    IsSwitchFound (set_of (field_schema f)) (typed_of f) (index_of f) (whole_part (set_of (field_schema f)) new (typed_of f)) path out found
switched_along f new slice path out found is switch = subst (λ (xs : List Step). IsSwitchFound (set_of (field_schema f)) (typed_of f) (index_of f) (whole_part (set_of (field_schema f)) new (typed_of f)) xs out found) is switch
