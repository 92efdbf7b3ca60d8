-- What is answered of a struct or list that is cut off further down is what is answered of the whole one.
use Rattle.std.proofs.Common.{ℕ, suc, ◌≡◌, ◌<◌, refl, Bool, true, false, not, ◌&&◌, ◌==◌, length, List, [], ◌∷◌, ap, sym, ◌∙◌}
use Rattle.std.proofs.lemmas.Bool.{true≢false}
use Rattle.capnp_wire.specs.Reading.{element_bit, element_number, is_null_tree}
use Rattle.capnp_wire.specs.Slot.{number_at}
use Rattle.capnp_wire.specs.Tree as tree
use Rattle.capnp_wire.specs.Tree.{StructTree, Tree, nth_tree}
use Rattle.capnp_arena.specs.Same.{IsCutOf, IsStructCutOf, SameParts, SameTo}
use Rattle.capnp_base.specs.declared.introspect.TypeVariant.{TypeVariant}
use Rattle.capnp_schema.specs.Accepted.{IsAccepted}
use Rattle.capnp_schema.specs.Plan.{plan_of}
use Rattle.capnp_schema.specs.Schema.{FieldKind, Group, Schemas, Slot, TypedField, VoidValue, field_at, fields_of, is_member, node_of}
use Rattle.capnp_schema.specs.SlotValue.{slot_number}
use Rattle.capnp_schema.specs.Types.{SchemaType, VoidType, BoolType, IntType, UIntType, EnumType, TextType, DataType, StructType, ListType, AnyPointerType, is_pointer, seen_variant}
use Rattle.capnp_schema.specs.declared.plan.Place.{Place}
use Rattle.capnp_schema.specs.declared.plan.Place.TheVariants as place
use Rattle.capnp_schema.specs.declared.plan.SlotPlan.{SlotPlan}
use Rattle.capnp_records.specs.Default.{read_field, read_of}
use Rattle.capnp_records.specs.Facts.ListValues.{below_of}
use Rattle.capnp_records.specs.Facts.Readers.{element_read}
use Rattle.capnp_records.specs.Part.{has_of, which_of}
use Rattle.capnp_records.specs.Reading.{Reading, active_among, discriminant, element_value, kind_value, nth_reading, number_value, part_of, non_union_parts, record_within, struct_record, values_of}
use Rattle.capnp_records.specs.Record.{Active, Left, Levels, NoUnion, Parts, Record, Truth, Union, Value, Values}
use Rattle.capnp_records.specs.Step.{is_group_field}
use Rattle.capnp_dynamic_readers.specs.Facts.HasWhich.{has_by_plan}
use Rattle.capnp_dynamic_readers.specs.Planned.{place_there}
use Rattle.capnp_dynamic_readers.specs.Steps.Planned.{member_there, planned_has}
use Rattle.capnp_dynamic_readers.specs.Reads.{field_read, handed_out}

-- ---- whether a field is there ----

null_alike : (n : ℕ) (x y : Tree) → SameTo (suc n) x y → is_null_tree y ≡ is_null_tree x
null_alike n tree.Null y h = ap is_null_tree h
null_alike n (tree.Struct bytes ps) y (qs, e, row) = ap is_null_tree e
null_alike n (tree.Voids k) y h = ap is_null_tree h
null_alike n (tree.Bits bs) y h = ap is_null_tree h
null_alike n (tree.Numbers w bytes) y h = ap is_null_tree h
null_alike n (tree.Pointers ps) y (qs, e, row) = ap is_null_tree e
null_alike n (tree.Composite d p es) y (fs, e, row) = ap is_null_tree e
null_alike n (tree.FaultLeaf k) y h = ap is_null_tree h

place_alike : (n : ℕ) (x s : StructTree) → SameParts (SameTo (suc n)) x s → (p : Place) → place_there x p ≡ place_there s p
place_alike n x s h place.Nothing = refl
place_alike n x s h (place.Bits start bits mask) = refl
place_alike n x s h (place.Pointer i) = ap not (sym (null_alike n (nth_tree x.pointers i) (nth_tree s.pointers i) (h.1.1 i)))
place_alike n x s h (place.Group b) = refl

has_alike : (n : ℕ) (x s : StructTree) → SameParts (SameTo (suc n)) x s → (p : SlotPlan) → planned_has x p ≡ planned_has s p
has_alike n x s h p = ap (λ b. member_there b p.member && place_there x p.place) (sym h.0) ∙ ap (λ q. member_there s.bytes p.member && q) (place_alike n x s h p.place)

pub has_cut : (set : Schemas) (l : Levels) (x s : StructTree) → IsStructCutOf x s → IsAccepted set → (b i : ℕ) → b < length set.brands → i < length (fields_of set b) → (v : TypeVariant) → seen_variant v ≡ (field_at set b i).type →
    has_of (struct_record set l x b) (field_at set b i).field i ≡ has_of (struct_record set l s b) (field_at set b i).field i
unfolding IsStructCutOf
has_cut set l x s h accepted b i b_in i_in v e =
    sym (has_by_plan set l x accepted b i b_in i_in v e) ∙ (has_alike 64 x s h (plan_of set b (field_at set b i)) ∙ has_by_plan set l s accepted b i b_in i_in v e)

-- ---- the active member ----

among_same : (v w : TypedField → Value) (vs ws : Values) (fs : List TypedField) (k d : ℕ) → which_of (Parts vs (active_among v fs k d)) ≡ which_of (Parts ws (active_among w fs k d))
among_same v w vs ws [] k d = refl
among_same v w vs ws (f ∷ fs) k d = go (is_member f.field && (f.field.discriminant_value == d)) (among_same v w vs ws fs (suc k) d)
  where
    go : (q : Bool) → which_of (Parts vs (active_among v fs (suc k) d)) ≡ which_of (Parts ws (active_among w fs (suc k) d)) →
        which_of (Parts vs (elim q as (λ _. Union) [ true ↦ Active k (v f) | false ↦ active_among v fs (suc k) d ])) ≡ which_of (Parts ws (elim q as (λ _. Union) [ true ↦ Active k (w f) | false ↦ active_among w fs (suc k) d ]))
    go true h = refl
    go false h = h

union_same : (v w : TypedField → Value) (vs ws : Values) (fs : List TypedField) (q : Bool) (d : ℕ) →
    which_of (Parts vs (elim q as (λ _. Union) [ true ↦ NoUnion | false ↦ active_among v fs 0 d ])) ≡ which_of (Parts ws (elim q as (λ _. Union) [ true ↦ NoUnion | false ↦ active_among w fs 0 d ]))
union_same v w vs ws fs true d = refl
union_same v w vs ws fs false d = among_same v w vs ws fs 0 d

pub which_cut : (set : Schemas) (l : Levels) (x s : StructTree) → IsStructCutOf x s → (b : ℕ) → which_of (struct_record set l x b) ≡ which_of (struct_record set l s b)
unfolding IsStructCutOf
which_cut set l x s h b =
    union_same (part_of set l x.bytes (values_of set x.pointers)) (part_of set l x.bytes (values_of set s.pointers)) (non_union_parts (part_of set l x.bytes (values_of set x.pointers)) (fields_of set b)) (non_union_parts (part_of set l x.bytes (values_of set s.pointers)) (fields_of set b)) (fields_of set b) ((node_of set b).discriminant_count == 0) (discriminant (node_of set b) x.bytes)
    ∙ ap (λ (bytes : List ℕ). which_of (struct_record set l (record { bytes = bytes; pointers = s.pointers }) b)) (sym h.0)

-- ---- numbers ----

slot_alike : (f g : ℕ → Record) (l : Levels) (bytes : List ℕ) (ps qs : List Reading) (k : FieldKind) (t : SchemaType) → is_group_field k ≡ false → is_pointer t ≡ false → kind_value f l bytes ps k t ≡ kind_value g l bytes qs k t
slot_alike f g l bytes ps qs (Group node) t slot e = absurd (true≢false slot)
slot_alike f g l bytes ps qs (Slot o d) t slot e =
    go (is_pointer t) e
  where
    go : (q : Bool) → q ≡ false →
        elim q as (λ _. Value) [ true ↦ nth_reading ps o l t | false ↦ number_value t (slot_number bytes o d t) ] ≡ elim q as (λ _. Value) [ true ↦ nth_reading qs o l t | false ↦ number_value t (slot_number bytes o d t) ]
    go true h = absurd (true≢false h)
    go false h = refl

pub number_cut : (set : Schemas) (l : Levels) (x s : StructTree) → IsStructCutOf x s → (f : TypedField) → is_group_field f.field.kind ≡ false → is_pointer f.type ≡ false → field_read set l x f ≡ field_read set l s f
unfolding IsStructCutOf
number_cut set l x s h f slot e =
    ap (λ (v : Value). handed_out f.field.kind (read_field set f v))
    (slot_alike (record_within (length set.brands) set l x.bytes (values_of set x.pointers)) (record_within (length set.brands) set l x.bytes (values_of set s.pointers)) l x.bytes (values_of set x.pointers) (values_of set s.pointers) f.field.kind f.type slot e
    ∙ ap (λ (bytes : List ℕ). kind_value (record_within (length set.brands) set l bytes (values_of set s.pointers)) l bytes (values_of set s.pointers) f.field.kind f.type) (sym h.0))

-- ---- numbers in lists ----

number_alike : (n : ℕ) (x y : Tree) → SameTo (suc (suc n)) x y → (w i : ℕ) → element_number w x i ≡ element_number w y i
number_alike n tree.Null y h w i = ap (λ (z : Tree). element_number w z i) (sym h)
number_alike n (tree.Struct bytes ps) y (qs, e, row) w i = sym (ap (λ (z : Tree). element_number w z i) e)
number_alike n (tree.Voids k) y h w i = ap (λ (z : Tree). element_number w z i) (sym h)
number_alike n (tree.Bits bs) y h w i = ap (λ (z : Tree). element_number w z i) (sym h)
number_alike n (tree.Numbers v bytes) y h w i = ap (λ (z : Tree). element_number w z i) (sym h)
number_alike n (tree.Pointers ps) y (qs, e, row) w i = sym (ap (λ (z : Tree). element_number w z i) e)
number_alike n (tree.Composite d p es) y (fs, e, row) w i = ap (number_at w 0) (sym (row.1 i).0) ∙ sym (ap (λ (z : Tree). element_number w z i) e)
number_alike n (tree.FaultLeaf k) y h w i = ap (λ (z : Tree). element_number w z i) (sym h)

bit_alike : (n : ℕ) (x y : Tree) → SameTo (suc (suc n)) x y → (i : ℕ) → element_bit x i ≡ element_bit y i
bit_alike n tree.Null y h i = ap (λ (z : Tree). element_bit z i) (sym h)
bit_alike n (tree.Struct bytes ps) y (qs, e, row) i = sym (ap (λ (z : Tree). element_bit z i) e)
bit_alike n (tree.Voids k) y h i = ap (λ (z : Tree). element_bit z i) (sym h)
bit_alike n (tree.Bits bs) y h i = ap (λ (z : Tree). element_bit z i) (sym h)
bit_alike n (tree.Numbers v bytes) y h i = ap (λ (z : Tree). element_bit z i) (sym h)
bit_alike n (tree.Pointers ps) y (qs, e, row) i = sym (ap (λ (z : Tree). element_bit z i) e)
bit_alike n (tree.Composite d p es) y (fs, e, row) i = sym (ap (λ (z : Tree). element_bit z i) e)
bit_alike n (tree.FaultLeaf k) y h i = ap (λ (z : Tree). element_bit z i) (sym h)

element_alike : (n : ℕ) (set : Schemas) (m : ℕ) (x y : Tree) → SameTo (suc (suc n)) x y → (t : SchemaType) (i : ℕ) → is_pointer t ≡ false → element_read set x m t i ≡ element_value set y (below_of set y) (Left m) t i
element_alike n set m x y h VoidType i e = refl
element_alike n set m x y h BoolType i e = ap Truth (bit_alike n x y h i)
element_alike n set m x y h (IntType w) i e = ap (number_value (IntType w)) (number_alike n x y h w i)
element_alike n set m x y h (UIntType w) i e = ap (number_value (UIntType w)) (number_alike n x y h w i)
element_alike n set m x y h (EnumType k) i e = ap (number_value (EnumType k)) (number_alike n x y h 2 i)
element_alike n set m x y h TextType i e = absurd (true≢false e)
element_alike n set m x y h DataType i e = absurd (true≢false e)
element_alike n set m x y h (StructType b g) i e = absurd (true≢false e)
element_alike n set m x y h (ListType t) i e = absurd (true≢false e)
element_alike n set m x y h AnyPointerType i e = absurd (true≢false e)

pub element_cut : (set : Schemas) (m : ℕ) (x y : Tree) → IsCutOf x y → (t : SchemaType) (i : ℕ) → is_pointer t ≡ false →
    read_of set VoidValue t (element_read set x m t i) ≡ read_of set VoidValue t (element_value set y (below_of set y) (Left m) t i)
unfolding IsCutOf
element_cut set m x y h t i e = ap (read_of set VoidValue t) (element_alike 63 set m x y h t i e)
