-- Has and which by a plan are the record's.
use Rattle.std.proofs.Common.{ℕ, suc, ◌+◌, ◌<◌, ◌≡◌, refl, List, [], ◌∷◌, Bool, true, false, not, ◌&&◌, ◌==◌, nat_lt, cond, length, map, position, Option, Some, None, option_map, Result, Ok, arith, ap, sym, subst, ◌∙◌}
use Rattle.std.specs.List.{position_or_len}
use Rattle.std.proofs.lemmas.Bool.{eq-eqb, eqb-true, true≢false}
use Rattle.capnp_device.specs.declared.error.Error.{Error}
use Rattle.capnp_wire.specs.Tree.{StructTree, Tree, nth_tree}
use Rattle.capnp_wire.specs.Reading.{is_null_tree}
use Rattle.capnp_base.specs.declared.introspect.TypeVariant.{TypeVariant}
use Rattle.capnp_base.specs.declared.introspect.TypeVariant.TheVariants as variant
use Rattle.capnp_schema.specs.Accepted.{IsAccepted}
use Rattle.capnp_schema.specs.Plan.{member_plan, plan_place, plan_of}
use Rattle.capnp_schema.specs.Query.{is_member_of, member_of, records_of}
use Rattle.capnp_schema.specs.Schema.{FieldKind, Group, Schemas, Slot, TypedField, field_at, fields_of, is_member, node_of, Value as SchemaValue}
use Rattle.capnp_schema.specs.Types.{SchemaType, seen_variant}
use Rattle.capnp_records.specs.Facts.Frame.{active_among_found, second_of}
use Rattle.capnp_records.specs.Facts.Members.{counted_from_member, counted_not_zero, once_from_members}
use Rattle.capnp_records.specs.Facts.PartRead.{found_active, nth_plain_parts}
use Rattle.capnp_records.specs.Facts.Pointers.{values_of_nth}
use Rattle.capnp_records.specs.Facts.Readers.{null_is, value_there}
use Rattle.capnp_records.specs.Reading.{part_of, Reading, active_among, discriminant, kind_value, non_union_parts, record_within, slot_value, struct_record, union_of, value_of, values_of}
use Rattle.capnp_records.specs.Record.{Active, Levels, NoUnion, Parts, Union, Value, Values, is_there}
use Rattle.capnp_records.specs.Part.{active_value, has_of, is_active, is_inactive, nth_value, which_of}
use Rattle.capnp_dynamic_readers.specs.Planned.{place_there}
use Rattle.capnp_dynamic_readers.specs.Steps.Planned.{member_there, planned_has}

not_null : (set : Schemas) (x : Tree) (l : Levels) (t : SchemaType) → is_there (value_of set x l t) ≡ not (is_null_tree x)
not_null set x l t = go (is_null_tree x) refl
  where
    go : (q : Bool) → is_null_tree x ≡ q → is_there (value_of set x l t) ≡ not (is_null_tree x)
    go true h = ap (λ y. is_there (value_of set y l t)) (null_is x h) ∙ sym (ap not h)
    go false h = value_there set x l t h ∙ sym (ap not h)

module _ (set : Schemas) (l : Levels) (s : StructTree) where
  pointer_there : (o : ℕ) (t : SchemaType) (r : Reading) → r ≡ value_of set (nth_tree s.pointers o) → is_there (r l t) ≡ not (is_null_tree (nth_tree s.pointers o))
  pointer_there o t r e = ap (λ (r : Reading). is_there (r l t)) e ∙ not_null set (nth_tree s.pointers o) l t

  slot_there : (v : TypeVariant) (o : ℕ) (d : SchemaValue) → is_there (slot_value l s.bytes (values_of set s.pointers) o d (seen_variant v)) ≡ place_there s (plan_place (Slot o d) (seen_variant v))
  slot_there variant.Void o d = refl
  slot_there variant.Bool o d = refl
  slot_there variant.Int8 o d = refl
  slot_there variant.Int16 o d = refl
  slot_there variant.Int32 o d = refl
  slot_there variant.Int64 o d = refl
  slot_there variant.UInt8 o d = refl
  slot_there variant.UInt16 o d = refl
  slot_there variant.UInt32 o d = refl
  slot_there variant.UInt64 o d = refl
  slot_there (variant.Enum e) o d = refl
  slot_there variant.Text o d = pointer_there o _ _ (values_of_nth set s.pointers o)
  slot_there variant.«Data» o d = pointer_there o _ _ (values_of_nth set s.pointers o)
  slot_there (variant.Struct x) o d = pointer_there o _ _ (values_of_nth set s.pointers o)
  slot_there (variant.List x) o d = pointer_there o _ _ (values_of_nth set s.pointers o)
  slot_there variant.AnyPointer o d = pointer_there o _ _ (values_of_nth set s.pointers o)

  pub part_there : (b i : ℕ) (v : TypeVariant) → seen_variant v ≡ (field_at set b i).type →
      is_there (part_of set l s.bytes (values_of set s.pointers) (field_at set b i)) ≡ place_there s (plan_place (field_at set b i).field.kind (field_at set b i).type)
  part_there b i v e = go (field_at set b i).field.kind (field_at set b i).type e
    where
      go : (k : FieldKind) (t : SchemaType) → seen_variant v ≡ t → is_there (kind_value (record_within (length set.brands) set l s.bytes (values_of set s.pointers)) l s.bytes (values_of set s.pointers) k t) ≡ place_there s (plan_place k t)
      go (Slot o d) t e = subst (λ t. is_there (slot_value l s.bytes (values_of set s.pointers) o d t) ≡ place_there s (plan_place (Slot o d) t)) e (slot_there v o d)
      go (Group n) t e = refl

  module _ (accepted : IsAccepted set) (b i : ℕ) (b_in : b < length set.brands) (i_in : i < length (fields_of set b)) where
    abbrev f : TypedField
    f = field_at set b i

    abbrev part : TypedField → Value
    part = part_of set l s.bytes (values_of set s.pointers)

    abbrev union : Union
    union = union_of part (node_of set b) (fields_of set b) s.bytes

    abbrev number : ℕ
    number = discriminant (node_of set b) s.bytes

    -- where a struct has a member, its union is the one of the number that stands there
    counted_union : is_member f.field ≡ true → union ≡ active_among part (fields_of set b) 0 number
    counted_union member =
        second_of ((node_of set b).discriminant_count == 0) _ _ (counted_not_zero _ _ (counted_from_member set accepted b i b_in i_in member))

    -- a member whose number stands there is active
    member_active : is_member f.field ≡ true → (number == f.field.discriminant_value) ≡ true → union ≡ Active i (part f)
    member_active member is =
        counted_union member
        ∙ (active_among_found part (fields_of set b) 0 i number i_in member (sym (eqb-true _ _ is)) (λ j a m n. once_from_members set accepted b i j b_in i_in a m (n ∙ eqb-true _ _ is))
        ∙ ap (λ n. Active n (part f)) (omega arith))

    -- and another isn't
    member_inactive : is_member f.field ≡ true → (number == f.field.discriminant_value) ≡ false → is_active union i ≡ false
    member_inactive member is = go (is_active union i) refl
      where
        go : (q : Bool) → is_active union i ≡ q → is_active union i ≡ false
        go false h = h
        go true h =
            let found = found_active part (fields_of set b) 0 i number (subst (λ n. is_active (active_among part (fields_of set b) 0 number) n ≡ true) (omega arith) (sym (ap (λ u. is_active u i) (counted_union member)) ∙ h)) in
            absurd (true≢false (sym (eq-eqb _ _ (sym found.value_is)) ∙ is))

    -- whether a field can be read as it stands
    pub active_by_plan : member_there s.bytes (plan_of set b (field_at set b i)).member ≡ not (is_inactive (struct_record set l s b) (field_at set b i).field i)
    active_by_plan = go (is_member f.field) refl
      where
        go : (q : Bool) → is_member f.field ≡ q → member_there s.bytes (member_plan (is_member f.field) (node_of set b) f.field) ≡ not (is_member f.field && not (is_active union i))
        go false plain =
            ap (λ q. member_there s.bytes (member_plan q (node_of set b) f.field)) plain
            ∙ sym (ap (λ q. not (q && not (is_active union i))) plain)
        go true member = at (number == f.field.discriminant_value) refl
          where
            at : (q : Bool) → (number == f.field.discriminant_value) ≡ q → member_there s.bytes (member_plan (is_member f.field) (node_of set b) f.field) ≡ not (is_member f.field && not (is_active union i))
            at true is =
                ap (λ q. member_there s.bytes (member_plan q (node_of set b) f.field)) member
                ∙ (is
                ∙ (sym (ap (λ q. not (true && not q)) (ap (λ u. is_active u i) (member_active member is) ∙ eq-eqb i i refl))
                ∙ sym (ap (λ q. not (q && not (is_active union i))) member)))
            at false is =
                ap (λ q. member_there s.bytes (member_plan q (node_of set b) f.field)) member
                ∙ (is
                ∙ (sym (ap (λ q. not (true && not q)) (member_inactive member is))
                ∙ sym (ap (λ q. not (q && not (is_active union i))) member)))

    pub has_by_plan : (v : TypeVariant) → seen_variant v ≡ (field_at set b i).type →
        planned_has s (plan_of set b (field_at set b i)) ≡ has_of (struct_record set l s b) (field_at set b i).field i
    has_by_plan v e = go (is_member f.field) refl
      where
        vs : Values
        vs = non_union_parts part (fields_of set b)

        there : is_there (part (field_at set b i)) ≡ place_there s (plan_place (field_at set b i).field.kind (field_at set b i).type)
        there = part_there b i v e

        both : Bool → Bool → Value → Value → Bool
        both q active x y = not (q && not active) && is_there (elim q as (λ _. Value) [ true ↦ x | false ↦ y ])

        go : (q : Bool) → is_member f.field ≡ q → planned_has s (plan_of set b (field_at set b i)) ≡ has_of (struct_record set l s b) (field_at set b i).field i
        go false plain =
            ap (λ q. member_there s.bytes (member_plan q (node_of set b) f.field) && place_there s (plan_place f.field.kind f.type)) plain
            ∙ (sym there
            ∙ (sym (ap is_there (nth_plain_parts part (fields_of set b) i i_in plain))
            ∙ sym (ap (λ q. both q (is_active union i) (active_value union) (nth_value vs i)) plain)))
        go true member = at (number == f.field.discriminant_value) refl
          where
            at : (q : Bool) → (number == f.field.discriminant_value) ≡ q → planned_has s (plan_of set b (field_at set b i)) ≡ has_of (struct_record set l s b) (field_at set b i).field i
            at true is =
                ap (λ q. member_there s.bytes (member_plan q (node_of set b) f.field) && place_there s (plan_place f.field.kind f.type)) member
                ∙ (ap (λ q. q && place_there s (plan_place f.field.kind f.type)) is
                ∙ (sym there
                ∙ (sym (ap (λ q. not (true && not q) && is_there (part f)) (eq-eqb i i refl))
                ∙ (sym (ap (λ u. both true (is_active u i) (active_value u) (nth_value vs i)) (member_active member is))
                ∙ sym (ap (λ q. both q (is_active union i) (active_value union) (nth_value vs i)) member)))))
            at false is =
                ap (λ q. member_there s.bytes (member_plan q (node_of set b) f.field) && place_there s (plan_place f.field.kind f.type)) member
                ∙ (ap (λ q. q && place_there s (plan_place f.field.kind f.type)) is
                ∙ (sym (ap (λ q. both true q (active_value union) (nth_value vs i)) (member_inactive member is))
                ∙ sym (ap (λ q. both q (is_active union i) (active_value union) (nth_value vs i)) member)))

-- ---- which ----

lt_suc : (n m : ℕ) → nat_lt (1 + n) (suc m) ≡ nat_lt n m
lt_suc n m = grind arith

pub not_zero : (n : ℕ) → (n ≡ 0 → ⊥) → (n == 0) ≡ false
not_zero n h = grind (arith, h)

lt_zero : (m : ℕ) → nat_lt 0 (suc m) ≡ true
lt_zero m = grind arith

pub which_among : (vs : Values) (v : TypedField → Value) (fs : List TypedField) (k d : ℕ) →
    which_of (Parts vs (active_among v fs k d)) ≡ option_map (λ i. k + i) (position (is_member_of d) (map (λ (f : TypedField). f.field) fs))
which_among vs v [] k d = refl
which_among vs v (f ∷ fs) k d = go (is_member_of d f.field) (which_among vs v fs (suc k) d)
  where
    n : ℕ
    n = position_or_len (is_member_of d) (map (λ (f : TypedField). f.field) fs)

    m : ℕ
    m = length (map (λ (f : TypedField). f.field) fs)

    shift : (q : Bool) → option_map (λ i. suc k + i) (cond q (Some n) None) ≡ option_map (λ i. k + i) (cond q (Some (1 + n)) None)
    shift true = ap Some (omega arith)
    shift false = refl

    go : (q : Bool) → which_of (Parts vs (active_among v fs (suc k) d)) ≡ option_map (λ i. suc k + i) (cond (nat_lt n m) (Some n) None) →
        which_of (Parts vs (elim q as (λ _. Union) [ true ↦ Active k (v f) | false ↦ active_among v fs (suc k) d ])) ≡ option_map (λ i. k + i) (cond (nat_lt (cond (not q) (1 + n) 0) (suc m)) (Some (cond (not q) (1 + n) 0)) None)
    go true ih = ap Some (omega arith) ∙ sym (ap (λ q. option_map (λ i. k + i) (cond q (Some 0) None)) (lt_zero m))
    go false ih = ih ∙ (shift (nat_lt n m) ∙ sym (ap (λ q. option_map (λ i. k + i) (cond q (Some (1 + n)) None)) (lt_suc n m)))

from_zero : (o : Option ℕ) → option_map (λ i. 0 + i) o ≡ o
from_zero None = refl
from_zero (Some i) = ap Some (omega arith)

pub which_counted : (set : Schemas) (l : Levels) (s : StructTree) (b d : ℕ) → ((node_of set b).discriminant_count == 0) ≡ false → d ≡ discriminant (node_of set b) s.bytes →
    member_of (records_of set b) d ≡ which_of (struct_record set l s b)
which_counted set l s b d counted is =
    ap (member_of (records_of set b)) is
    ∙ (sym (from_zero (member_of (records_of set b) (discriminant (node_of set b) s.bytes)))
    ∙ (sym (which_among (non_union_parts part (fields_of set b)) part (fields_of set b) 0 (discriminant (node_of set b) s.bytes))
    ∙ ap (λ u. which_of (Parts (non_union_parts part (fields_of set b)) u)) (sym (second_of ((node_of set b).discriminant_count == 0) NoUnion (active_among part (fields_of set b) 0 (discriminant (node_of set b) s.bytes)) counted))))
  where
    part : TypedField → Value
    part = part_of set l s.bytes (values_of set s.pointers)

-- what an answer is, it is alone
pub ok_same : (answer : Result Bool Error) (x y : Bool) → answer ≡ Ok x → answer ≡ Ok y → x ≡ y
ok_same answer x y e h = cc
