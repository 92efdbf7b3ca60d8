-- The union of a struct on both sides: the member that is active in the new one, or a number that names none.
use Rattle.std.specs.Prelude.{◌*◌}
use Rattle.std.proofs.Common.{ℕ, zero, suc, ◌<◌, ◌+◌, ◌≡◌, ◌∙◌, refl, [], ◌∷◌, List, length, slice_get, Bool, true, false, not, ◌&&◌, ◌==◌, Option, Some, None, arith, ap, ap₂, sym, subst}
use Rattle.std.proofs.lemmas.Bool.{eq-eqb, eqb-true, true≢false}
use Rattle.std.specs.Option.{unwrap_or}
use Rattle.capnp_wire.specs.Standing.{struct_levels, struct_of}
use Rattle.capnp_wire.specs.Tree.{StructTree}
use Rattle.capnp_wire.specs.declared.struct_reader.StructReader.{StructReader}
use Rattle.capnp_schema.specs.Discriminant.{discriminant_of, first_bit}
use Rattle.capnp_schema.specs.FieldLists.{IsFieldOf, IsFound, field_schema, index_of, typed_of}
use Rattle.capnp_schema.specs.Schema.{Schemas, TypedField, field_at, fields_of, is_member, no_field, node_of}
use Rattle.capnp_schema.specs.SlotValue.{bits_at}
use Rattle.capnp_schema.specs.StructHandles.{IsStruct, number_of, set_of, struct_field, struct_fields, struct_node}
use Rattle.capnp_schema.specs.declared.schema.fields.Field.{Field}
use Rattle.capnp_schema.specs.declared.schema.structs.StructSchema.{StructSchema}
use Rattle.capnp_records.specs.Call.{FieldNumber}
use Rattle.capnp_records.specs.Facts.Frame.{chosen_first, second_of}
use Rattle.capnp_records.specs.Part.{active_value, is_active, is_inactive, which_of}
use Rattle.capnp_records.specs.Reading.{active_among, discriminant, non_union_parts, part_of, reads, struct_record, union_of, values_of}
use Rattle.capnp_records.specs.Record.{Active, Endless, Left, NoUnion, Parts, Record, Union, Unknown, Value, Values}
use Rattle.capnp_dynamic_readers.specs.Facts.HasWhich.{active_by_plan}
use Rattle.capnp_dynamic_readers.specs.Handles.{reader_of, schema_of}
use Rattle.capnp_dynamic_readers.specs.Planned.{IsActiveMember}
use Rattle.capnp_dynamic_readers.specs.Seen.{record_seen}
use Rattle.capnp_dynamic_readers.specs.declared.dynamic_struct.Reader.{Reader as StructHandle}
use Rattle.capnp_call.specs.declared.calls.Step.{Step}
use Rattle.capnp_diffs.specs.Changes.{ByKind, CanStand, Either, IsGroupTold, IsSwitchTold, IsTold, IsUnionTold, if_active, switch_changes, union_changes, value_changes}
use Rattle.capnp_diffs.specs.Steps.Adding.{Adds, HaveOneNumber, IsPartFound, IsSwitchFound, IsUnionFound, union_held, whole_part, whole_record}
use Rattle.capnp_diffs.specs.declared.change.Change.{Change as FoundChange}
use Rattle.capnp_diffs.proofs.Added.{adds_none}

none_some : {g : ℕ} → None ≡ Some g → ⊥
none_some e = cc

some_none : {g : ℕ} → Some g ≡ None → ⊥
some_none e = cc

some_same : {g h : ℕ} → Some g ≡ Some h → g ≡ h
some_same e = cc

first_true : (a b : Bool) → (a && b) ≡ true → a ≡ true
first_true true b e = refl
first_true false b e = absurd (true≢false (sym e))

-- ---- which member is active ----

abbrev at : List TypedField → ℕ → TypedField
at fs i = unwrap_or (slice_get fs i) no_field

-- a union whose active member is field j, among fields from k on
record IsAmong (part : TypedField → Value) (fs : List TypedField) (k j : ℕ) (u : Union) : Type 0 where
  place : ℕ
  is : j ≡ k + place
  member : is_member (at fs place).field ≡ true
  union : u ≡ Active j (part (at fs place))

among : (part : TypedField → Value) (vs : Values) (d : ℕ) (fs : List TypedField) (k j : ℕ) → which_of (Parts vs (active_among part fs k d)) ≡ Some j → IsAmong part fs k j (active_among part fs k d)
among part vs d [] k j e = absurd (none_some e)
among part vs d (f ∷ fs) k j e = go (among part vs d fs (suc k) j) (is_member f.field && (f.field.discriminant_value == d)) refl e
  where
    go : (which_of (Parts vs (active_among part fs (suc k) d)) ≡ Some j → IsAmong part fs (suc k) j (active_among part fs (suc k) d)) →
        (q : Bool) → (is_member f.field && (f.field.discriminant_value == d)) ≡ q →
        which_of (Parts vs (elim q as (λ _. Union) [ true ↦ Active k (part f) | false ↦ active_among part fs (suc k) d ])) ≡ Some j →
        IsAmong part (f ∷ fs) k j (elim q as (λ _. Union) [ true ↦ Active k (part f) | false ↦ active_among part fs (suc k) d ])
    go later true is e = record {
      place = 0;
      is = let same = some_same e in omega (arith, same);
      member = first_true (is_member f.field) (f.field.discriminant_value == d) is;
      union = ap (λ n. Active n (part f)) (some_same e);
    }
    go later false is e =
        let rest = later e in
        record { place = suc rest.place; is = omega (arith, rest.is); member = rest.member; union = rest.union }

-- a number that names no member, whatever the parts are
unknown_both : (part other : TypedField → Value) (vs : Values) (d : ℕ) (fs : List TypedField) (k : ℕ) → which_of (Parts vs (active_among part fs k d)) ≡ None →
    (active_among part fs k d ≡ Unknown d) × (active_among other fs k d ≡ Unknown d)
unknown_both part other vs d [] k e = (refl, refl)
unknown_both part other vs d (f ∷ fs) k e = go (unknown_both part other vs d fs (suc k)) (is_member f.field && (f.field.discriminant_value == d)) e
  where
    go : (which_of (Parts vs (active_among part fs (suc k) d)) ≡ None → (active_among part fs (suc k) d ≡ Unknown d) × (active_among other fs (suc k) d ≡ Unknown d)) →
        (q : Bool) → which_of (Parts vs (elim q as (λ _. Union) [ true ↦ Active k (part f) | false ↦ active_among part fs (suc k) d ])) ≡ None →
        ((elim q as (λ _. Union) [ true ↦ Active k (part f) | false ↦ active_among part fs (suc k) d ]) ≡ Unknown d) × ((elim q as (λ _. Union) [ true ↦ Active k (other f) | false ↦ active_among other fs (suc k) d ]) ≡ Unknown d)
    go later true e = absurd (some_none e)
    go later false e = later e

record IsActiveAt (set : Schemas) (s : StructTree) (b j : ℕ) : Type 0 where
  member : is_member (field_at set b j).field ≡ true
  union : union_held (reads set s b) ≡ Active j (part_of set Endless s.bytes (values_of set s.pointers) (field_at set b j))

module _ (set : Schemas) (s : StructTree) (b : ℕ) where
  abbrev part : TypedField → Value
  part = part_of set Endless s.bytes (values_of set s.pointers)

  abbrev vs : Values
  vs = non_union_parts part (fields_of set b)

  abbrev number : ℕ
  number = discriminant (node_of set b) s.bytes

  abbrev listed : Union
  listed = active_among part (fields_of set b) 0 number

  abbrev union : Union
  union = union_of part (node_of set b) (fields_of set b) s.bytes

  active_at : (j : ℕ) → which_of (reads set s b) ≡ Some j → IsActiveAt set s b j
  active_at j e = counted ((node_of set b).discriminant_count == 0) refl
    where
      counted : (q : Bool) → ((node_of set b).discriminant_count == 0) ≡ q → IsActiveAt set s b j
      counted true z = absurd (none_some (sym (ap (λ u. which_of (Parts vs u)) (chosen_first ((node_of set b).discriminant_count == 0) NoUnion listed z)) ∙ e))
      counted false z =
          let same : union ≡ listed = second_of ((node_of set b).discriminant_count == 0) NoUnion listed z in
          let found = among part vs number (fields_of set b) 0 j (sym (ap (λ u. which_of (Parts vs u)) same) ∙ e) in
          let here : found.place ≡ j = omega (arith, found.is) in
          record {
            member = subst (λ n. is_member (field_at set b n).field ≡ true) here found.member;
            union = same ∙ (found.union ∙ ap (λ n. Active j (part (field_at set b n))) here);
          }

-- the same of what a reader stands on
pub record IsActiveIn (set : Schemas) (r : StructReader) (b j : ℕ) : Type 0 where
  pub member : is_member (field_at set b j).field ≡ true
  pub union : union_held (whole_record set r b) ≡ Active j (whole_part set r (field_at set b j))

pub active_in : (set : Schemas) (r : StructReader) (b j : ℕ) → which_of (whole_record set r b) ≡ Some j → IsActiveIn set r b j
unfolding whole_record whole_part
active_in set r b j e = let a = active_at set (struct_of r) b j e in record { member = a.member; union = a.union }

pub which_active : (r : Record) (j : ℕ) → is_active (union_held r) j ≡ true → which_of r ≡ Some j
which_active (Parts xs NoUnion) j e = absurd (true≢false (sym e))
which_active (Parts xs (Active i v)) j e = ap Some (sym (eqb-true j i e))
which_active (Parts xs (Unknown n)) j e = absurd (true≢false (sym e))

pub active_from : (set : Schemas) (r : StructReader) (b j : ℕ) → is_active (union_held (whole_record set r b)) j ≡ true → IsActiveIn set r b j
active_from set r b j e = active_in set r b j (which_active (whole_record set r b) j e)

-- ---- what the handles answer ----

pub whole_which : (s : StructSchema) (r : StructReader) (answer : Option Field) → IsActiveMember s (struct_of r) answer → IsFound s (which_of (whole_record (set_of s) r (number_of s))) answer
unfolding whole_record
whole_which s r answer is = is Endless

pub found_index : (s : StructSchema) (o : Option ℕ) (f : Field) → IsFound s o (Some f) → o ≡ Some (index_of f)
found_index s None f a = absurd a
found_index s (Some i) f a = ap Some (sym a.index)

pub found_none : (s : StructSchema) (o : Option ℕ) → IsFound s o None → o ≡ None
found_none s None a = refl
found_none s (Some i) a = absurd a

own_index : (s : StructSchema) (o : Option ℕ) (f : Field) → IsFound s o (Some f) → IsFieldOf s (index_of f) f
own_index s None f a = absurd a
own_index s (Some i) f a = subst (λ j. IsFieldOf s j f) (sym a.index) a

pub member_found : (s : StructSchema) (r : StructReader) (f : Field) → IsActiveMember s (struct_of r) (Some f) → IsFieldOf s (index_of f) f
member_found s r f is = own_index s (which_of (whole_record (set_of s) r (number_of s))) f (whole_which s r (Some f) is)

pub member_active : (s : StructSchema) (r : StructReader) (f : Field) → IsActiveMember s (struct_of r) (Some f) → IsActiveIn (set_of s) r (number_of s) (index_of f)
member_active s r f is = active_in (set_of s) r (number_of s) (index_of f) (found_index s (which_of (whole_record (set_of s) r (number_of s))) f (whole_which s r (Some f) is))

not_not : (q : Bool) → not (not q) ≡ q
not_not true = refl
not_not false = refl

read_active : (set : Schemas) (s : StructTree) (b j : ℕ) → is_member (field_at set b j).field ≡ true → not (is_inactive (reads set s b) (field_at set b j).field j) ≡ is_active (union_held (reads set s b)) j
read_active set s b j member = ap (λ q. not (q && not (is_active (union_held (reads set s b)) j))) member ∙ not_not (is_active (union_held (reads set s b)) j)

-- whether a member is active, whatever levels are left
pub active_answer : (s : StructSchema) (h : StructHandle) (r : StructReader) (j : ℕ) → schema_of h ≡ s → reader_of h ≡ r → IsStruct s → j < length (struct_fields s) → is_member (struct_field s j).field ≡ true →
    not (is_inactive (record_seen h) (struct_field (schema_of h) j).field j) ≡ is_active (union_held (whole_record (set_of s) r (number_of s))) j
unfolding whole_record
active_answer s h r j is_schema is_reader stands inside member =
    ap₂ (λ (z : StructSchema) (x : StructReader). not (is_inactive (struct_record (set_of z) (Left (struct_levels x)) (struct_of x) (number_of z)) (struct_field z j).field j)) is_schema is_reader
    ∙ (sym (active_by_plan (set_of s) (Left (struct_levels r)) (struct_of r) stands.accepted (number_of s) j stands.number inside)
    ∙ (active_by_plan (set_of s) Endless (struct_of r) stands.accepted (number_of s) j stands.number inside
    ∙ read_active (set_of s) (struct_of r) (number_of s) j member))

-- ---- the changes of the union ----

module _ (set : Schemas) (b : ℕ) (path : List Step) (out found : List FoundChange) where
  at_unions : (r q : Record) (u w : Union) → union_held r ≡ u → union_held q ≡ w → Adds set path out found (union_changes set b u w) → IsUnionTold set b u w → IsUnionFound set b r q path out found
  at_unions r q u w e h adds told = record {
    adds = subst (λ x. Adds set path out found (union_changes set b x (union_held q))) (sym e) (subst (λ y. Adds set path out found (union_changes set b u y)) (sym h) adds);
    told = subst (λ x. IsUnionTold set b x (union_held q)) (sym e) (subst (λ y. IsUnionTold set b u y) (sym h) told);
  }

  either_first : (q : Bool) (P Q : Type 0) → q ≡ true → P → Either q P Q
  either_first true P Q e p = p
  either_first false P Q e p = absurd (true≢false (sym e))

  either_second : (q : Bool) (P Q : Type 0) → q ≡ false → Q → Either q P Q
  either_second true P Q e q = absurd (true≢false e)
  either_second false P Q e q = q

  union_told : (u : Union) (j : ℕ) (w : Value) → j < length (fields_of set b) → is_member (field_at set b j).field ≡ true →
      Either (is_active u j)
      (ByKind (field_at set b j).field.kind (IsTold set (field_at set b j).type (active_value u) w) (IsGroupTold set (field_at set b j).type (active_value u) w))
      (ByKind (field_at set b j).field.kind (CanStand (field_at set b j).type w) (IsSwitchTold set (field_at set b j).type w)) → IsUnionTold set b u (Active j w)
  union_told NoUnion j w inside member told = (inside, member, told)
  union_told (Active i v) j w inside member told = (inside, member, told)
  union_told (Unknown n) j w inside member told = (inside, member, told)

  module _ (old new : StructReader) (j : ℕ) (inside : j < length (fields_of set b)) (in_new : IsActiveIn set new b j) where
    abbrev f : TypedField
    f = field_at set b j

    abbrev v : Value
    v = whole_part set old f

    abbrev w : Value
    w = whole_part set new f

    -- the member is active on both sides
    pub union_kept : IsActiveIn set old b j → IsPartFound set f j v w path out found → IsUnionFound set b (whole_record set old b) (whole_record set new b) path out found
    union_kept in_old part = at_unions (whole_record set old b) (whole_record set new b) (Active j v) (Active j w) in_old.union in_new.union
        (subst (λ q. Adds set path out found (if_active q (value_changes set (FieldNumber j) f.type v w) (switch_changes set j f.type w))) (sym (eq-eqb j j refl)) part.adds)
        (union_told (Active j v) j w inside in_new.member
        (either_first (j == j) (ByKind f.field.kind (IsTold set f.type v w) (IsGroupTold set f.type v w)) (ByKind f.field.kind (CanStand f.type w) (IsSwitchTold set f.type w)) (eq-eqb j j refl) part.told))

    -- the member becomes active
    pub union_switched : is_active (union_held (whole_record set old b)) j ≡ false → IsSwitchFound set f j w path out found → IsUnionFound set b (whole_record set old b) (whole_record set new b) path out found
    union_switched inactive switch = at_unions (whole_record set old b) (whole_record set new b) u (Active j w) refl in_new.union
        (subst (λ q. Adds set path out found (if_active q (value_changes set (FieldNumber j) f.type (active_value u) w) (switch_changes set j f.type w))) (sym inactive) switch.adds)
        (union_told u j w inside in_new.member
        (either_second (is_active u j) (ByKind f.field.kind (IsTold set f.type (active_value u) w) (IsGroupTold set f.type (active_value u) w)) (ByKind f.field.kind (CanStand f.type w) (IsSwitchTold set f.type w)) inactive switch.told))
      where
        u : Union
        u = union_held (whole_record set old b)

-- ---- no member is active in the new struct ----

some_first : (count offset : ℕ) → (count == 0) ≡ false → first_bit count offset ≡ Some (16 * offset)
some_first zero offset e = absurd (true≢false e)
some_first (suc m) offset e = refl

record AreUnionsAlike (set : Schemas) (b : ℕ) (u w : Union) : Type 0 where
  same : Union
  first : u ≡ same
  second : w ≡ same
  none : union_changes set b same same ≡ []
  told : IsUnionTold set b same same

alike_reads : (set : Schemas) (x y : StructTree) (b : ℕ) → which_of (reads set y b) ≡ None →
    ((first : ℕ) → discriminant_of (node_of set b) ≡ Some first → bits_at x.bytes first 16 ≡ bits_at y.bytes first 16) →
    AreUnionsAlike set b (union_held (reads set x b)) (union_held (reads set y b))
alike_reads set x y b e alike = counted ((node_of set b).discriminant_count == 0) refl
  where
    counted : (q : Bool) → ((node_of set b).discriminant_count == 0) ≡ q → AreUnionsAlike set b (union_held (reads set x b)) (union_held (reads set y b))
    counted true z = record {
      same = NoUnion;
      first = chosen_first ((node_of set b).discriminant_count == 0) NoUnion (listed set x b) z;
      second = chosen_first ((node_of set b).discriminant_count == 0) NoUnion (listed set y b) z;
      none = refl;
      told = tt;
    }
    counted false z =
        let same_number : number set x b ≡ number set y b =
        alike (16 * (node_of set b).discriminant_offset) (some_first (node_of set b).discriminant_count (node_of set b).discriminant_offset z) in
        let in_new : union set y b ≡ listed set y b = second_of ((node_of set b).discriminant_count == 0) NoUnion (listed set y b) z in
        let in_old : union set x b ≡ listed set x b = second_of ((node_of set b).discriminant_count == 0) NoUnion (listed set x b) z in
        let both = unknown_both (part set y b) (part set x b) (vs set y b) (number set y b) (fields_of set b) 0 (sym (ap (λ u. which_of (Parts (vs set y b) u)) in_new) ∙ e) in
        record {
          same = Unknown (number set y b);
          first = in_old ∙ (ap (active_among (part set x b) (fields_of set b) 0) same_number ∙ both.1);
          second = in_new ∙ both.0;
          none = refl;
          told = refl;
        }

whole_alike : (s : StructSchema) (old new : StructReader) → which_of (whole_record (set_of s) new (number_of s)) ≡ None → HaveOneNumber s old new →
    AreUnionsAlike (set_of s) (number_of s) (union_held (whole_record (set_of s) old (number_of s))) (union_held (whole_record (set_of s) new (number_of s)))
unfolding whole_record
whole_alike s old new e alike = alike_reads (set_of s) (struct_of old) (struct_of new) (number_of s) e alike

pub union_left : (s : StructSchema) (old new : StructReader) (path : List Step) (out : List FoundChange) → IsActiveMember s (struct_of new) None → HaveOneNumber s old new →
    IsUnionFound (set_of s) (number_of s) (whole_record (set_of s) old (number_of s)) (whole_record (set_of s) new (number_of s)) path out out
union_left s old new path out is alike =
    let both = whole_alike s old new (found_none s (which_of (whole_record (set_of s) new (number_of s))) (whole_which s new None is)) alike in
    at_unions (set_of s) (number_of s) path out out (whole_record (set_of s) old (number_of s)) (whole_record (set_of s) new (number_of s)) both.same both.same both.first both.second
    (subst (Adds (set_of s) path out out) (sym both.none) (adds_none (set_of s) path out)) both.told

-- the same numbers
pub one_number : (s : StructSchema) (old new : StructReader) (first : ℕ) → Some first ≡ discriminant_of (struct_node s) → bits_at (struct_of old).bytes first 16 ≡ bits_at (struct_of new).bytes first 16 → HaveOneNumber s old new
one_number s old new first is same at e = subst (λ n. bits_at (struct_of old).bytes n 16 ≡ bits_at (struct_of new).bytes n 16) (some_same (is ∙ e)) same

pub no_number : (s : StructSchema) (old new : StructReader) → None ≡ discriminant_of (struct_node s) → HaveOneNumber s old new
no_number s old new is at e = absurd (none_some (is ∙ e))

-- ---- a member by its handle ----

pub part_in : (s : StructSchema) (f : Field) (old new : StructReader) (path : List Step) (out found : List FoundChange) → field_schema f ≡ s →
    IsPartFound (set_of (field_schema f)) (typed_of f) (index_of f) (whole_part (set_of (field_schema f)) old (typed_of f)) (whole_part (set_of (field_schema f)) new (typed_of f)) path out found →
    IsPartFound (set_of s) (struct_field s (index_of f)) (index_of f) (whole_part (set_of s) old (struct_field s (index_of f))) (whole_part (set_of s) new (struct_field s (index_of f))) path out found
part_in s f old new path out found is part =
    subst (λ (z : StructSchema). IsPartFound (set_of z) (struct_field z (index_of f)) (index_of f) (whole_part (set_of z) old (struct_field z (index_of f))) (whole_part (set_of z) new (struct_field z (index_of f))) path out found) is part

pub switch_in : (s : StructSchema) (f : Field) (new : StructReader) (path : List Step) (out found : List FoundChange) → field_schema f ≡ s →
    IsSwitchFound (set_of (field_schema f)) (typed_of f) (index_of f) (whole_part (set_of (field_schema f)) new (typed_of f)) path out found →
    IsSwitchFound (set_of s) (struct_field s (index_of f)) (index_of f) (whole_part (set_of s) new (struct_field s (index_of f))) path out found
switch_in s f new path out found is switch =
    subst (λ (z : StructSchema). IsSwitchFound (set_of z) (struct_field z (index_of f)) (index_of f) (whole_part (set_of z) new (struct_field z (index_of f))) path out found) is switch
