-- The changes from an old record to a new one lead from the one to the other.
use Rattle.std.specs.Prelude.{⊤}
use Rattle.std.proofs.Common.{ℕ, suc, ◌<◌, ◌≡◌, inl, inr, refl, List, [], ◌∷◌, length, Bool, true, false, not, ◌==◌, ◌&&◌, arith, ap, ap₂, sym, ◌∙◌, subst}
use Rattle.std.proofs.lemmas.Bool.{eqb-true}
use Rattle.capnp_schema.specs.Types.{ListType, SchemaType, StructType, is_pointer}
use Rattle.capnp_schema.specs.Schema.{FieldKind, Group, Schemas, Slot, TypedField, brand_at, field_at, fields_of, is_member}
use Rattle.capnp_records.specs.Call.{ElementAt, FieldNumber, PathStep}
use Rattle.capnp_records.specs.Default.{default_record}
use Rattle.capnp_records.specs.Part.{active_value, is_active, is_inactive, nth_value, part_at, value_count, with_part, with_value}
use Rattle.capnp_records.specs.Record as value
use Rattle.capnp_records.specs.Record.{Active, Endless, Left, MoreValues, NoUnion, NoValues, Parts, Record, Union, Unknown, Value, Values}
use Rattle.capnp_records.specs.Step.{is_group_field}
use Rattle.capnp_diffs.specs.Changes.{AreElsewhere, AreFieldsTold, ByKind, CanStand, Change, Clears, Either, IsGroupTold, IsRecordTold, IsRowTold, IsSwitchTold, IsTold, IsUnionTold, OnlyIf, Puts, all_behind, field_changes, if_active, list_changes, record_changes, row_changes, same_leaf, switch_changes, union_changes, unless_same, value_changes, whole_change}
use Rattle.capnp_diffs.specs.Laws.{CallsMakeNew, EqualNeedNone, NoneMeansEqual}
use Rattle.capnp_diffs.proofs.Equal.{elsewhere_same, nothing_elsewhere, record_none, record_same, row_same, same_leaf_is}
use Rattle.capnp_diffs.proofs.Leads.{Leads, leads_both, leads_from, leads_nest, leads_one, run_leads}
use Rattle.capnp_diffs.proofs.Walked.{HasPlace, IsSolid, IsWalked, Makes, Nest, clears, element_nest, field_nest, inits, part_member, part_plain, put_same, puts, whole_solid, with_member, with_plain, wrap}

-- ---- values in a row, of which the first are done ----

abbrev joined : Values → Values → Values
joined NoValues vs = vs
joined (MoreValues d ds) vs = MoreValues d (joined ds vs)

abbrev with_last : Values → Value → Values
with_last NoValues w = MoreValues w NoValues
with_last (MoreValues d ds) w = MoreValues d (with_last ds w)

joined_last : (ds : Values) (w : Value) (vs : Values) → joined (with_last ds w) vs ≡ joined ds (MoreValues w vs)
joined_last NoValues w vs = refl
joined_last (MoreValues d ds) w vs = ap (MoreValues d) (joined_last ds w vs)

count_last : (ds : Values) (w : Value) → value_count (with_last ds w) ≡ suc (value_count ds)
count_last NoValues w = refl
count_last (MoreValues d ds) w = ap suc (count_last ds w)

nth_joined : (ds : Values) (v : Value) (vs : Values) → nth_value (joined ds (MoreValues v vs)) (value_count ds) ≡ v
nth_joined NoValues v vs = refl
nth_joined (MoreValues d ds) v vs = nth_joined ds v vs

put_joined : (ds : Values) (v w : Value) (vs : Values) → with_value (joined ds (MoreValues v vs)) (value_count ds) w ≡ joined ds (MoreValues w vs)
put_joined NoValues v w vs = refl
put_joined (MoreValues d ds) v w vs = ap (MoreValues d) (put_joined ds v w vs)

inside_joined : (ds : Values) (v : Value) (vs : Values) → value_count ds < value_count (joined ds (MoreValues v vs))
inside_joined NoValues v vs = omega arith
inside_joined (MoreValues d ds) v vs = let h = inside_joined ds v vs in omega (arith, h)

-- ---- a place in a struct ----

-- what can be done there a slot
record CanPut (set : Schemas) (s : SchemaType) (step : PathStep) (t : SchemaType) (here : Value) (put : Value → Value) : Type 0 where
  solid : (w : Value) → IsSolid (put w)
  puts : (w : Value) → Makes set s here (record { path = []; last = step; goal = Puts t w }) (put w)
  clears : is_pointer t ≡ true → Makes set s here (record { path = []; last = step; goal = Clears }) (put (value.Missing Endless))

-- a value stands there, and can be gone into
record Stands (set : Schemas) (s : SchemaType) (step : PathStep) (t : SchemaType) (v here : Value) (put : Value → Value) : Type 0 where
  here_is : put v ≡ here
  nest : IsWalked t → Nest set s t step put

module _ (set : Schemas) (s : SchemaType) (step : PathStep) (t : SchemaType) (here : Value) (put : Value → Value) where
  -- a whole value is put, or what is missing is cleared
  whole_makes : (w : Value) → CanPut set s step t here put → CanStand t w → Makes set s here (whole_change step t w) (put w)
  whole_makes (value.Fault kind) can stands = absurd stands
  whole_makes (value.Group r) can stands = absurd stands
  whole_makes (value.Untyped x) can stands = absurd stands
  whole_makes (value.Missing Endless) can stands = can.clears stands
  whole_makes (value.Missing (Left n)) can stands = absurd stands
  whole_makes w can stands = can.puts w

  whole_leads : (w : Value) → CanPut set s step t here put → CanStand t w → Leads set s here (whole_change step t w ∷ []) (put w)
  whole_leads w can stands = leads_one set s here (put w) (whole_change step t w) (can.solid w) (whole_makes w can stands)

  leaf_leads : (v w : Value) (q : Bool) → same_leaf v w ≡ q → Stands set s step t v here put → CanPut set s step t here put → OnlyIf (not q) (CanStand t w) → Leads set s here (unless_same q (whole_change step t w)) (put w)
  leaf_leads v w true e there can stands = sym there.here_is ∙ ap put (same_leaf_is v w e)
  leaf_leads v w false e there can stands = whole_leads w can stands

abbrev IsNoStruct : SchemaType → Type 0
IsNoStruct (StructType b g) = ⊥
IsNoStruct t = ⊤

-- a list whose elements are no structs is put whole where it differs
list_leads : (set : Schemas) (s : SchemaType) (step : PathStep) (e : SchemaType) (here : Value) (put : Value → Value) (vs ws : Values) (q : Bool) (cs : List Change) → IsNoStruct e →
    Stands set s step (ListType e) (value.Elements vs) here put → CanPut set s step (ListType e) here put → (q ≡ true → cs ≡ [] → vs ≡ ws) → Leads set s here (list_changes step e ws q cs) (put (value.Elements ws))
list_leads set s step (StructType b g) here put vs ws q cs bare there can same = absurd bare
list_leads set s step e here put vs ws true [] bare there can same = sym there.here_is ∙ ap (λ xs. put (value.Elements xs)) (same refl refl)
list_leads set s step e here put vs ws true (c ∷ cs) bare there can same = whole_leads set s step (ListType e) here put (value.Elements ws) can tt
list_leads set s step e here put vs ws false cs bare there can same = whole_leads set s step (ListType e) here put (value.Elements ws) can tt

-- a list of structs is gone into where the lengths are the same
structs_lead : (set : Schemas) (s : SchemaType) (step : PathStep) (b g : ℕ) (here : Value) (put : Value → Value) (ws : Values) (q : Bool) (cs : List Change) →
    CanPut set s step (ListType (StructType b g)) here put → (q ≡ true → Leads set s here (all_behind step cs) (put (value.Elements ws))) → Leads set s here (list_changes step (StructType b g) ws q cs) (put (value.Elements ws))
structs_lead set s step b g here put ws true cs can inner = inner refl
structs_lead set s step b g here put ws false cs can inner = whole_leads set s step (ListType (StructType b g)) here put (value.Elements ws) can tt

by_kind_is : {S G : Type 0} {R : Type 0} (k : FieldKind) → (is_group_field k ≡ false → S → R) → (is_group_field k ≡ true → G → R) → ByKind k S G → R
by_kind_is (Slot offset d) slot group told = slot refl told
by_kind_is (Group node) slot group told = group refl told

by_member_is : {M F : Type 0} {R : Type 0} (q : Bool) → (q ≡ true → M → R) → (q ≡ false → F → R) → Either q M F → R
by_member_is true m f told = m refl told
by_member_is false m f told = f refl told

-- ---- a field of a record ----

module _ (set : Schemas) (b g : ℕ) (k : Bool) (r : Record) (i : ℕ) where
  abbrev f : TypedField
  f = field_at set b i

  abbrev put_in : Value → Value
  put_in w = wrap k (with_part r f.field i w)

  field_can : i < length (fields_of set b) → is_group_field f.field.kind ≡ false → CanPut set (StructType b g) (FieldNumber i) f.type (wrap k r) put_in
  field_can inside slot = record {
    solid = λ w. whole_solid set b g i k (with_part r f.field i w);
    puts = λ w. puts set b g i k r inside w slot;
    clears = λ pointer. clears set b g i k r inside slot pointer;
  }

  field_stands : (v : Value) → i < length (fields_of set b) → HasPlace r f.field i → is_inactive r f.field i ≡ false → part_at r f.field i ≡ v → Stands set (StructType b g) (FieldNumber i) f.type v (wrap k r) put_in
  field_stands v inside place active part = record {
    here_is = ap (wrap k) (put_same f.field i r v active part);
    nest = λ walked. field_nest set b g i k r f.type refl inside place walked;
  }

  plain_active : is_member f.field ≡ false → is_inactive r f.field i ≡ false
  plain_active plain = inactive_plain r plain
    where
      inactive_plain : (q : Record) → is_member f.field ≡ false → is_inactive q f.field i ≡ false
      inactive_plain (Parts vs u) e = ap (λ a. a && not (is_active u i)) e

-- a field among those in a row
module _ (set : Schemas) (b g : ℕ) (k : Bool) (ds : Values) (v w : Value) (vs : Values) (u : Union) where
  abbrev row : Record
  row = Parts (joined ds (MoreValues v vs)) u

  abbrev at : TypedField
  at = field_at set b (value_count ds)

  abbrev next : Value
  next = wrap k (Parts (joined (with_last ds w) vs) u)

  plain_leads : (cs : List Change) → is_member at.field ≡ false → Leads set (StructType b g) (wrap k row) cs (wrap k (with_part row at.field (value_count ds) w)) → Leads set (StructType b g) (wrap k row) cs next
  plain_leads cs plain leads =
      subst (λ x. Leads set (StructType b g) (wrap k row) cs x)
      (ap (wrap k) (with_plain at.field (value_count ds) (joined ds (MoreValues v vs)) u w plain ∙ ap (λ xs. Parts xs u) (put_joined ds v w vs ∙ sym (joined_last ds w vs)))) leads

  plain_stands : (value_count ds < length (fields_of set b)) → is_member at.field ≡ false → Stands set (StructType b g) (FieldNumber (value_count ds)) at.type v (wrap k row) (λ x. wrap k (with_part row at.field (value_count ds) x))
  plain_stands inside plain =
      field_stands set b g k row (value_count ds) v inside (inr (plain, inside_joined ds v vs)) (plain_active set b g k row (value_count ds) plain)
      (part_plain at.field (value_count ds) (joined ds (MoreValues v vs)) u plain ∙ nth_joined ds v vs)

  elsewhere_leads : AreElsewhere v w → Leads set (StructType b g) (wrap k row) (value_changes set (FieldNumber (value_count ds)) at.type v w) next
  elsewhere_leads both =
      subst (λ cs. Leads set (StructType b g) (wrap k row) cs next) (sym (elsewhere_changes v w both))
      (ap (λ xs. wrap k (Parts xs u)) (ap (λ x. joined ds (MoreValues x vs)) (elsewhere_same v w both) ∙ sym (joined_last ds w vs)))
    where
      elsewhere_changes : (x y : Value) → AreElsewhere x y → value_changes set (FieldNumber (value_count ds)) at.type x y ≡ []
      elsewhere_changes value.Elsewhere value.Elsewhere is = nothing_elsewhere set at.type (FieldNumber (value_count ds))
      elsewhere_changes x y is = absurd is

-- a member of a union
module _ (set : Schemas) (b g : ℕ) (k : Bool) (ws : Values) (u : Union) (j : ℕ) (w : Value) where
  abbrev member_of : TypedField
  member_of = field_at set b j

  member_leads : (cs : List Change) → is_member member_of.field ≡ true → Leads set (StructType b g) (wrap k (Parts ws u)) cs (wrap k (with_part (Parts ws u) member_of.field j w)) →
      Leads set (StructType b g) (wrap k (Parts ws u)) cs (wrap k (Parts ws (Active j w)))
  member_leads cs member leads = subst (λ x. Leads set (StructType b g) (wrap k (Parts ws u)) cs x) (ap (wrap k) (with_member member_of.field j ws u w member)) leads

  member_stands : j < length (fields_of set b) → is_member member_of.field ≡ true → is_active u j ≡ true →
      Stands set (StructType b g) (FieldNumber j) member_of.type (active_value u) (wrap k (Parts ws u)) (λ x. wrap k (with_part (Parts ws u) member_of.field j x))
  member_stands inside member active =
      field_stands set b g k (Parts ws u) j (active_value u) inside (inl member) (ap₂ (λ p q. p && not q) member active) (part_member member_of.field j ws u member)

  if_active_leads : (q : Bool) (kept switched : Type 0) (cs ds : List Change) (x y : Value) → (q ≡ true → kept → Leads set (StructType b g) x cs y) → (q ≡ false → switched → Leads set (StructType b g) x ds y) → Either q kept switched → Leads set (StructType b g) x (if_active q cs ds) y
  if_active_leads true kept switched cs ds x y keeps switches told = keeps refl told
  if_active_leads false kept switched cs ds x y keeps switches told = switches refl told

pub switch_whole : (set : Schemas) (j : ℕ) (t : SchemaType) (w : Value) → CanStand t w → switch_changes set j t w ≡ (whole_change (FieldNumber j) t w ∷ [])
switch_whole set j (StructType b g) (value.Group q) stands = absurd stands
switch_whole set j t w stands = refl

switch_leads : (set : Schemas) (w : Value) (r : Record) (b g : ℕ) (k : Bool) (j : ℕ) → j < length (fields_of set b) →
    (is_group_field (field_at set b j).field.kind ≡ true → IsSwitchTold set (field_at set b j).type w → Leads set (StructType b g) (wrap k r) (switch_changes set j (field_at set b j).type w) (wrap k (with_part r (field_at set b j).field j w))) →
    ByKind (field_at set b j).field.kind (CanStand (field_at set b j).type w) (IsSwitchTold set (field_at set b j).type w) →
    Leads set (StructType b g) (wrap k r) (switch_changes set j (field_at set b j).type w) (wrap k (with_part r (field_at set b j).field j w))
switch_leads set w r b g k j inside grouped told = by_kind_is (field_at set b j).field.kind
    (λ slot leaf. subst (λ cs. Leads set (StructType b g) (wrap k r) cs (wrap k (with_part r (field_at set b j).field j w))) (sym (switch_whole set j (field_at set b j).type w leaf))
    (whole_leads set (StructType b g) (FieldNumber j) (field_at set b j).type (wrap k r) (λ x. wrap k (with_part r (field_at set b j).field j x)) w (field_can set b g k r j inside slot) leaf))
    grouped told

module _ (set : Schemas) where
  mutual
    -- the changes of a slot, gone into or put whole
    told_leads : (t : SchemaType) (v w : Value) (s : SchemaType) (step : PathStep) (here : Value) (put : Value → Value) → Stands set s step t v here put → CanPut set s step t here put → IsTold set t v w → Leads set s here (value_changes set step t v w) (put w)
    told_leads (StructType b g) (value.Struct r) (value.Struct q) s step here put there can told =
        leads_from set s (put (value.Struct r)) here (put (value.Struct q)) (put (value.Struct q)) (all_behind step (record_changes set b r q)) there.here_is refl
        (leads_nest set s (StructType b g) step put (there.nest tt) (record_changes set b r q) (value.Struct r) (value.Struct q) tt (record_leads q r b g true told))
    told_leads (ListType (StructType b g)) (value.Elements vs) (value.Elements ws) s step here put there can told =
        structs_lead set s step b g here put ws (value_count vs == value_count ws) (row_changes set (StructType b g) 0 vs ws) can
        (λ count. leads_from set s (put (value.Elements vs)) here (put (value.Elements ws)) (put (value.Elements ws)) (all_behind step (row_changes set (StructType b g) 0 vs ws)) there.here_is refl
        (leads_nest set s (ListType (StructType b g)) step put (there.nest tt) (row_changes set (StructType b g) 0 vs ws) (value.Elements vs) (value.Elements ws) tt
        (row_leads vs ws NoValues b g (eqb-true _ _ count) (subst (λ q. OnlyIf q (IsRowTold set (StructType b g) vs ws)) count told))))
    told_leads (ListType e) (value.Elements vs) (value.Elements ws) s step here put there can told =
        list_leads set s step e here put vs ws (value_count vs == value_count ws) (row_changes set e 0 vs ws) tt there can
        (λ count none. row_same set ws vs e 0 (eqb-true _ _ count) (subst (λ q. OnlyIf q (IsRowTold set e vs ws)) count told) none)
    told_leads (StructType b g) (value.Group r) (value.Group q) s step here put there can told = absurd told.0
    told_leads t v w s step here put there can told = leaf_leads set s step t here put v w (same_leaf v w) refl there can told.1

    -- the changes of a group
    group_leads : (t : SchemaType) (v w : Value) (s : SchemaType) (step : PathStep) (here : Value) (put : Value → Value) → Stands set s step t v here put → IsGroupTold set t v w → Leads set s here (value_changes set step t v w) (put w)
    group_leads (StructType b g) (value.Group r) (value.Group q) s step here put there told =
        leads_from set s (put (value.Group r)) here (put (value.Group q)) (put (value.Group q)) (all_behind step (record_changes set b r q)) there.here_is refl
        (leads_nest set s (StructType b g) step put (there.nest tt) (record_changes set b r q) (value.Group r) (value.Group q) tt (record_leads q r b g false told))
    group_leads t v w s step here put there told = absurd told

    row_leads : (vs ws ds : Values) (b g : ℕ) → value_count vs ≡ value_count ws → IsRowTold set (StructType b g) vs ws →
        Leads set (ListType (StructType b g)) (value.Elements (joined ds vs)) (row_changes set (StructType b g) (value_count ds) vs ws) (value.Elements (joined ds ws))
    row_leads NoValues NoValues ds b g count told = refl
    row_leads (MoreValues v vs) NoValues ds b g count told = absurd (omega (arith, count))
    row_leads NoValues (MoreValues w ws) ds b g count told = absurd (omega (arith, count))
    row_leads (MoreValues (value.Struct r) vs) (MoreValues (value.Struct q) ws) ds b g count told =
        let here : value.Elements (with_value (joined ds (MoreValues (value.Struct r) vs)) (value_count ds) (value.Struct r)) ≡ value.Elements (joined ds (MoreValues (value.Struct r) vs)) = ap value.Elements (put_joined ds (value.Struct r) (value.Struct r) vs) in
        let next : value.Elements (with_value (joined ds (MoreValues (value.Struct r) vs)) (value_count ds) (value.Struct q)) ≡ value.Elements (joined (with_last ds (value.Struct q)) vs) =
        ap value.Elements (put_joined ds (value.Struct r) (value.Struct q) vs ∙ sym (joined_last ds (value.Struct q) vs)) in
        leads_both set (ListType (StructType b g)) _ (value.Elements (joined (with_last ds (value.Struct q)) vs)) _ _ _
        (leads_from set (ListType (StructType b g)) _ _ _ _ _ here next
        (leads_nest set (ListType (StructType b g)) (StructType b g) (ElementAt (value_count ds)) (λ p. value.Elements (with_value (joined ds (MoreValues (value.Struct r) vs)) (value_count ds) p))
        (element_nest set b g (value_count ds) (joined ds (MoreValues (value.Struct r) vs)) (inside_joined ds (value.Struct r) vs))
        (record_changes set b r q) (value.Struct r) (value.Struct q) tt (record_leads q r b g true told.1)))
        (subst (λ xs. Leads set (ListType (StructType b g)) (value.Elements (joined (with_last ds (value.Struct q)) vs)) (row_changes set (StructType b g) (suc (value_count ds)) vs ws) (value.Elements xs)) (joined_last ds (value.Struct q) ws)
        (subst (λ n. Leads set (ListType (StructType b g)) (value.Elements (joined (with_last ds (value.Struct q)) vs)) (row_changes set (StructType b g) n vs ws) (value.Elements (joined (with_last ds (value.Struct q)) ws))) (count_last ds (value.Struct q))
        (row_leads vs ws (with_last ds (value.Struct q)) b g (omega (arith, count)) told.2)))
    row_leads (MoreValues v vs) (MoreValues w ws) ds b g count told = absurd told.0

    fields_lead : (ws vs ds : Values) (u : Union) (b g : ℕ) (k : Bool) → AreFieldsTold set b (value_count ds) vs ws →
        Leads set (StructType b g) (wrap k (Parts (joined ds vs) u)) (field_changes set b (value_count ds) vs ws) (wrap k (Parts (joined ds ws) u))
    fields_lead NoValues NoValues ds u b g k told = refl
    fields_lead NoValues (MoreValues v vs) ds u b g k told = absurd told
    fields_lead (MoreValues w ws) NoValues ds u b g k told = absurd told
    fields_lead (MoreValues w ws) (MoreValues v vs) ds u b g k told =
        let i = value_count ds in
        let r : Record = Parts (joined ds (MoreValues v vs)) u in
        leads_both set (StructType b g) (wrap k r) (wrap k (Parts (joined (with_last ds w) vs) u)) (wrap k (Parts (joined ds (MoreValues w ws)) u)) (value_changes set (FieldNumber i) (field_at set b i).type v w) (field_changes set b (suc i) vs ws)
        (by_member_is (is_member (field_at set b i).field)
        (λ member both. elsewhere_leads set b g k ds v w vs u both)
        (λ plain is. by_kind_is (field_at set b i).field.kind
        (λ slot told_here. plain_leads set b g k ds v w vs u (value_changes set (FieldNumber i) (field_at set b i).type v w) plain
        (told_leads (field_at set b i).type v w (StructType b g) (FieldNumber i) (wrap k r) (λ x. wrap k (with_part r (field_at set b i).field i x)) (plain_stands set b g k ds v w vs u told.0 plain) (field_can set b g k r i told.0 slot) told_here))
        (λ group told_here. plain_leads set b g k ds v w vs u (value_changes set (FieldNumber i) (field_at set b i).type v w) plain
        (group_leads (field_at set b i).type v w (StructType b g) (FieldNumber i) (wrap k r) (λ x. wrap k (with_part r (field_at set b i).field i x)) (plain_stands set b g k ds v w vs u told.0 plain) told_here)) is)
        told.1)
        (subst (λ xs. Leads set (StructType b g) (wrap k (Parts (joined (with_last ds w) vs) u)) (field_changes set b (suc i) vs ws) (wrap k (Parts xs u))) (joined_last ds w ws)
        (subst (λ n. Leads set (StructType b g) (wrap k (Parts (joined (with_last ds w) vs) u)) (field_changes set b n vs ws) (wrap k (Parts (joined (with_last ds w) ws) u))) (count_last ds w)
        (fields_lead ws vs (with_last ds w) u b g k (subst (λ n. AreFieldsTold set b n vs ws) (sym (count_last ds w)) told.2))))

    -- a group that becomes active is made anew, and then gone into
    group_switch : (t : SchemaType) (w : Value) (r : Record) (b g : ℕ) (k : Bool) (j : ℕ) → (field_at set b j).type ≡ t → j < length (fields_of set b) → is_member (field_at set b j).field ≡ true → is_group_field (field_at set b j).field.kind ≡ true → IsSwitchTold set t w →
        Leads set (StructType b g) (wrap k r) (switch_changes set j t w) (wrap k (with_part r (field_at set b j).field j w))
    group_switch (StructType c h) (value.Group q) r b g k j is inside member group told = (
      wrap k (with_part r (field_at set b j).field j (value.Group (default_record set Endless c))),
      whole_solid set b g j k (with_part r (field_at set b j).field j (value.Group (default_record set Endless c))),
      inits set b g j k r inside c h is group,
      leads_nest set (StructType b g) (StructType c h) (FieldNumber j) (λ x. wrap k (with_part r (field_at set b j).field j x)) (field_nest set b g j k r (StructType c h) is inside (inl member) tt)
          (record_changes set c (default_record set Endless c) q) (value.Group (default_record set Endless c)) (value.Group q) tt (record_leads q (default_record set Endless c) c h false told),
    )
    group_switch t w r b g k j is inside member group told = absurd told

    union_leads : (w u : Union) (ws : Values) (b g : ℕ) (k : Bool) → IsUnionTold set b u w → Leads set (StructType b g) (wrap k (Parts ws u)) (union_changes set b u w) (wrap k (Parts ws w))
    union_leads NoUnion NoUnion ws b g k told = refl
    union_leads NoUnion (Active i v) ws b g k told = absurd told
    union_leads NoUnion (Unknown m) ws b g k told = absurd told
    union_leads (Unknown n) NoUnion ws b g k told = absurd told
    union_leads (Unknown n) (Active i v) ws b g k told = absurd told
    union_leads (Unknown n) (Unknown m) ws b g k told = ap (λ x. wrap k (Parts ws (Unknown x))) told
    union_leads (Active j w) NoUnion ws b g k told = member_leads set b g k ws NoUnion j w (switch_changes set j (field_at set b j).type w) told.1 (switch_leads set w (Parts ws NoUnion) b g k j told.0 (λ group ok. group_switch (field_at set b j).type w (Parts ws NoUnion) b g k j refl told.0 told.1 group ok) told.2)
    union_leads (Active j w) (Unknown m) ws b g k told = member_leads set b g k ws (Unknown m) j w (switch_changes set j (field_at set b j).type w) told.1 (switch_leads set w (Parts ws (Unknown m)) b g k j told.0 (λ group ok. group_switch (field_at set b j).type w (Parts ws (Unknown m)) b g k j refl told.0 told.1 group ok) told.2)
    union_leads (Active j w) (Active i v) ws b g k told =
        if_active_leads set b g k ws (Active i v) j w (j == i) _ _ _ _ _ _
        (λ active is. member_leads set b g k ws (Active i v) j w (value_changes set (FieldNumber j) (field_at set b j).type v w) told.1
        (by_kind_is (field_at set b j).field.kind
        (λ slot told_here. told_leads (field_at set b j).type v w (StructType b g) (FieldNumber j) (wrap k (Parts ws (Active i v))) (λ x. wrap k (with_part (Parts ws (Active i v)) (field_at set b j).field j x))
        (member_stands set b g k ws (Active i v) j w told.0 told.1 active) (field_can set b g k (Parts ws (Active i v)) j told.0 slot) told_here)
        (λ group told_here. group_leads (field_at set b j).type v w (StructType b g) (FieldNumber j) (wrap k (Parts ws (Active i v))) (λ x. wrap k (with_part (Parts ws (Active i v)) (field_at set b j).field j x))
        (member_stands set b g k ws (Active i v) j w told.0 told.1 active) told_here)
        is))
        (λ inactive is. member_leads set b g k ws (Active i v) j w (switch_changes set j (field_at set b j).type w) told.1 (switch_leads set w (Parts ws (Active i v)) b g k j told.0 (λ group ok. group_switch (field_at set b j).type w (Parts ws (Active i v)) b g k j refl told.0 told.1 group ok) is))
        told.2

    record_leads : (q r : Record) (b g : ℕ) (k : Bool) → IsRecordTold set b r q → Leads set (StructType b g) (wrap k r) (record_changes set b r q) (wrap k q)
    record_leads (Parts ws w) (Parts vs u) b g k told =
        leads_both set (StructType b g) (wrap k (Parts vs u)) (wrap k (Parts ws u)) (wrap k (Parts ws w)) (field_changes set b 0 vs ws) (union_changes set b u w)
        (fields_lead ws vs NoValues u b g k told.0) (union_leads w u ws b g k told.1)

-- ---- the laws ----

struct_same : {r q : Record} → value.Struct r ≡ value.Struct q → r ≡ q
struct_same e = cc

pub calls_make_new : CallsMakeNew
calls_make_new set b old new told calls are replies left run room =
    let (done, is) = run_leads set b (record_changes set b old new) old (value.Struct new) (record_leads set new old b (brand_at set b).node true told) calls are replies left run room in
    (done, struct_same is)

pub equal_need_none : EqualNeedNone
equal_need_none set b r told = record_none set r b told

pub none_means_equal : NoneMeansEqual
none_means_equal set b old new told none = record_same set new old b told none
