-- The calls of what is printed of a whole record make it of a new one.
use Rattle.std.specs.Prelude.{⊤}
use Rattle.std.proofs.Common.{ℕ, zero, suc, ◌+◌, ◌<◌, ◌≤◌, ◌≡◌, inl, inr, refl, List, [], ◌∷◌, ◌++◌, length, Bool, true, false, cond, not, ◌==◌, ◌||◌, None, Some, arith, ap, ap₂, sym, ◌∙◌, subst}
use Rattle.std.proofs.lemmas.Bool.{ne_eqb}
use Rattle.capnp_schema.specs.Query.{field_named, records_of}
use Rattle.capnp_schema.specs.Schema.{FieldKind, Group, Schemas, Slot, TypedField, field_at, fields_of, is_member}
use Rattle.capnp_schema.specs.Types.{AnyPointerType, BoolType, DataType, EnumType, IntType, ListType, SchemaType, StructType, TextType, UIntType, VoidType}
use Rattle.capnp_records.specs.Call.{Call, ElementAt, FieldNumber, Init, Initn, PathStep, Set}
use Rattle.capnp_records.specs.Default.{default_record}
use Rattle.capnp_records.specs.Operation.{new_element}
use Rattle.capnp_records.specs.Part.{value_count, with_part, with_value}
use Rattle.capnp_records.specs.Reading.{non_union_parts}
use Rattle.capnp_records.specs.Record as value
use Rattle.capnp_records.specs.Record.{Active, Endless, MoreValues, NoUnion, NoValues, Record, Union, Unknown, Value, Values, is_there, values_from}
use Rattle.capnp_records.specs.Step.{is_group_field}
use Rattle.capnp_records.specs.Text.{stands_before}
use Rattle.capnp_json_fields.specs.Marks.{is_float}
use Rattle.capnp_words.specs.Laws.{IsWritable, PrintedValuesAreRead}
use Rattle.capnp_words.specs.Marked.{FloatsAreReadBack}
use Rattle.capnp_diffs.proofs.Walked.{HasPlace, IsSolid, Nest, field_nest, with_member, with_plain, wrap}
use Rattle.capnp_value_texts.specs.Calls.{InList, InStruct, field_target, is_given, mark_of, most_parts, one_call, part_count, parts_calls, source_taken, value_calls}
use Rattle.capnp_value_texts.specs.Errors.{Read}
use Rattle.capnp_value_texts.specs.Written.{Fields, Items, NoPart, Part, Parts, Written}
use Rattle.capnp_value_laws.specs.Trees.{MemberPart, both_parts, member_behind, member_left, own_parts, part_if, part_later, parts_before, printed_elements, printed_fields, printed_member, printed_record, printed_value}
use Rattle.capnp_diffs.specs.Changes.{ByKind, Either}
use Rattle.capnp_value_laws.specs.Whole.{AreWhole, AreWholeFields, IsElsewhere, IsNoNan, IsWhole, IsWholeGroup, IsWholeRecord, IsWholeUnion}
use Rattle.capnp_value_laws.proofs.CallsLead.{CallsLead}
use Rattle.capnp_value_laws.proofs.LeavesMade.{leaf_brings, leaf_calls_are, target_at}
use Rattle.capnp_value_laws.proofs.NamesFound.{KnowsFields, same_number}
use Rattle.capnp_value_laws.proofs.NewRecords.{AreNew, fields_new, first_new, no_union_new, null_new, part, union}
use Rattle.capnp_value_laws.proofs.PartsMade.{IsFresh, IsMade, both_count, both_nothing, both_thrice, fresh_after, fresh_more, fresh_union, given_more, made_both, made_field, made_from, made_held}
use Rattle.capnp_value_laws.proofs.PlacesMade.{CanMake, IsLeafType, element_can, field_can, group_begins}

-- ---- values in a row, of which the first are done ----

abbrev joined : Values → Values → Values
joined NoValues vs = vs
joined (MoreValues d ds) vs = MoreValues d (joined ds vs)

abbrev with_last : Values → Value → Values
with_last NoValues w = MoreValues w NoValues
with_last (MoreValues d ds) w = MoreValues d (with_last ds w)

joined_last : (ds : Values) (w : Value) (vs : Values) → joined (with_last ds w) vs ≡ joined ds (MoreValues w vs)
joined_last NoValues w vs = refl
joined_last (MoreValues d ds) w vs = ap (MoreValues d) (joined_last ds w vs)

count_last : (ds : Values) (w : Value) → value_count (with_last ds w) ≡ suc (value_count ds)
count_last NoValues w = refl
count_last (MoreValues d ds) w = ap suc (count_last ds w)

put_joined : (ds : Values) (v w : Value) (vs : Values) → with_value (joined ds (MoreValues v vs)) (value_count ds) w ≡ joined ds (MoreValues w vs)
put_joined NoValues v w vs = refl
put_joined (MoreValues d ds) v w vs = ap (MoreValues d) (put_joined ds v w vs)

inside_joined : (ds : Values) (v : Value) (vs : Values) → value_count ds < value_count (joined ds (MoreValues v vs))
inside_joined NoValues v vs = omega arith
inside_joined (MoreValues d ds) v vs = let h = inside_joined ds v vs in omega (arith, h)

-- ---- cases ----

pub by_kind : {S G R : Type 0} (k : FieldKind) → (is_group_field k ≡ false → S → R) → (is_group_field k ≡ true → G → R) → ByKind k S G → R
by_kind (Slot offset d) slot group told = slot refl told
by_kind (Group node) slot group told = group refl told

by_test : {M F R : Type 0} (q : Bool) → (q ≡ true → M → R) → (q ≡ false → F → R) → Either q M F → R
by_test true m f told = m refl told
by_test false m f told = f refl told

-- what isn't shown of a member has discriminant value 0
none_shown : (there : Bool) (d : ℕ) → there || not (d == 0) ≡ false → d ≡ 0
none_shown true d e = let no : ⊥ = cc in absurd no
none_shown false d e = go (d == 0) refl e
  where
    go : (q : Bool) → q ≡ (d == 0) → not q ≡ false → d ≡ 0
    go true is h = same_number d 0 (sym is)
    go false is h = let no : ⊥ = cc in absurd no

elsewhere_is : (v : Value) → IsElsewhere v → v ≡ value.Elsewhere
elsewhere_is value.Elsewhere is = refl
elsewhere_is v is = absurd is

-- ---- how many parts ----

cond_count : (q : Bool) (j : ℕ) (ps : Parts) → part_count (cond q ps NoPart) + part_count (member_left (cond q None (Some (j, ps)))) ≤ part_count ps
cond_count true j ps = omega arith
cond_count false j ps = omega arith

member_count : (m : MemberPart) (i : ℕ) → part_count (parts_before m i) + part_count (member_left (part_later m i)) ≤ part_count (member_left m)
member_count None i = omega arith
member_count (Some (j, ps)) i = cond_count (stands_before (Some (j, [])) i) j ps

shown_count : (q : Bool) (name : List ℕ) (v : Written) → part_count (part_if q name v) ≤ 1
shown_count true name v = omega arith
shown_count false name v = omega arith

own_count : (q : Bool) (m : MemberPart) (i : ℕ) (own : Parts) → part_count own ≤ 1 → part_count (own_parts q m i own) + part_count (member_left (member_behind q m i)) ≤ suc (part_count (member_left m))
own_count true m i own few = omega arith
own_count false m i own few = let a = both_count (parts_before m i) own in let h = member_count m i in omega (arith, a, h, few)

module _ (set : Schemas) where
  fields_count : (vs : Values) (b i : ℕ) (m : MemberPart) → part_count (printed_fields set b i vs m) ≤ value_count vs + part_count (member_left m)
  fields_count NoValues b i m = omega arith
  fields_count (MoreValues v vs) b i m =
      let q = is_member (field_at set b i).field in
      let own = part_if (is_there v) (field_at set b i).field.name (printed_value set (is_float (field_at set b i)) (field_at set b i).type v) in
      let all = both_count (own_parts q m i own) (printed_fields set b (suc i) vs (member_behind q m i)) in
      let here = own_count q m i own (shown_count (is_there v) (field_at set b i).field.name (printed_value set (is_float (field_at set b i)) (field_at set b i).type v)) in
      let rest = fields_count vs b (suc i) (member_behind q m i) in
      omega (arith, all, here, rest)

  elements_count : (floats : Bool) (e : SchemaType) (vs : Values) → part_count (printed_elements set floats e vs) ≡ value_count vs
  elements_count floats e NoValues = refl
  elements_count floats e (MoreValues v vs) = ap suc (elements_count floats e vs)

  whole_count : (vs : Values) (levels b i : ℕ) → AreWholeFields set levels b i vs → i + value_count vs ≡ length (fields_of set b)
  whole_count NoValues levels b i whole = omega (arith, whole)
  whole_count (MoreValues v vs) levels b i whole = let h = whole_count vs levels b (suc i) whole.2 in omega (arith, h)

  union_count : (u : Union) (b : ℕ) → part_count (member_left (printed_member set b u)) ≤ 1
  union_count NoUnion b = omega arith
  union_count (Unknown n) b = omega arith
  union_count (Active i v) b =
      shown_count (is_there v || not ((field_at set b i).field.discriminant_value == 0)) (field_at set b i).field.name (printed_value set (is_float (field_at set b i)) (field_at set b i).type v)

  pub record_count : (r : Record) (levels b : ℕ) → IsWholeRecord set levels b r → length (fields_of set b) ≤ 65535 → part_count (printed_record set b r) ≤ most_parts
  record_count (value.Parts vs u) levels b whole few =
      let parts = fields_count vs b 0 (printed_member set b u) in
      let values = whole_count vs levels b 0 whole.0 in
      let member = union_count u b in
      omega (arith, parts, values, member, few)

-- ---- leaves ----

-- what has no brackets of its own
abbrev IsBare : Value → SchemaType → (levels : ℕ) → Type 0
IsBare (value.Struct r) (StructType b g) (suc levels) = ⊥
IsBare (value.Elements vs) (ListType e) (suc levels) = ⊥
IsBare v t levels = ⊤

bare_whole : (set : Schemas) (floats : Bool) (levels : ℕ) (t : SchemaType) (v : Value) → IsBare v t levels → IsWhole set floats levels t v → IsWritable set t v × IsNoNan floats t v
bare_whole set floats (suc levels) (StructType b g) (value.Struct r) bare whole = absurd bare
bare_whole set floats (suc levels) (ListType e) (value.Elements vs) bare whole = absurd bare
bare_whole set floats zero t value.Void bare whole = absurd whole
bare_whole set floats levels t v bare whole = (whole.0, whole.2)

-- what is no group
abbrev IsNoGroup : Value → SchemaType → (levels : ℕ) → Type 0
IsNoGroup (value.Group r) (StructType b g) (suc levels) = ⊥
IsNoGroup v t levels = ⊤

no_group : (set : Schemas) (levels : ℕ) (t : SchemaType) (v : Value) → IsNoGroup v t levels → IsWholeGroup set levels t v → ⊥
no_group set (suc levels) (StructType b g) (value.Group r) none whole = none
no_group set levels t v none whole = whole

writable_leaf : (set : Schemas) (t : SchemaType) (v : Value) → IsWritable set t v → IsLeafType t
writable_leaf set VoidType v w = tt
writable_leaf set BoolType v w = tt
writable_leaf set (IntType bytes) v w = tt
writable_leaf set (UIntType bytes) v w = tt
writable_leaf set (EnumType e) v w = tt
writable_leaf set TextType v w = tt
writable_leaf set DataType v w = tt
writable_leaf set (StructType b g) v w = absurd w
writable_leaf set (ListType e) v w = absurd w
writable_leaf set AnyPointerType v w = absurd w

made_leaf : PrintedValuesAreRead → FloatsAreReadBack → (set : Schemas) (v : Value) (t s : SchemaType) (step : PathStep) (floats stands : Bool) (here : Value) (put : Value → Value) → IsWritable set t v × IsNoNan floats t v
    → CanMake set s step t stands here put → IsMade set s here (value_calls set (printed_value set floats t v) (target_at step floats t stands)) (put v)
made_leaf read back set v t s step floats stands here put w can = record {
  calls = one_call step (Set (source_taken t v));
  read = leaf_calls_are read back set step floats stands t v w.0 w.1;
  leads = can.sets (writable_leaf set t v w.0) (source_taken t v) v (leaf_brings set t v w.0);
}

-- ---- a member that is still to come ----

-- the member has no part to come, or a part that makes it active, wherever it stands
abbrev IsPendingPart : Schemas → (b g : ℕ) → (k : Bool) → Parts → (j : ℕ) → (u w : Union) → (given : List ℕ) → Type 0
IsPendingPart set b g k NoPart j u w given = u ≡ w
IsPendingPart set b g k (Part place name v ps) j u w given =
    (ps ≡ NoPart) × (field_named (records_of set b) name ≡ Some j) × (is_member (field_at set b j).field ≡ true) × (is_given 65536 given ≡ false)
    × ((xs : Values) (x : Union) → IsMade set (StructType b g) (wrap k (value.Parts xs x)) (value_calls set v (field_target (field_at set b j) j)) (wrap k (value.Parts xs w)))

abbrev IsPending : Schemas → (b g : ℕ) → (k : Bool) → MemberPart → (u w : Union) → (given : List ℕ) → Type 0
IsPending set b g k None u w given = u ≡ w
IsPending set b g k (Some m) u w given = IsPendingPart set b g k m.1 m.0 u w given

module _ (set : Schemas) (b g : ℕ) (k : Bool) where
  abbrev s : SchemaType
  s = StructType b g

  abbrev calls_of : Parts → (index : ℕ) → (given : List ℕ) → Read (List Call)
  calls_of ps index given = parts_calls set ps (InStruct b) index given

  -- what is given of fields leaves it to come
  pending_more : (m : MemberPart) (u w : Union) (given : List ℕ) (i : ℕ) → i < 65536 → IsPending set b g k m u w given → IsPending set b g k m u w (given ++ i ∷ [])
  pending_more None u w given i small pending = pending
  pending_more (Some (j, NoPart)) u w given i small pending = pending
  pending_more (Some (j, Part place name v ps)) u w given i small pending =
      (pending.0, pending.1, pending.2, given_more 65536 i given pending.3 (unequal i small), pending.4)
    where
      unequal : (n : ℕ) → n < 65536 → (65536 == n) ≡ false
      unequal n h = ne_eqb 65536 n (λ e. omega (arith, e, h))

  module _ (xs : Values) (final : Value) (i : ℕ) (w : Union) (qs : Parts) where
    -- the part of the member, and what is behind it
    abbrev Behind : Type 0
    Behind = (index : ℕ) (given : List ℕ) → IsFresh i given → IsMade set s (wrap k (value.Parts xs w)) (calls_of qs index given) final

    part_first : (ps : Parts) (j : ℕ) (u : Union) (index : ℕ) (given : List ℕ) → IsPendingPart set b g k ps j u w given → IsFresh i given → Behind → IsMade set s (wrap k (value.Parts xs u)) (calls_of (both_parts ps qs) index given) final
    part_first NoPart j u index given pending fresh behind =
        made_from set s _ _ final final (calls_of qs index given) (calls_of qs index given) (ap (λ x. wrap k (value.Parts xs x)) (sym pending)) refl refl (behind index given fresh)
    part_first (Part place name v ps) j u index given pending fresh behind =
        made_field set b name j pending.1 s (wrap k (value.Parts xs u)) (wrap k (value.Parts xs w)) final index place given v (both_parts ps qs)
        (ap (λ n. is_given n given) mark ∙ pending.3) (pending.4 xs u)
        (made_from set s _ _ final final (calls_of qs (suc index) (given ++ 65536 ∷ [])) (calls_of (both_parts ps qs) (suc index) (given ++ mark_of (field_at set b j) j ∷ [])) refl refl
        (ap₂ (λ x n. calls_of (both_parts x qs) (suc index) (given ++ n ∷ [])) pending.0 mark)
        (behind (suc index) (given ++ 65536 ∷ []) (fresh_union i given fresh)))
      where
        mark : mark_of (field_at set b j) j ≡ 65536
        mark = ap (λ q. cond q 65536 j) pending.2

  -- the member stands before field i, or behind it
  before_made : (xs : Values) (final : Value) (i : ℕ) (w : Union) (qs : Parts) (m : MemberPart) (u : Union) (index : ℕ) (given : List ℕ) → IsPending set b g k m u w given → IsFresh i given →
      ((x : Union) (n : ℕ) (marks : List ℕ) → IsFresh i marks → IsPending set b g k (part_later m i) x w marks → IsMade set s (wrap k (value.Parts xs x)) (calls_of qs n marks) final) →
      IsMade set s (wrap k (value.Parts xs u)) (calls_of (both_parts (parts_before m i) qs) index given) final
  before_made xs final i w qs None u index given pending fresh behind = behind u index given fresh pending
  before_made xs final i w qs (Some (j, ps)) u index given pending fresh behind = go (stands_before (Some (j, [])) i) behind
    where
      go : (q : Bool) → ((x : Union) (n : ℕ) (marks : List ℕ) → IsFresh i marks → IsPending set b g k (cond q None (Some (j, ps))) x w marks → IsMade set s (wrap k (value.Parts xs x)) (calls_of qs n marks) final) →
          IsMade set s (wrap k (value.Parts xs u)) (calls_of (both_parts (cond q ps NoPart) qs) index given) final
      go true next = part_first xs final i w qs ps j u index given pending fresh (λ n marks h. next w n marks h refl)
      go false next = next u index given fresh pending

  -- behind the last field
  last_made : (xs : Values) (i : ℕ) (m : MemberPart) (u w : Union) (index : ℕ) (given : List ℕ) → IsPending set b g k m u w given → IsFresh i given → IsMade set s (wrap k (value.Parts xs u)) (calls_of (member_left m) index given) (wrap k (value.Parts xs w))
  last_made xs i None u w index given pending fresh = record { calls = []; read = refl; leads = ap (λ x. wrap k (value.Parts xs x)) pending }
  last_made xs i (Some (j, ps)) u w index given pending fresh =
      made_from set s _ _ _ _ (calls_of (both_parts ps NoPart) index given) (calls_of ps index given) refl refl (ap (λ x. calls_of x index given) (sym (both_nothing ps)))
      (part_first xs (wrap k (value.Parts xs w)) i w NoPart ps j u index given pending fresh (λ n marks h. record { calls = []; read = refl; leads = refl }))

  -- ---- a field among those in a row ----

  module _ (ds : Values) (v e : Value) (es vs : Values) where
    -- with its value, on to the next
    next_made : (u w : Union) (m : MemberPart) (index : ℕ) (given : List ℕ) →
        IsMade set s (wrap k (value.Parts (joined (with_last ds v) es) u)) (calls_of (printed_fields set b (value_count (with_last ds v)) vs m) index given) (wrap k (value.Parts (joined (with_last ds v) vs) w)) →
        IsMade set s (wrap k (value.Parts (joined ds (MoreValues v es)) u)) (calls_of (printed_fields set b (suc (value_count ds)) vs m) index given) (wrap k (value.Parts (joined ds (MoreValues v vs)) w))
    next_made u w m index given made =
        made_from set s _ _ _ _ (calls_of (printed_fields set b (value_count (with_last ds v)) vs m) index given) (calls_of (printed_fields set b (suc (value_count ds)) vs m) index given)
        (ap (λ xs. wrap k (value.Parts xs u)) (joined_last ds v es)) (ap (λ xs. wrap k (value.Parts xs w)) (joined_last ds v vs))
        (ap (λ n. calls_of (printed_fields set b n vs m) index given) (sym (count_last ds v))) made

    abbrev at : TypedField
    at = field_at set b (value_count ds)

    abbrev own : Parts
    own = part_if (is_there v) at.field.name (printed_value set (is_float at) at.type v)

    -- a member's place
    elsewhere_made : (u w : Union) (m : MemberPart) (index : ℕ) (given : List ℕ) → is_member at.field ≡ true → e ≡ v →
        IsMade set s (wrap k (value.Parts (joined (with_last ds v) es) u)) (calls_of (printed_fields set b (value_count (with_last ds v)) vs m) index given) (wrap k (value.Parts (joined (with_last ds v) vs) w)) →
        IsMade set s (wrap k (value.Parts (joined ds (MoreValues e es)) u)) (calls_of (printed_fields set b (value_count ds) (MoreValues v vs) m) index given) (wrap k (value.Parts (joined ds (MoreValues v vs)) w))
    elsewhere_made u w m index given member same made =
        made_from set s _ _ _ _ (calls_of (printed_fields set b (suc (value_count ds)) vs m) index given) (calls_of (printed_fields set b (value_count ds) (MoreValues v vs) m) index given)
        (ap (λ x. wrap k (value.Parts (joined ds (MoreValues x es)) u)) (sym same)) refl
        (ap (λ q. calls_of (both_parts (own_parts q m (value_count ds) own) (printed_fields set b (suc (value_count ds)) vs (member_behind q m (value_count ds)))) index given) member)
        (next_made u w m index given made)

    -- a field of its own, which is shown or null
    plain_made : (u w : Union) (m : MemberPart) (index : ℕ) (given : List ℕ) → is_member at.field ≡ false → IsPending set b g k m u w given → IsFresh (value_count ds) given →
        ((x : Union) (n : ℕ) (marks : List ℕ) → IsFresh (value_count ds) marks → IsPending set b g k (part_later m (value_count ds)) x w marks →
        IsMade set s (wrap k (value.Parts (joined ds (MoreValues e es)) x)) (calls_of (both_parts own (printed_fields set b (suc (value_count ds)) vs (part_later m (value_count ds)))) n marks) (wrap k (value.Parts (joined ds (MoreValues v vs)) w))) →
        IsMade set s (wrap k (value.Parts (joined ds (MoreValues e es)) u)) (calls_of (printed_fields set b (value_count ds) (MoreValues v vs) m) index given) (wrap k (value.Parts (joined ds (MoreValues v vs)) w))
    plain_made u w m index given plain pending fresh behind =
        let rest = printed_fields set b (suc (value_count ds)) vs (part_later m (value_count ds)) in
        made_from set s _ _ _ _ (calls_of (both_parts (parts_before m (value_count ds)) (both_parts own rest)) index given) (calls_of (printed_fields set b (value_count ds) (MoreValues v vs) m) index given) refl refl
        (ap (λ q. calls_of (both_parts (own_parts q m (value_count ds) own) (printed_fields set b (suc (value_count ds)) vs (member_behind q m (value_count ds)))) index given) plain
        ∙ ap (λ ps. calls_of ps index given) (both_thrice (parts_before m (value_count ds)) own rest))
        (before_made (joined ds (MoreValues e es)) (wrap k (value.Parts (joined ds (MoreValues v vs)) w)) (value_count ds) w (both_parts own rest) m u index given pending fresh behind)

    abbrev Rest : MemberPart → (x w : Union) → (n : ℕ) → (marks : List ℕ) → Type 0
    Rest m x w n marks = IsMade set s (wrap k (value.Parts (joined ds (MoreValues v es)) x)) (calls_of (printed_fields set b (suc (value_count ds)) vs m) n marks) (wrap k (value.Parts (joined ds (MoreValues v vs)) w))

    shown_made : (x w : Union) (m : MemberPart) (n : ℕ) (marks : List ℕ) → is_there v ≡ true → is_member at.field ≡ false → field_named (records_of set b) at.field.name ≡ Some (value_count ds) → is_given (value_count ds) marks ≡ false →
        IsMade set s (wrap k (value.Parts (joined ds (MoreValues e es)) x)) (value_calls set (printed_value set (is_float at) at.type v) (field_target at (value_count ds))) (wrap k (with_part (value.Parts (joined ds (MoreValues e es)) x) at.field (value_count ds) v)) →
        Rest m x w (suc n) (marks ++ value_count ds ∷ []) →
        IsMade set s (wrap k (value.Parts (joined ds (MoreValues e es)) x)) (calls_of (both_parts own (printed_fields set b (suc (value_count ds)) vs m)) n marks) (wrap k (value.Parts (joined ds (MoreValues v vs)) w))
    shown_made x w m n marks there plain found fresh made rest =
        made_from set s _ _ _ _ (calls_of (Part 0 at.field.name (printed_value set (is_float at) at.type v) (printed_fields set b (suc (value_count ds)) vs m)) n marks) (calls_of (both_parts own (printed_fields set b (suc (value_count ds)) vs m)) n marks) refl refl
        (ap (λ q. calls_of (both_parts (part_if q at.field.name (printed_value set (is_float at) at.type v)) (printed_fields set b (suc (value_count ds)) vs m)) n marks) there)
        (made_field set b at.field.name (value_count ds) found s _ (wrap k (value.Parts (joined ds (MoreValues v es)) x)) _ n 0 marks (printed_value set (is_float at) at.type v) (printed_fields set b (suc (value_count ds)) vs m)
        (ap (λ q. is_given q marks) mark ∙ fresh)
        (made_from set s _ _ _ _ (value_calls set (printed_value set (is_float at) at.type v) (field_target at (value_count ds))) (value_calls set (printed_value set (is_float at) at.type v) (field_target at (value_count ds))) refl
        (ap (wrap k) (with_plain at.field (value_count ds) (joined ds (MoreValues e es)) x v plain ∙ ap (λ xs. value.Parts xs x) (put_joined ds e v es))) refl made)
        (made_from set s _ _ _ _ (calls_of (printed_fields set b (suc (value_count ds)) vs m) (suc n) (marks ++ value_count ds ∷ [])) (calls_of (printed_fields set b (suc (value_count ds)) vs m) (suc n) (marks ++ mark_of at (value_count ds) ∷ [])) refl refl
        (ap (λ q. calls_of (printed_fields set b (suc (value_count ds)) vs m) (suc n) (marks ++ q ∷ [])) mark) rest))
      where
        mark : mark_of at (value_count ds) ≡ value_count ds
        mark = ap (λ q. cond q 65536 (value_count ds)) plain

    null_made : (x w : Union) (m : MemberPart) (n : ℕ) (marks : List ℕ) → is_there v ≡ false → e ≡ v → Rest m x w n marks →
        IsMade set s (wrap k (value.Parts (joined ds (MoreValues e es)) x)) (calls_of (both_parts own (printed_fields set b (suc (value_count ds)) vs m)) n marks) (wrap k (value.Parts (joined ds (MoreValues v vs)) w))
    null_made x w m n marks none same rest =
        made_from set s _ _ _ _ (calls_of (printed_fields set b (suc (value_count ds)) vs m) n marks) (calls_of (both_parts own (printed_fields set b (suc (value_count ds)) vs m)) n marks)
        (ap (λ y. wrap k (value.Parts (joined ds (MoreValues y es)) x)) (sym same)) refl
        (ap (λ q. calls_of (both_parts (part_if q at.field.name (printed_value set (is_float at) at.type v)) (printed_fields set b (suc (value_count ds)) vs m)) n marks) none) rest

-- ---- all ----

-- a struct or group is begun, and its fields are made
held_made : (set : Schemas) (s : SchemaType) (c h : ℕ) (k : Bool) (q : Record) (levels : ℕ) (step : PathStep) (floats stands : Bool) (here : Value) (put : Value → Value) → IsWholeRecord set levels c q → length (fields_of set c) ≤ 65535 →
    CallsLead set s here (cond stands [] (one_call step Init)) (put (wrap k (default_record set Endless c))) → Nest set s (StructType c h) step put →
    IsMade set (StructType c h) (wrap k (default_record set Endless c)) (parts_calls set (printed_record set c q) (InStruct c) 0 []) (wrap k q) →
    IsMade set s here (value_calls set (Fields 0 (printed_record set c q)) (target_at step floats (StructType c h) stands)) (put (wrap k q))
held_made set s c h k q levels step floats stands here put whole few begun nest made =
    made_held set s (StructType c h) step put here (wrap k (default_record set Endless c)) (wrap k q) 0 (part_count (printed_record set c q)) (cond stands [] (one_call step Init))
    (parts_calls set (printed_record set c q) (InStruct c) 0 []) (record_count set q levels c whole few) begun nest (wrap_solid k (default_record set Endless c)) made
  where
    wrap_solid : (k : Bool) (r : Record) → IsSolid (wrap k r)
    wrap_solid true r = tt
    wrap_solid false r = tt

-- a list is begun, and its elements are made
list_made : (set : Schemas) (s e : SchemaType) (vs : Values) (step : PathStep) (floats stands : Bool) (here : Value) (put : Value → Value) → value_count vs ≤ most_parts → CanMake set s step (ListType e) stands here put →
    IsMade set (ListType e) (value.Elements (values_from (λ _. new_element set e) 0 (value_count vs))) (parts_calls set (printed_elements set floats e vs) (InList e floats) 0 []) (value.Elements vs) →
    IsMade set s here (value_calls set (Items 0 (printed_elements set floats e vs)) (target_at step floats (ListType e) stands)) (put (value.Elements vs))
list_made set s e vs step floats stands here put few can made =
    let count = elements_count set floats e vs in
    made_held set s (ListType e) step put here (value.Elements (values_from (λ _. new_element set e) 0 (value_count vs))) (value.Elements vs) 0 (part_count (printed_elements set floats e vs))
    (one_call step (Initn (part_count (printed_elements set floats e vs)))) (parts_calls set (printed_elements set floats e vs) (InList e floats) 0 []) (subst (λ n. n ≤ most_parts) (sym count) few)
    (subst (λ n. CallsLead set s here (one_call step (Initn n)) (put (value.Elements (values_from (λ _. new_element set e) 0 (value_count vs))))) (sym count) (can.lists e (value_count vs) refl))
    (can.nest tt) tt made

module _ (read : PrintedValuesAreRead) (back : FloatsAreReadBack) (set : Schemas) (known : KnowsFields set) where
  mutual
    -- a value of a type, where a place takes it
    pub value_made : (v : Value) (t : SchemaType) (levels : ℕ) (s : SchemaType) (step : PathStep) (floats stands : Bool) (here : Value) (put : Value → Value) → IsWhole set floats levels t v → CanMake set s step t stands here put →
        IsMade set s here (value_calls set (printed_value set floats t v) (target_at step floats t stands)) (put v)
    value_made (value.Struct r) (StructType b g) (suc levels) s step floats stands here put whole can =
        held_made set s b g true r levels step floats stands here put whole (known.few b) (can.begins b g refl) (can.nest tt) (record_made r levels b g true whole)
    value_made (value.Elements vs) (ListType e) (suc levels) s step floats stands here put whole can =
        list_made set s e vs step floats stands here put whole.0 can (elements_made vs NoValues floats levels e 0 [] whole.1)
    value_made v t levels s step floats stands here put whole can = made_leaf read back set v t s step floats stands here put (bare_whole set floats levels t v tt whole) can

    -- a group, at its place in a record
    pub group_made : (v : Value) (t : SchemaType) (floats : Bool) (levels b g i : ℕ) (k : Bool) (r : Record) → (field_at set b i).type ≡ t → i < length (fields_of set b) → HasPlace r (field_at set b i).field i → is_group_field (field_at set b i).field.kind ≡ true →
        IsWholeGroup set levels t v → IsMade set (StructType b g) (wrap k r) (value_calls set (printed_value set floats t v) (target_at (FieldNumber i) floats t false)) (wrap k (with_part r (field_at set b i).field i v))
    group_made (value.Group q) (StructType c h) floats (suc levels) b g i k r is inside place group whole =
        held_made set (StructType b g) c h false q levels (FieldNumber i) floats false (wrap k r) (λ x. wrap k (with_part r (field_at set b i).field i x)) whole (known.few c)
        (group_begins set b g i k r inside c h is group) (field_nest set b g i k r (StructType c h) is inside place tt) (record_made q levels c h false whole)
    group_made v t floats levels b g i k r is inside place group whole = absurd (no_group set levels t v tt whole)

    elements_made : (vs ds : Values) (floats : Bool) (levels : ℕ) (e : SchemaType) (first : ℕ) (given : List ℕ) → AreWhole set floats levels e vs →
        IsMade set (ListType e) (value.Elements (joined ds (values_from (λ _. new_element set e) first (value_count vs)))) (parts_calls set (printed_elements set floats e vs) (InList e floats) (value_count ds) given) (value.Elements (joined ds vs))
    elements_made NoValues ds floats levels e first given whole = record { calls = []; read = refl; leads = refl }
    elements_made (MoreValues v vs) ds floats levels e first given whole =
        let new = new_element set e in
        let es = values_from (λ _. new_element set e) (suc first) (value_count vs) in
        let here : Values = joined ds (MoreValues new es) in
        made_both set (ListType e) (value.Elements here) (value.Elements (joined (with_last ds v) es)) (value.Elements (joined ds (MoreValues v vs)))
        (value_calls set (printed_value set floats e v) (target_at (ElementAt (value_count ds)) floats e true)) (parts_calls set (printed_elements set floats e vs) (InList e floats) (suc (value_count ds)) given)
        (made_from set (ListType e) _ _ _ _ (value_calls set (printed_value set floats e v) (target_at (ElementAt (value_count ds)) floats e true)) (value_calls set (printed_value set floats e v) (target_at (ElementAt (value_count ds)) floats e true)) refl
        (ap value.Elements (put_joined ds new v es ∙ sym (joined_last ds v es))) refl
        (value_made v e levels (ListType e) (ElementAt (value_count ds)) floats true (value.Elements here) (λ x. value.Elements (with_value here (value_count ds) x)) whole.0
        (element_can set e (value_count ds) here (inside_joined ds new es) (λ c h is. ap value.Elements (ap (λ x. joined ds (MoreValues x es)) (ap (new_element set) is) ∙ sym (put_joined ds new (value.Struct (default_record set Endless c)) es))))))
        (made_from set (ListType e) _ _ _ _ (parts_calls set (printed_elements set floats e vs) (InList e floats) (value_count (with_last ds v)) given) (parts_calls set (printed_elements set floats e vs) (InList e floats) (suc (value_count ds)) given) refl
        (ap value.Elements (joined_last ds v vs)) (ap (λ n. parts_calls set (printed_elements set floats e vs) (InList e floats) n given) (sym (count_last ds v)))
        (elements_made vs (with_last ds v) floats levels e (suc first) given whole.1))

    fields_made : (vs es ds : Values) (u w : Union) (m : MemberPart) (levels b g : ℕ) (k : Bool) (index : ℕ) (given : List ℕ) → AreWholeFields set levels b (value_count ds) vs → AreNew set b (value_count ds) es →
        IsPending set b g k m u w given → IsFresh (value_count ds) given →
        IsMade set (StructType b g) (wrap k (value.Parts (joined ds es) u)) (parts_calls set (printed_fields set b (value_count ds) vs m) (InStruct b) index given) (wrap k (value.Parts (joined ds vs) w))
    fields_made NoValues NoValues ds u w m levels b g k index given whole new pending fresh = last_made set b g k (joined ds NoValues) (value_count ds) m u w index given pending fresh
    fields_made NoValues (MoreValues e es) ds u w m levels b g k index given whole new pending fresh = absurd (let h = new.0 in omega (arith, whole, h))
    fields_made (MoreValues v vs) NoValues ds u w m levels b g k index given whole new pending fresh = absurd (let h = whole.0 in omega (arith, new, h))
    fields_made (MoreValues v vs) (MoreValues e es) ds u w m levels b g k index given whole new pending fresh =
        let i = value_count ds in
        let few_here = known.few b in
        let inside = whole.0 in
        let next : (x : Union) (rest : MemberPart) (n : ℕ) (marks : List ℕ) → IsPending set b g k rest x w marks → IsFresh (suc i) marks →
        IsMade set (StructType b g) (wrap k (value.Parts (joined (with_last ds v) es) x)) (parts_calls set (printed_fields set b (value_count (with_last ds v)) vs rest) (InStruct b) n marks) (wrap k (value.Parts (joined (with_last ds v) vs) w)) =
        λ x rest n marks comes free. fields_made vs es (with_last ds v) x w rest levels b g k n marks (subst (λ j. AreWholeFields set levels b j vs) (sym (count_last ds v)) whole.2)
        (subst (λ j. AreNew set b j es) (sym (count_last ds v)) new.3) comes (subst (λ j. IsFresh j marks) (sym (count_last ds v)) free) in
        by_test (is_member (field_at set b i).field)
        (λ member is. elsewhere_made set b g k ds v e es vs u w m index given member (new.1 member ∙ sym (elsewhere_is v is)) (next u m index given pending (fresh_after i given fresh)))
        (λ plain is. plain_made set b g k ds v e es vs u w m index given plain pending fresh (λ x n marks free comes.
        by_test (is_there v)
        (λ there has. shown_made set b g k ds v e es vs x w (part_later m i) n marks there plain (known.found b i inside) (free i (omega arith) (omega (arith, few_here, inside)))
        (by_kind (field_at set b i).field.kind
        (λ slot held. value_made v (field_at set b i).type levels (StructType b g) (FieldNumber i) (is_float (field_at set b i)) false (wrap k (value.Parts (joined ds (MoreValues e es)) x)) (λ y. wrap k (with_part (value.Parts (joined ds (MoreValues e es)) x) (field_at set b i).field i y)) held
        (field_can set b g i k (value.Parts (joined ds (MoreValues e es)) x) inside slot (inr (plain, inside_joined ds e es))))
        (λ group held. group_made v (field_at set b i).type (is_float (field_at set b i)) levels b g i k (value.Parts (joined ds (MoreValues e es)) x) refl inside (inr (plain, inside_joined ds e es)) group held)
        has.1)
        (next_made set b g k ds v e es vs x w (part_later m i) (suc n) (marks ++ i ∷ []) (next x (part_later m i) (suc n) (marks ++ i ∷ []) (pending_more set b g k (part_later m i) x w marks i (omega (arith, few_here, inside)) comes) (fresh_more i marks free))))
        (λ none null. null_made set b g k ds v e es vs x w (part_later m i) n marks none (null_new (field_at set b i).field.kind (field_at set b i).type v e null (new.2 plain))
        (next_made set b g k ds v e es vs x w (part_later m i) n marks (next x (part_later m i) n marks comes (fresh_after i marks free))))
        is))
        whole.1

    union_made : (w : Union) (levels b g : ℕ) (k : Bool) → IsWholeUnion set levels b w → IsPending set b g k (printed_member set b w) (union set b) w []
    union_made NoUnion levels b g k whole = no_union_new set b whole
    union_made (Unknown n) levels b g k whole = absurd whole
    union_made (Active i v) levels b g k whole =
        let f = field_at set b i in
        by_test (is_there v || not (f.field.discriminant_value == 0))
        (λ shown has. subst (λ q. IsPendingPart set b g k (part_if q f.field.name (printed_value set (is_float f) f.type v)) i (union set b) (Active i v) []) (sym shown) (
          refl,
          known.found b i whole.0,
          whole.1,
          refl,
          λ xs x.
              made_from set (StructType b g) _ _ _ _ (value_calls set (printed_value set (is_float f) f.type v) (field_target f i)) (value_calls set (printed_value set (is_float f) f.type v) (field_target f i)) refl
              (ap (wrap k) (with_member f.field i xs x v whole.1)) refl
              (by_kind f.field.kind
              (λ slot held. value_made v f.type levels (StructType b g) (FieldNumber i) (is_float f) false (wrap k (value.Parts xs x)) (λ y. wrap k (with_part (value.Parts xs x) f.field i y)) held (field_can set b g i k (value.Parts xs x) whole.0 slot (inl whole.1)))
              (λ group held. group_made v f.type (is_float f) levels b g i k (value.Parts xs x) refl whole.0 (inl whole.1) group held)
              has.1),
        ))
        (λ unshown has. subst (λ q. IsPendingPart set b g k (part_if q f.field.name (printed_value set (is_float f) f.type v)) i (union set b) (Active i v) []) (sym unshown) (first_new set b i v whole.0 has (known.counted b i whole.0 whole.1) (known.first b i whole.0 whole.1 (none_shown (is_there v) f.field.discriminant_value unshown))))
        whole.2

    pub record_made : (q : Record) (levels b g : ℕ) (k : Bool) → IsWholeRecord set levels b q →
        IsMade set (StructType b g) (wrap k (default_record set Endless b)) (parts_calls set (printed_record set b q) (InStruct b) 0 []) (wrap k q)
    record_made (value.Parts vs w) levels b g k whole =
        fields_made vs (non_union_parts (part set) (fields_of set b)) NoValues (union set b) w (printed_member set b w) levels b g k 0 [] whole.0 (fields_new set b) (union_made w levels b g k whole.1) (λ mark h small. refl)

  -- a value of a field, in any record with a place for it
  pub field_made : (v : Value) (levels b g i : ℕ) (k : Bool) (r : Record) → i < length (fields_of set b) → HasPlace r (field_at set b i).field i →
      ByKind (field_at set b i).field.kind (IsWhole set (is_float (field_at set b i)) levels (field_at set b i).type v) (IsWholeGroup set levels (field_at set b i).type v) →
      IsMade set (StructType b g) (wrap k r) (value_calls set (printed_value set (is_float (field_at set b i)) (field_at set b i).type v) (field_target (field_at set b i) i)) (wrap k (with_part r (field_at set b i).field i v))
  field_made v levels b g i k r inside place whole =
      by_kind (field_at set b i).field.kind
      (λ slot held. value_made v (field_at set b i).type levels (StructType b g) (FieldNumber i) (is_float (field_at set b i)) false (wrap k r) (λ y. wrap k (with_part r (field_at set b i).field i y)) held (field_can set b g i k r inside slot place))
      (λ group held. group_made v (field_at set b i).type (is_float (field_at set b i)) levels b g i k r refl inside place group held)
      whole
