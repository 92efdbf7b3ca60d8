-- What is printed of a whole value has a line.
use Rattle.std.proofs.Common.{◌≡◌, ℕ, zero, suc, not, ◌&&◌, ◌||◌, ◌==◌, nat_lt, List, [], ◌∷◌, ◌++◌, Bool, true, false, length, Some, None, refl, cond, arith}
use Rattle.std.specs.List.{list_all}
use Rattle.capnp_schema.specs.Schema.{FieldKind, Group, Schemas, Slot, field_at, is_member}
use Rattle.capnp_schema.specs.Types.{ListType, SchemaType, StructType}
use Rattle.capnp_records.specs.Record as value
use Rattle.capnp_records.specs.Record.{Active, MoreValues, NoUnion, NoValues, Record, Union, Unknown, Value, Values, is_there}
use Rattle.capnp_json_fields.specs.Marks.{is_float}
use Rattle.capnp_value_texts.specs.Lengths.{ends_name, is_end, name_length}
use Rattle.capnp_value_texts.specs.Lines.{HasLine, HaveLines, IsNameText}
use Rattle.capnp_value_texts.specs.Written.{NoPart, Part, Parts, Written}
use Rattle.capnp_value_texts.specs.declared.parts.Bracket.TheVariants.{Round, Square}
use Rattle.capnp_value_laws.specs.Trees.{MemberPart, both_parts, member_behind, member_left, own_parts, part_if, part_later, parts_before, printed_elements, printed_fields, printed_member, printed_record, printed_value}
use Rattle.capnp_diffs.specs.Changes.{ByKind, Either}
use Rattle.capnp_value_laws.specs.Whole.{AreWhole, AreWholeFields, IsElsewhere, IsFieldName, IsNull, IsWhole, IsWholeGroup, IsWholeRecord, IsWholeUnion}
use Rattle.capnp_value_laws.proofs.Leaves.{leaf_has_line}

-- ---- names ----

both : (x y : Bool) → x && y ≡ true → (x ≡ true) × (y ≡ true)
both true true e = (refl, refl)
both true false e = (refl, e)
both false y e = let no : ⊥ = cc in absurd no

not_true : (x : Bool) → not x ≡ true → x ≡ false
not_true true e = let no : ⊥ = cc in absurd no
not_true false e = refl

no_end : (b : ℕ) → ends_name b ≡ false → is_end b ≡ false
no_end b e = go (is_end b) e
  where
    go : (p : Bool) → p || b == 61 ≡ false → p ≡ false
    go true h = let no : ⊥ = cc in absurd no
    go false h = refl

name_goes : (name rest : List ℕ) → list_all (λ byte. not (ends_name byte)) name ≡ true → name_length (name ++ 32 ∷ rest) ≡ length name
name_goes [] rest e = refl
name_goes (b ∷ bs) rest e =
    let s = both (not (ends_name b)) (list_all (λ byte. not (ends_name byte)) bs) e in
    rw (not_true (ends_name b) s.0, name_goes bs rest s.1) refl

name_text : (name : List ℕ) → IsFieldName name → IsNameText name
name_text [] h = absurd (omega (arith, h.0))
name_text (b ∷ bs) h =
    let s = both (not (ends_name b)) (list_all (λ byte. not (ends_name byte)) bs) h.1 in
    record { some = h.0; begins = no_end b (not_true (ends_name b) s.0); goes_on = λ rest. name_goes (b ∷ bs) rest h.1 }

-- ---- parts ----

both_have : (levels : ℕ) (ps qs : Parts) → HaveLines levels Round ps → HaveLines levels Round qs → HaveLines levels Round (both_parts ps qs)
both_have levels NoPart qs h k = k
both_have levels (Part place name w ps) qs h k = (h.0, h.1, both_have levels ps qs h.2 k)

before_has : (levels : ℕ) (m : MemberPart) (i : ℕ) → HaveLines levels Round (member_left m) → HaveLines levels Round (parts_before m i)
before_has levels None i h = tt
before_has levels (Some m) i h = go (nat_lt m.0 i)
  where
    go : (p : Bool) → HaveLines levels Round (cond p m.1 NoPart)
    go true = h
    go false = tt

later_has : (levels : ℕ) (m : MemberPart) (i : ℕ) → HaveLines levels Round (member_left m) → HaveLines levels Round (member_left (part_later m i))
later_has levels None i h = tt
later_has levels (Some m) i h = go (nat_lt m.0 i)
  where
    go : (p : Bool) → HaveLines levels Round (member_left (cond p None (Some m)))
    go true = tt
    go false = h

behind_has : (levels : ℕ) (q : Bool) (m : MemberPart) (i : ℕ) → HaveLines levels Round (member_left m) → HaveLines levels Round (member_left (member_behind q m i))
behind_has levels true m i h = h
behind_has levels false m i h = later_has levels m i h

shown_has : (levels : ℕ) (there : Bool) (name : List ℕ) (w : Written) (B C : Type 0) → Either there B C → (B → IsFieldName name × HasLine levels w) → HaveLines levels Round (part_if there name w)
shown_has levels true name w B C h own = let o = own h in (name_text name o.0, o.1, tt)
shown_has levels false name w B C h own = tt

own_has : (levels : ℕ) (q there : Bool) (m : MemberPart) (i : ℕ) (name : List ℕ) (w : Written) (A B C : Type 0) → HaveLines levels Round (member_left m)
    → Either q A (Either there B C) → (B → IsFieldName name × HasLine levels w) → HaveLines levels Round (own_parts q m i (part_if there name w))
own_has levels true there m i name w A B C h e own = tt
own_has levels false there m i name w A B C h e own = both_have levels (parts_before m i) (part_if there name w) (before_has levels m i h) (shown_has levels there name w B C e own)

kind_has : (levels : ℕ) (w : Written) (kind : FieldKind) (P Q : Type 0) → (P → HasLine levels w) → (Q → HasLine levels w) → ByKind kind P Q → HasLine levels w
kind_has levels w (Slot offset default) P Q slot group h = slot h
kind_has levels w (Group node) P Q slot group h = group h

-- ---- all ----

module _ (set : Schemas) where
  mutual
    pub value_has : (floats : Bool) (levels : ℕ) (t : SchemaType) (v : Value) → IsWhole set floats levels t v → HasLine levels (printed_value set floats t v)
    value_has floats (suc levels) (StructType b g) (value.Struct r) h = record_has levels b r h
    value_has floats (suc levels) (ListType e) (value.Elements vs) h = elements_have floats levels e vs h.1
    value_has floats zero t value.Void h = absurd h
    value_has floats (suc levels) t value.Void h = tt
    value_has floats levels t v h = leaf_has_line set floats levels t v h tt

    pub group_has : (floats : Bool) (levels : ℕ) (t : SchemaType) (v : Value) → IsWholeGroup set levels t v → HasLine levels (printed_value set floats t v)
    group_has floats (suc levels) (StructType b g) (value.Group r) h = record_has levels b r h
    group_has floats levels t v h = absurd h

    elements_have : (floats : Bool) (levels : ℕ) (e : SchemaType) (vs : Values) → AreWhole set floats levels e vs → HaveLines levels Square (printed_elements set floats e vs)
    elements_have floats levels e NoValues h = tt
    elements_have floats levels e (MoreValues v vs) h = (tt, value_has floats levels e v h.0, elements_have floats levels e vs h.1)

    pub record_has : (levels b : ℕ) (r : Record) → IsWholeRecord set levels b r → HaveLines levels Round (printed_record set b r)
    record_has levels b (value.Parts vs u) h = fields_have levels b 0 vs (printed_member set b u) (union_has levels b u h.1) h.0

    fields_have : (levels b i : ℕ) (vs : Values) (m : MemberPart) → HaveLines levels Round (member_left m) → AreWholeFields set levels b i vs → HaveLines levels Round (printed_fields set b i vs m)
    fields_have levels b i NoValues m k h = k
    fields_have levels b i (MoreValues v vs) m k h =
        both_have levels
        (own_parts (is_member (field_at set b i).field) m i (part_if (is_there v) (field_at set b i).field.name (printed_value set (is_float (field_at set b i)) (field_at set b i).type v)))
        (printed_fields set b (suc i) vs (member_behind (is_member (field_at set b i).field) m i))
        (own_has levels (is_member (field_at set b i).field) (is_there v) m i (field_at set b i).field.name (printed_value set (is_float (field_at set b i)) (field_at set b i).type v) (IsElsewhere v)
        (IsFieldName (field_at set b i).field.name × ByKind (field_at set b i).field.kind (IsWhole set (is_float (field_at set b i)) levels (field_at set b i).type v) (IsWholeGroup set levels (field_at set b i).type v)) (IsNull (field_at set b i).field.kind (field_at set b i).type v)
        k h.1
        (λ own. (
          own.0,
          kind_has levels (printed_value set (is_float (field_at set b i)) (field_at set b i).type v) (field_at set b i).field.kind (IsWhole set (is_float (field_at set b i)) levels (field_at set b i).type v) (IsWholeGroup set levels (field_at set b i).type v)
              (value_has (is_float (field_at set b i)) levels (field_at set b i).type v) (group_has (is_float (field_at set b i)) levels (field_at set b i).type v) own.1,
        )))
        (fields_have levels b (suc i) vs (member_behind (is_member (field_at set b i).field) m i) (behind_has levels (is_member (field_at set b i).field) m i k) h.2)

    union_has : (levels b : ℕ) (u : Union) → IsWholeUnion set levels b u → HaveLines levels Round (member_left (printed_member set b u))
    union_has levels b NoUnion h = tt
    union_has levels b (Unknown number) h = tt
    union_has levels b (Active i v) h =
        shown_has levels (is_there v || not ((field_at set b i).field.discriminant_value == 0)) (field_at set b i).field.name (printed_value set (is_float (field_at set b i)) (field_at set b i).type v) _ _ h.2
        (λ own. (
          own.0,
          kind_has levels (printed_value set (is_float (field_at set b i)) (field_at set b i).type v) (field_at set b i).field.kind (IsWhole set (is_float (field_at set b i)) levels (field_at set b i).type v) (IsWholeGroup set levels (field_at set b i).type v)
              (value_has (is_float (field_at set b i)) levels (field_at set b i).type v) (group_has (is_float (field_at set b i)) levels (field_at set b i).type v) own.1,
        ))
