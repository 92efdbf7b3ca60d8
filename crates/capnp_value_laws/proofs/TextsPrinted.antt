-- The text of a whole value is the line of its tree.
use Rattle.std.proofs.Common.{codes, slice_get, unwrap_or, ◌≡◌, ℕ, zero, suc, ◌≤◌, not, ◌||◌, ◌==◌, nat_lt, List, [], ◌∷◌, inl, inr, ◌++◌, Bool, true, false, cond, drop, length, Option, Some, None, Ok, Err, refl, ap, ap₂, sym, ◌∙◌, append_assoc, subst, arith}
use Rattle.std.specs.Prelude.{⊤}
use Rattle.capnp_schema.specs.Schema.{FieldKind, Group, Schemas, Slot, TypedField, VoidValue, default_of, field_at, fields_of, is_member, no_field, Value as SchemaValue}
use Rattle.capnp_schema.specs.Types.{ListType, SchemaType, StructType, VoidType}
use Rattle.capnp_records.specs.Default.{read_of}
use Rattle.capnp_records.specs.Facts.Spelled.{said_both}
use Rattle.capnp_records.specs.Record as value
use Rattle.capnp_records.specs.Record.{Active, Levels, MoreValues, NoUnion, NoValues, Record, Union, Unknown, Value, Values, is_there}
use Rattle.capnp_records.specs.Text.{Layout, Member, Out, after, before, deeper, element_texts, item, item_if, later, line, list_text, member_rest, more_text, said_text, separator, struct_text}
use Rattle.capnp_json_fields.specs.Marks.{is_float}
use Rattle.capnp_float_texts.specs.Texts.{Inner, member, part_text, record_text, shown, text_within, value_text, within}
use Rattle.capnp_value_texts.specs.Lines.{name_on}
use Rattle.capnp_value_texts.specs.Written.{Fields, Items, NoPart, Part, Parts, Written, closing}
use Rattle.capnp_value_texts.specs.declared.parts.Bracket.{Bracket}
use Rattle.capnp_value_texts.specs.declared.parts.Bracket.TheVariants.{Round, Square}
use Rattle.capnp_value_laws.specs.Texts.{AreFirst, AreMore, IsTextOf}
use Rattle.capnp_value_laws.specs.Trees.{MemberPart, both_parts, member_behind, member_left, own_parts, part_if, part_later, parts_before, printed_elements, printed_fields, printed_member, printed_record, printed_value}
use Rattle.capnp_diffs.specs.Changes.{ByKind, Either}
use Rattle.capnp_value_laws.specs.Whole.{AreWhole, AreWholeFields, IsElsewhere, IsFieldName, IsNull, IsWhole, IsWholeGroup, IsWholeRecord, IsWholeUnion}
use Rattle.capnp_value_laws.proofs.Leaves.{Spelt, leaf_said}

-- ---- items ----

-- what is printed of each part
abbrev pub AreItems : Layout → Bracket → Parts → List Out → Type 0
AreItems at k NoPart [] = ⊤
AreItems at k (Part place name w ps) (o ∷ os) = ((text : List ℕ) × IsTextOf at w text × (o ≡ said_text (name_on k name text))) × AreItems at k ps os
AreItems at k ps os = ⊥

items_both : (at : Layout) (k : Bracket) (ps qs : Parts) (os us : List Out) → AreItems at k ps os → AreItems at k qs us → AreItems at k (both_parts ps qs) (os ++ us)
items_both at k NoPart qs [] us h j = j
items_both at k NoPart qs (o ∷ os) us h j = absurd h
items_both at k (Part place name w ps) qs [] us h j = absurd h
items_both at k (Part place name w ps) qs (o ∷ os) us h j = (h.0, items_both at k ps qs os us h.1 j)

after_assoc : (a b c : Out) → after (after a b) c ≡ after a (after b c)
after_assoc (Err kind) b c = refl
after_assoc (Ok xs) (Err kind) c = refl
after_assoc (Ok xs) (Ok ys) (Err kind) = refl
after_assoc (Ok xs) (Ok ys) (Ok zs) = ap Ok (append_assoc xs ys zs)

named_split : (k : Bracket) (name xs rest : List ℕ) → name_on k name xs ++ rest ≡ name_on k name (xs ++ rest)
named_split Round name xs rest = append_assoc name (32 ∷ 61 ∷ 32 ∷ xs) rest
named_split Square name xs rest = refl

-- one item, what stands before it and what behind
item_said : (k : Bracket) (name before text more : List ℕ) (o m : Out) → o ≡ said_text (name_on k name text) → m ≡ said_text more → after (said_text before) (after o m) ≡ said_text (before ++ name_on k name (text ++ more))
item_said k name before text more o m e f =
    ap (after (said_text before)) (ap₂ after e f ∙ (said_both (name_on k name text) more ∙ ap said_text (named_split k name text more))) ∙ said_both before (name_on k name (text ++ more))

-- an item and those behind it
with_item : (at : Layout) (first : Bool) (x : Out) (xs : List Out) (end : Out) → after (more_text at first (x ∷ xs)) end ≡ after (said_text (separator at first)) (after x (after (more_text at false xs) end))
with_item at first x xs end =
    after_assoc (said_text (separator at first)) (after x (more_text at false xs)) end ∙ ap (after (said_text (separator at first))) (after_assoc x (more_text at false xs) end)

module _ (at : Layout) (k : Bracket) where
  abbrev end : Out
  end = said_text (line at ++ closing k ∷ [])

  more_said : (ps : Parts) (os : List Out) → AreItems (deeper at) k ps os → (text : List ℕ) × AreMore at k ps text × (after (more_text (deeper at) false os) end ≡ said_text text)
  more_said NoPart [] h = (line at ++ closing k ∷ [], refl, refl)
  more_said NoPart (o ∷ os) h = absurd h
  more_said (Part place name w ps) [] h = absurd h
  more_said (Part place name w ps) (o ∷ os) h =
      let rest = more_said ps os h.1 in (
        separator (deeper at) false ++ name_on k name (h.0.0 ++ rest.0),
        (h.0.0, rest.0, h.0.1, rest.1, refl),
        with_item (deeper at) false o os (said_text (line at ++ closing k ∷ [])) ∙ item_said k name (separator (deeper at) false) h.0.0 rest.0 o (after (more_text (deeper at) false os) (said_text (line at ++ closing k ∷ []))) h.0.2 rest.2,
      )

  first_said : (ps : Parts) (os : List Out) → AreItems (deeper at) k ps os → (text : List ℕ) × AreFirst at k ps text × (after (more_text (deeper at) true os) end ≡ said_text text)
  first_said NoPart [] h = (line at ++ closing k ∷ [], inr refl, refl)
  first_said NoPart (o ∷ os) h = absurd h
  first_said (Part place name w ps) [] h = absurd h
  first_said (Part place name w ps) (o ∷ os) h =
      let rest = more_said ps os h.1 in (
        line (deeper at) ++ name_on k name (h.0.0 ++ rest.0),
        (h.0.0, rest.0, h.0.1, rest.1, refl),
        with_item (deeper at) true o os (said_text (line at ++ closing k ∷ [])) ∙ item_said k name (line (deeper at)) h.0.0 rest.0 o (after (more_text (deeper at) false os) (said_text (line at ++ closing k ∷ []))) h.0.2 rest.2,
      )

-- an empty list is `[]`, and a struct without fields `()`, also on lines
list_said : (at : Layout) (ps : Parts) (os : List Out) → AreItems (deeper at) Square ps os → Spelt at (Items 0 ps) (list_text at os)
list_said at NoPart [] h = (codes "[]", (93 ∷ [], inl refl, refl), refl)
list_said at NoPart (o ∷ os) h = absurd h
list_said at (Part place name w ps) [] h = absurd h
list_said at (Part place name w ps) (o ∷ os) h =
    let held = first_said at Square (Part place name w ps) (o ∷ os) h in
    (91 ∷ held.0, (held.0, held.1, refl), ap (after (said_text (codes "["))) held.2)

struct_said : (at : Layout) (fs : List TypedField) (ps : Parts) (os : List Out) → AreItems (deeper at) Round ps os → (fs ≡ [] → ps ≡ NoPart) → Spelt at (Fields 0 ps) (struct_text at fs os)
struct_said at [] ps os h none = (codes "()", (41 ∷ [], subst (λ (qs : Parts). AreFirst at Round qs (41 ∷ [])) (sym (none refl)) (inl refl), refl), refl)
struct_said at (f ∷ fs) ps os h none =
    let held = first_said at Round ps os h in
    (40 ∷ held.0, (held.0, held.1, refl), ap (after (said_text (codes "("))) held.2)

-- ---- fields ----

-- the active member while its place is still to come, as the text has it
abbrev pub IsMemberText : Layout → MemberPart → Member → Type 0
IsMemberText at None None = ⊤
IsMemberText at (Some m) (Some n) = (m.0 ≡ n.0) × AreItems at Round m.1 n.1
IsMemberText at m n = ⊥

shown_said : (at : Layout) (q : Bool) (f : TypedField) (w : Written) (o : Out) → (q ≡ true → Spelt at w o) → AreItems at Round (part_if q f.field.name w) (item_if q (item f o))
shown_said at true f w o e =
    let said = e refl in
    ((said.0, said.1, ap (after (said_text (f.field.name ++ codes " = "))) said.2 ∙ (said_both (f.field.name ++ codes " = ") said.0 ∙ ap said_text (append_assoc f.field.name (codes " = ") said.0))), tt)
shown_said at false f w o e = tt

left_said : (at : Layout) (m : MemberPart) (n : Member) → IsMemberText at m n → AreItems at Round (member_left m) (member_rest n)
left_said at None None h = tt
left_said at None (Some n) h = absurd h
left_said at (Some m) None h = absurd h
left_said at (Some m) (Some n) h = h.1

before_said : (at : Layout) (m : MemberPart) (n : Member) (i : ℕ) → IsMemberText at m n → AreItems at Round (parts_before m i) (before n i)
before_said at None None i h = tt
before_said at None (Some n) i h = absurd h
before_said at (Some m) None i h = absurd h
before_said at (Some m) (Some n) i h = go (nat_lt m.0 i) (nat_lt n.0 i) (ap (λ k. nat_lt k i) h.0)
  where
    go : (p q : Bool) → p ≡ q → AreItems at Round (cond p m.1 NoPart) (cond q n.1 [])
    go true true e = h.1
    go false false e = tt
    go true false e = let no : ⊥ = cc in absurd no
    go false true e = let no : ⊥ = cc in absurd no

later_said : (at : Layout) (m : MemberPart) (n : Member) (i : ℕ) → IsMemberText at m n → IsMemberText at (part_later m i) (later n i)
later_said at None None i h = tt
later_said at None (Some n) i h = absurd h
later_said at (Some m) None i h = absurd h
later_said at (Some m) (Some n) i h = go (nat_lt m.0 i) (nat_lt n.0 i) (ap (λ k. nat_lt k i) h.0)
  where
    go : (p q : Bool) → p ≡ q → IsMemberText at (cond p None (Some m)) (cond q None (Some n))
    go true true e = tt
    go false false e = h
    go true false e = let no : ⊥ = cc in absurd no
    go false true e = let no : ⊥ = cc in absurd no

rest_of_fields : (xs : List TypedField) (i : ℕ) (f : TypedField) (fs : List TypedField) → f ∷ fs ≡ drop i xs → (fs ≡ drop (suc i) xs) × (unwrap_or (slice_get xs i) no_field ≡ f)
rest_of_fields [] zero f fs e = let no : ⊥ = cc in absurd no
rest_of_fields [] (suc i) f fs e = let no : ⊥ = cc in absurd no
rest_of_fields (x ∷ xs) zero f fs e = (cc, cc)
rest_of_fields (x ∷ xs) (suc i) f fs e = rest_of_fields xs i f fs e

none_left : (xs : List TypedField) (i : ℕ) → [] ≡ drop i xs → length xs ≤ i
none_left [] i e = omega arith
none_left (x ∷ xs) zero e = let no : ⊥ = cc in absurd no
none_left (x ∷ xs) (suc i) e = let l = none_left xs i e in omega (arith, l)

-- ---- what isn't read as its default ----

missing_is_not : (set : Schemas) (floats : Bool) (levels : ℕ) (t : SchemaType) (l : Levels) → IsWhole set floats levels t (value.Missing l) → ⊥
missing_is_not set floats zero VoidType l h = h.0
missing_is_not set floats (suc levels) VoidType l h = h.0
missing_is_not set floats levels t l h = h.0

group_is_not : (set : Schemas) (floats : Bool) (levels : ℕ) (t : SchemaType) (r : Record) → IsWhole set floats levels t (value.Group r) → ⊥
group_is_not set floats zero VoidType r h = h.0
group_is_not set floats (suc levels) VoidType r h = h.0
group_is_not set floats levels t r h = h.0

pub slot_part : (set : Schemas) (inner : Inner) (floats : Bool) (at : Layout) (d : SchemaValue) (levels : ℕ) (t : SchemaType) (v : Value) → IsWhole set floats levels t v → part_text set inner floats at d t v ≡ inner floats at t v
slot_part set inner floats at d levels t (value.Group r) h = absurd (group_is_not set floats levels t r h)
slot_part set inner floats at d levels t (value.Missing l) h = absurd (missing_is_not set floats levels t l h)
slot_part set inner floats at d levels t v h = refl

read_same : (set : Schemas) (floats : Bool) (d : SchemaValue) (levels : ℕ) (t : SchemaType) (v : Value) → IsWhole set floats levels t v → read_of set d t v ≡ v
read_same set floats d levels t (value.Missing l) h = absurd (missing_is_not set floats levels t l h)
read_same set floats d levels t v h = refl

-- ---- levels ----

abbrev inner_of : Schemas → ℕ → Option Inner
inner_of set zero = None
inner_of set (suc n) = Some (text_within set n)

within_is : (set : Schemas) (n : ℕ) → text_within set n ≡ value_text set (inner_of set n)
within_is set zero = refl
within_is set (suc n) = refl

pub same_spelt : (at : Layout) (w : Written) (o p : Out) → o ≡ p → Spelt at w p → Spelt at w o
same_spelt at w o p e said = (said.0, said.1, e ∙ said.2)

-- a level is left for what takes one
entered : (set : Schemas) (at : Layout) (w : Written) (levels n : ℕ) (text : Inner → Out) → suc levels ≤ n → ((m : ℕ) → levels ≤ m → Spelt at w (text (text_within set m))) → Spelt at w (within (inner_of set n) text)
entered set at w levels zero text h e = absurd (omega (arith, h))
entered set at w levels (suc n) text h e = e n (omega (arith, h))

-- ---- all ----

nothing_printed : (set : Schemas) (levels b : ℕ) (vs : Values) (u : Union) → IsWholeRecord set levels b (value.Parts vs u) → fields_of set b ≡ [] → printed_record set b (value.Parts vs u) ≡ NoPart
nothing_printed set levels b NoValues NoUnion h e = refl
nothing_printed set levels b NoValues (Unknown number) h e = refl
nothing_printed set levels b NoValues (Active i v) h e = let none : length (fields_of set b) ≡ 0 = ap length e in absurd (omega (arith, none, h.1.0))
nothing_printed set levels b (MoreValues v vs) u h e = let none : length (fields_of set b) ≡ 0 = ap length e in absurd (omega (arith, none, h.0.0))

where_shown : (q : Bool) (A B : Type 0) → q ≡ true → Either q A B → A
where_shown true A B e h = h
where_shown false A B e h = let no : ⊥ = cc in absurd no

module _ (set : Schemas) (inner : Inner) (at : Layout) where
  part_said : (floats : Bool) (levels : ℕ) (kind : FieldKind) (d : SchemaValue) (t : SchemaType) (v : Value) (w : Written)
      → (IsWhole set floats levels t v → Spelt at w (inner floats at t v)) → (IsWholeGroup set levels t v → Spelt at w (part_text set inner floats at d t v))
      → ByKind kind (IsWhole set floats levels t v) (IsWholeGroup set levels t v) → Spelt at w (part_text set inner floats at d t v)
  part_said floats levels (Slot offset default) d t v w slot group h = same_spelt at w (part_text set inner floats at d t v) (inner floats at t v) (slot_part set inner floats at d levels t v h) (slot h)
  part_said floats levels (Group node) d t v w slot group h = group h

  -- a field of a record: what is shown of it and of the fields behind it
  field_said : (f : TypedField) (b i : ℕ) (fs : List TypedField) (vs : Values) (m : MemberPart) (n : Member) (w : Written) (o : Out) (q there : Bool) (A B C : Type 0) → IsMemberText at m n
      → ((x : MemberPart) (y : Member) → IsMemberText at x y → AreItems at Round (printed_fields set b (suc i) vs x) (shown set inner at fs (suc i) vs y))
      → Either q A (Either there B C) → (B → Spelt at w o)
      → AreItems at Round (both_parts (own_parts q m i (part_if there f.field.name w)) (printed_fields set b (suc i) vs (member_behind q m i)))
      (elim q as (λ x. List Out) [
        | true ↦ shown set inner at fs (suc i) vs n
        | false ↦ before n i ++ item_if there (item f o) ++ shown set inner at fs (suc i) vs (later n i)
      ])
  field_said f b i fs vs m n w o true there A B C members behind h own = behind m n members
  field_said f b i fs vs m n w o false there A B C members behind h own =
      items_both at Round (both_parts (parts_before m i) (part_if there f.field.name w)) (printed_fields set b (suc i) vs (part_later m i)) (before n i ++ item_if there (item f o)) (shown set inner at fs (suc i) vs (later n i))
      (items_both at Round (parts_before m i) (part_if there f.field.name w) (before n i) (item_if there (item f o)) (before_said at m n i members) (shown_said at there f w o (λ e. own (where_shown there B C e h))))
      (behind (part_later m i) (later n i) (later_said at m n i members))

module _ (set : Schemas) where
  mutual
    pub value_said : (floats : Bool) (levels : ℕ) (t : SchemaType) (v : Value) (at : Layout) (n : ℕ) → levels ≤ n → IsWhole set floats levels t v → Spelt at (printed_value set floats t v) (text_within set n floats at t v)
    value_said floats (suc levels) (StructType b g) (value.Struct r) at n k h =
        same_spelt at (Fields 0 (printed_record set b r)) (text_within set n floats at (StructType b g) (value.Struct r)) (within (inner_of set n) (λ text. record_text set text at b r))
        (ap (λ (text : Inner). text floats at (StructType b g) (value.Struct r)) (within_is set n))
        (entered set at (Fields 0 (printed_record set b r)) levels n (λ text. record_text set text at b r) k (λ m j. record_said levels b r at m j h))
    value_said floats (suc levels) (ListType e) (value.Elements vs) at n k h =
        same_spelt at (Items 0 (printed_elements set floats e vs)) (text_within set n floats at (ListType e) (value.Elements vs)) (within (inner_of set n) (λ text. list_text at (element_texts set (text floats) (deeper at) e vs)))
        (ap (λ (text : Inner). text floats at (ListType e) (value.Elements vs)) (within_is set n))
        (entered set at (Items 0 (printed_elements set floats e vs)) levels n (λ text. list_text at (element_texts set (text floats) (deeper at) e vs)) k
        (λ m j. list_said at (printed_elements set floats e vs) (element_texts set (text_within set m floats) (deeper at) e vs) (elements_said floats levels e vs (deeper at) m j h.1)))
    value_said floats zero t value.Void at n k h = absurd h
    value_said floats levels t v at n k h =
        same_spelt at (printed_value set floats t v) (text_within set n floats at t v) (value_text set (inner_of set n) floats at t v) (ap (λ (text : Inner). text floats at t v) (within_is set n)) (leaf_said set (inner_of set n) floats at t v h)

    pub group_said : (floats : Bool) (levels : ℕ) (t : SchemaType) (v : Value) (at : Layout) (d : SchemaValue) (n : ℕ) → levels ≤ n → IsWholeGroup set levels t v → Spelt at (printed_value set floats t v) (part_text set (text_within set n) floats at d t v)
    group_said floats (suc levels) (StructType b g) (value.Group r) at d n k h = record_said levels b r at n (omega (arith, k)) h
    group_said floats levels t v at d n k h = absurd h

    elements_said : (floats : Bool) (levels : ℕ) (e : SchemaType) (vs : Values) (at : Layout) (n : ℕ) → levels ≤ n → AreWhole set floats levels e vs → AreItems at Square (printed_elements set floats e vs) (element_texts set (text_within set n floats) at e vs)
    elements_said floats levels e NoValues at n k h = tt
    elements_said floats levels e (MoreValues v vs) at n k h =
        let said = value_said floats levels e v at n k h.0 in
        ((said.0, said.1, ap (text_within set n floats at e) (read_same set floats VoidValue levels e v h.0) ∙ said.2), elements_said floats levels e vs at n k h.1)

    record_said : (levels b : ℕ) (r : Record) (at : Layout) (n : ℕ) → levels ≤ n → IsWholeRecord set levels b r → Spelt at (Fields 0 (printed_record set b r)) (record_text set (text_within set n) at b r)
    record_said levels b (value.Parts vs u) at n k h =
        struct_said at (fields_of set b) (printed_record set b (value.Parts vs u)) (shown set (text_within set n) (deeper at) (fields_of set b) 0 vs (member set (text_within set n) (deeper at) b u))
        (fields_said levels b 0 vs (fields_of set b) (printed_member set b u) (member set (text_within set n) (deeper at) b u) (deeper at) n k refl (union_said levels b u (deeper at) n k h.1) h.0)
        (nothing_printed set levels b vs u h)

    fields_said : (levels b i : ℕ) (vs : Values) (fs : List TypedField) (m : MemberPart) (y : Member) (at : Layout) (n : ℕ) → levels ≤ n → fs ≡ drop i (fields_of set b) → IsMemberText at m y → AreWholeFields set levels b i vs
        → AreItems at Round (printed_fields set b i vs m) (shown set (text_within set n) at fs i vs y)
    fields_said levels b i NoValues fs m y at n k e members h = left_said at m y members
    fields_said levels b i (MoreValues v vs) [] m y at n k e members h = let l = none_left (fields_of set b) i e in absurd (omega (arith, l, h.0))
    fields_said levels b i (MoreValues v vs) (f ∷ fs) m y at n k e members h =
        let rest = rest_of_fields (fields_of set b) i f fs e in
        subst (λ (x : TypedField). AreItems at Round (printed_fields set b i (MoreValues v vs) m) (shown set (text_within set n) at (x ∷ fs) i (MoreValues v vs) y)) rest.1
        (field_said set (text_within set n) at (field_at set b i) b i fs vs m y (printed_value set (is_float (field_at set b i)) (field_at set b i).type v)
        (part_text set (text_within set n) (is_float (field_at set b i)) at (default_of (field_at set b i).field) (field_at set b i).type v) (is_member (field_at set b i).field) (is_there v) (IsElsewhere v)
        (IsFieldName (field_at set b i).field.name × ByKind (field_at set b i).field.kind (IsWhole set (is_float (field_at set b i)) levels (field_at set b i).type v) (IsWholeGroup set levels (field_at set b i).type v)) (IsNull (field_at set b i).field.kind (field_at set b i).type v)
        members (λ p q next. fields_said levels b (suc i) vs fs p q at n k rest.0 next h.2) h.1
        (λ whole. part_said set (text_within set n) at (is_float (field_at set b i)) levels (field_at set b i).field.kind (default_of (field_at set b i).field) (field_at set b i).type v (printed_value set (is_float (field_at set b i)) (field_at set b i).type v)
        (value_said (is_float (field_at set b i)) levels (field_at set b i).type v at n k) (group_said (is_float (field_at set b i)) levels (field_at set b i).type v at (default_of (field_at set b i).field) n k) whole.1))

    union_said : (levels b : ℕ) (u : Union) (at : Layout) (n : ℕ) → levels ≤ n → IsWholeUnion set levels b u → IsMemberText at (printed_member set b u) (member set (text_within set n) at b u)
    union_said levels b NoUnion at n k h = tt
    union_said levels b (Unknown number) at n k h = tt
    union_said levels b (Active i v) at n k h = (
      refl,
      shown_said at (is_there v || not ((field_at set b i).field.discriminant_value == 0)) (field_at set b i) (printed_value set (is_float (field_at set b i)) (field_at set b i).type v)
          (part_text set (text_within set n) (is_float (field_at set b i)) at (default_of (field_at set b i).field) (field_at set b i).type v)
          (λ shown. part_said set (text_within set n) at (is_float (field_at set b i)) levels (field_at set b i).field.kind (default_of (field_at set b i).field) (field_at set b i).type v (printed_value set (is_float (field_at set b i)) (field_at set b i).type v)
          (value_said (is_float (field_at set b i)) levels (field_at set b i).type v at n k) (group_said (is_float (field_at set b i)) levels (field_at set b i).type v at (default_of (field_at set b i).field) n k)
          (where_shown (is_there v || not ((field_at set b i).field.discriminant_value == 0)) _ _ shown h.2).1),
    )
