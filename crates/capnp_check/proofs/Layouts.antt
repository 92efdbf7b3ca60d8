-- Whether a text is refused does not stand on its lines.
use Rattle.std.proofs.Common.{ℕ, zero, suc, ◌≡◌, refl, List, [], ◌∷◌, ◌++◌, Bool, true, false, not, cond, ◌||◌, ◌==◌, nat_lt, Option, Some, None, codes, ap, ap₂, sym, ◌∙◌}
use Rattle.std.specs.Prelude.{⊤}
use Rattle.std.proofs.lemmas.Bool.{true≢false}
use Rattle.capnp_schema.specs.Schema.{Schemas, TypedField, VoidValue, default_of, field_at, fields_of, is_member, Value as SchemaValue}
use Rattle.capnp_schema.specs.Types.{SchemaType, struct_number}
use Rattle.capnp_records.specs.Default.{read_of}
use Rattle.capnp_records.specs.Reading.{element_type}
use Rattle.capnp_records.specs.Record as value
use Rattle.capnp_records.specs.Record.{Active, MoreValues, NoValues, NoUnion, Parts, Record, Union, Unknown, Value, Values, is_there}
use Rattle.capnp_records.specs.Text.{Inner, Layout, Member, Out, before, deeper, element_texts, item, item_if, later, member, member_rest, part_text, record_text, shown, stands_before, struct_text, text_within, value_text}
use Rattle.capnp_dynamic_readers.specs.Shown.{printed_text, set_seen, type_seen, value_printed}
use Rattle.capnp_dynamic_readers.specs.Steps.Shown.{root_shown}
use Rattle.capnp_dynamic_readers.specs.declared.dynamic_value.Reader.{Reader as DynamicValue}
use Rattle.capnp_check.specs.Refusals.{text_refusal}
use Rattle.capnp_check.specs.Steps.Walks.{first_refusal, or_later}
use Rattle.capnp_check.proofs.Refused.{bracketed_refusal, first_append, item_refusal, list_refusal, own_refusal}

abbrev Alike : List Out → List Out → Type 0
Alike xs ys = first_refusal xs ≡ first_refusal ys

append_alike : (xs ys us vs : List Out) → Alike xs ys → Alike us vs → Alike (xs ++ us) (ys ++ vs)
append_alike xs ys us vs h k = first_append xs us ∙ (ap₂ or_later h k ∙ sym (first_append ys vs))

struct_alike : (at other : Layout) (fs : List TypedField) (xs ys : List Out) → Alike xs ys → text_refusal (struct_text at fs xs) ≡ text_refusal (struct_text other fs ys)
struct_alike at other [] xs ys h = refl
struct_alike at other (f ∷ fs) xs ys h = bracketed_refusal (codes "(") (codes ")") at xs ∙ (h ∙ sym (bracketed_refusal (codes "(") (codes ")") other ys))

shown_one : (q : Bool) (f : TypedField) (o p : Out) → text_refusal o ≡ text_refusal p → Alike (item_if q (item f o)) (item_if q (item f p))
shown_one q f o p h = item_refusal q f o ∙ (ap (own_refusal q) h ∙ sym (item_refusal q f p))

abbrev MemberAlike : Member → Member → Type 0
MemberAlike None None = ⊤
MemberAlike (Some m) (Some n) = (m.0 ≡ n.0) × Alike m.1 n.1
MemberAlike m n = ⊥

rest_alike : (m n : Member) → MemberAlike m n → Alike (member_rest m) (member_rest n)
rest_alike None None h = refl
rest_alike (Some m) (Some n) h = h.1
rest_alike None (Some n) h = absurd h
rest_alike (Some m) None h = absurd h

before_same : (m n : Member) (i : ℕ) → MemberAlike m n → stands_before m i ≡ stands_before n i
before_same None None i h = refl
before_same (Some m) (Some n) i h = ap (λ k. nat_lt k i) h.0
before_same None (Some n) i h = absurd h
before_same (Some m) None i h = absurd h

abbrev IsAlike : Inner → Type 0
IsAlike inner = (at other : Layout) (t : SchemaType) (v : Value) → text_refusal (inner at t v) ≡ text_refusal (inner other t v)

module _ (set : Schemas) (inner : Inner) (alike : IsAlike inner) where
  mutual
    pub part_alike : (at other : Layout) (d : SchemaValue) (t : SchemaType) (v : Value) → text_refusal (part_text set inner at d t v) ≡ text_refusal (part_text set inner other d t v)
    part_alike at other d t (value.Group r) = record_alike at other (struct_number t) r
    part_alike at other d t (value.Fault kind) = alike at other t (read_of set d t (value.Fault kind))
    part_alike at other d t value.Void = alike at other t (read_of set d t value.Void)
    part_alike at other d t (value.Truth a) = alike at other t (read_of set d t (value.Truth a))
    part_alike at other d t (value.Number m) = alike at other t (read_of set d t (value.Number m))
    part_alike at other d t (value.Enum m) = alike at other t (read_of set d t (value.Enum m))
    part_alike at other d t (value.Text xs) = alike at other t (read_of set d t (value.Text xs))
    part_alike at other d t (value.Data xs) = alike at other t (read_of set d t (value.Data xs))
    part_alike at other d t (value.Struct r) = alike at other t (read_of set d t (value.Struct r))
    part_alike at other d t (value.Elements vs) = alike at other t (read_of set d t (value.Elements vs))
    part_alike at other d t (value.Untyped x) = alike at other t (read_of set d t (value.Untyped x))
    part_alike at other d t (value.Missing l) = alike at other t (read_of set d t (value.Missing l))
    part_alike at other d t value.Elsewhere = alike at other t (read_of set d t value.Elsewhere)

    pub record_alike : (at other : Layout) (b : ℕ) (r : Record) → text_refusal (record_text set inner at b r) ≡ text_refusal (record_text set inner other b r)
    record_alike at other b (Parts vs u) =
        struct_alike at other (fields_of set b) (shown set inner (deeper at) (fields_of set b) 0 vs (member set inner (deeper at) b u)) (shown set inner (deeper other) (fields_of set b) 0 vs (member set inner (deeper other) b u))
        (shown_alike (deeper at) (deeper other) (fields_of set b) 0 vs (member set inner (deeper at) b u) (member set inner (deeper other) b u) (member_alike (deeper at) (deeper other) b u))

    shown_alike : (at other : Layout) (fs : List TypedField) (i : ℕ) (vs : Values) (m n : Member) → MemberAlike m n → Alike (shown set inner at fs i vs m) (shown set inner other fs i vs n)
    shown_alike at other fs i NoValues m n k = rest_alike m n k
    shown_alike at other [] i (MoreValues v vs) m n k = rest_alike m n k
    shown_alike at other (f ∷ fs) i (MoreValues v vs) m n k =
        go (λ m n k. shown_alike at other fs (suc i) vs m n k) (part_alike at other (default_of f.field) f.type v) (is_member f.field)
      where
        Later : Type 0
        Later = (m n : Member) → MemberAlike m n → Alike (shown set inner at fs (suc i) vs m) (shown set inner other fs (suc i) vs n)

        before_alike : (p q : Bool) → p ≡ q → Alike (cond p (member_rest m) []) (cond q (member_rest n) [])
        before_alike true true e = rest_alike m n k
        before_alike false false e = refl
        before_alike true false e = absurd (true≢false e)
        before_alike false true e = absurd (true≢false (sym e))

        still : (p q : Bool) → p ≡ q → MemberAlike (cond p None m) (cond q None n)
        still true true e = tt
        still false false e = k
        still true false e = absurd (true≢false e)
        still false true e = absurd (true≢false (sym e))

        Part : Type 0
        Part = text_refusal (part_text set inner at (default_of f.field) f.type v) ≡ text_refusal (part_text set inner other (default_of f.field) f.type v)

        plain : Later → Part →
            Alike (before m i ++ item_if (is_there v) (item f (part_text set inner at (default_of f.field) f.type v)) ++ shown set inner at fs (suc i) vs (later m i))
            (before n i ++ item_if (is_there v) (item f (part_text set inner other (default_of f.field) f.type v)) ++ shown set inner other fs (suc i) vs (later n i))
        plain ih part = append_alike
            (before m i ++ item_if (is_there v) (item f (part_text set inner at (default_of f.field) f.type v))) (before n i ++ item_if (is_there v) (item f (part_text set inner other (default_of f.field) f.type v)))
            (shown set inner at fs (suc i) vs (later m i)) (shown set inner other fs (suc i) vs (later n i))
            (append_alike (before m i) (before n i) (item_if (is_there v) (item f (part_text set inner at (default_of f.field) f.type v))) (item_if (is_there v) (item f (part_text set inner other (default_of f.field) f.type v)))
            (before_alike (stands_before m i) (stands_before n i) (before_same m n i k))
            (shown_one (is_there v) f (part_text set inner at (default_of f.field) f.type v) (part_text set inner other (default_of f.field) f.type v) part))
            (ih (later m i) (later n i) (still (stands_before m i) (stands_before n i) (before_same m n i k)))

        go : Later → Part → (q : Bool) →
            Alike (elim q as (λ _. List Out) [ true ↦ shown set inner at fs (suc i) vs m | false ↦ before m i ++ item_if (is_there v) (item f (part_text set inner at (default_of f.field) f.type v)) ++ shown set inner at fs (suc i) vs (later m i) ])
            (elim q as (λ _. List Out) [ true ↦ shown set inner other fs (suc i) vs n | false ↦ before n i ++ item_if (is_there v) (item f (part_text set inner other (default_of f.field) f.type v)) ++ shown set inner other fs (suc i) vs (later n i) ])
        go ih part true = ih m n k
        go ih part false = plain ih part

    member_alike : (at other : Layout) (b : ℕ) (u : Union) → MemberAlike (member set inner at b u) (member set inner other b u)
    member_alike at other b NoUnion = tt
    member_alike at other b (Unknown m) = tt
    member_alike at other b (Active i x) = (refl, shown_one (is_there x || not ((field_at set b i).field.discriminant_value == 0)) (field_at set b i) (part_text set inner at (default_of (field_at set b i).field) (field_at set b i).type x) (part_text set inner other (default_of (field_at set b i).field) (field_at set b i).type x) (part_alike at other (default_of (field_at set b i).field) (field_at set b i).type x))

  elements_alike : (at other : Layout) (t : SchemaType) (vs : Values) → Alike (element_texts set inner at t vs) (element_texts set inner other t vs)
  elements_alike at other t NoValues = refl
  elements_alike at other t (MoreValues v vs) = ap₂ or_later (alike at other t (read_of set VoidValue t v)) (elements_alike at other t vs)

abbrev StandsIn : Option Inner → Type 0
StandsIn None = ⊤
StandsIn (Some inner) = IsAlike inner

value_alike : (set : Schemas) (inner : Option Inner) → StandsIn inner → IsAlike (value_text set inner)
value_alike set inner h at other t value.Void = refl
value_alike set inner h at other t (value.Truth a) = refl
value_alike set inner h at other t (value.Number m) = refl
value_alike set inner h at other t (value.Enum m) = refl
value_alike set inner h at other t (value.Text xs) = refl
value_alike set inner h at other t (value.Data xs) = refl
value_alike set None h at other t (value.Struct r) = refl
value_alike set (Some inner) h at other t (value.Struct r) = record_alike set inner h at other (struct_number t) r
value_alike set inner h at other t (value.Group r) = refl
value_alike set None h at other t (value.Elements vs) = refl
value_alike set (Some inner) h at other t (value.Elements vs) =
    list_refusal at (element_texts set inner (deeper at) (element_type t) vs)
    ∙ (elements_alike set inner h (deeper at) (deeper other) (element_type t) vs ∙ sym (list_refusal other (element_texts set inner (deeper other) (element_type t) vs)))
value_alike set inner h at other t (value.Untyped x) = refl
value_alike set inner h at other t (value.Fault kind) = refl
value_alike set inner h at other t (value.Missing l) = refl
value_alike set inner h at other t value.Elsewhere = refl

pub within_alike : (set : Schemas) (n : ℕ) → IsAlike (text_within set n)
within_alike set zero = value_alike set None tt
within_alike set (suc n) = value_alike set (Some (text_within set n)) (within_alike set n)

pub any_lines : (indented : Bool) (v : DynamicValue) → text_refusal (root_shown None v) ≡ text_refusal (printed_text indented v)
any_lines indented v = part_alike (set_seen v) (text_within (set_seen v) 64) (within_alike (set_seen v) 64) None (cond indented (Some 0) None) VoidValue (type_seen v) (value_printed v)
