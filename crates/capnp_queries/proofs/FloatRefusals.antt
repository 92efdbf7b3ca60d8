-- Whether a text is refused, and why, does not stand on its floats.
use Rattle.std.proofs.Common.{ℕ, zero, suc, ◌≡◌, refl, List, [], ◌∷◌, ◌++◌, Bool, true, false, not, cond, ◌||◌, ◌==◌, nat_lt, Some, None, Ok, Err, codes, ap, ap₂, sym, ◌∙◌}
use Rattle.std.specs.Prelude.{⊤}
use Rattle.std.proofs.lemmas.Bool.{true≢false}
use Rattle.capnp_device.specs.declared.error.ErrorKind.{ErrorKind}
use Rattle.capnp_schema.specs.Schema.{Schemas, TypedField, VoidValue, default_of, field_at, fields_of, is_member, Value as SchemaValue}
use Rattle.capnp_schema.specs.Types.{SchemaType, struct_number}
use Rattle.capnp_records.specs.Default.{read_of}
use Rattle.capnp_records.specs.Reading.{element_type}
use Rattle.capnp_records.specs.Record as value
use Rattle.capnp_records.specs.Record.{Active, MoreValues, NoValues, NoUnion, Parts, Record, Union, Unknown, Value, Values, is_there}
use Rattle.capnp_records.specs.Text as plain
use Rattle.capnp_records.specs.Text.{Layout, Member, Out, before, deeper, element_texts, item, item_if, later, member_rest, stands_before, struct_text, text_of}
use Rattle.capnp_check.specs.Refusals.{text_refusal}
use Rattle.capnp_check.specs.Steps.Walks.{first_refusal, or_later}
use Rattle.capnp_check.proofs.Refused.{bracketed_refusal, first_append, item_refusal, list_refusal, own_refusal}
use Rattle.capnp_float_texts.specs.Texts.{Inner, float_text_of, member, part_text, record_text, shown, text_within, value_text}
use Rattle.capnp_json_fields.specs.Marks.{is_float}
use Rattle.capnp_patch.specs.Gets.{Reached, is_group_type, reached_text}
use Rattle.capnp_queries.specs.Shown.{reached_float_text}
use Rattle.capnp_show_engine.specs.Show.{as_printed}

abbrev Alike : List Out → List Out → Type 0
Alike xs ys = first_refusal xs ≡ first_refusal ys

append_alike : (xs ys us vs : List Out) → Alike xs ys → Alike us vs → Alike (xs ++ us) (ys ++ vs)
append_alike xs ys us vs h k = first_append xs us ∙ (ap₂ or_later h k ∙ sym (first_append ys vs))

struct_alike : (at other : Layout) (fs : List TypedField) (xs ys : List Out) → Alike xs ys → text_refusal (struct_text at fs xs) ≡ text_refusal (struct_text other fs ys)
struct_alike at other [] xs ys h = refl
struct_alike at other (f ∷ fs) xs ys h = bracketed_refusal (codes "(") (codes ")") at xs ∙ (h ∙ sym (bracketed_refusal (codes "(") (codes ")") other ys))

shown_one : (q : Bool) (f : TypedField) (o p : Out) → text_refusal o ≡ text_refusal p → Alike (item_if q (item f o)) (item_if q (item f p))
shown_one q f o p h = item_refusal q f o ∙ (ap (own_refusal q) h ∙ sym (item_refusal q f p))

abbrev MemberAlike : Member → Member → Type 0
MemberAlike None None = ⊤
MemberAlike (Some m) (Some n) = (m.0 ≡ n.0) × Alike m.1 n.1
MemberAlike m n = ⊥

rest_alike : (m n : Member) → MemberAlike m n → Alike (member_rest m) (member_rest n)
rest_alike None None h = refl
rest_alike (Some m) (Some n) h = h.1
rest_alike None (Some n) h = absurd h
rest_alike (Some m) None h = absurd h

before_same : (m n : Member) (i : ℕ) → MemberAlike m n → stands_before m i ≡ stands_before n i
before_same None None i h = refl
before_same (Some m) (Some n) i h = ap (λ k. nat_lt k i) h.0
before_same None (Some n) i h = absurd h
before_same (Some m) None i h = absurd h

abbrev IsAlike : Inner → plain.Inner → Type 0
IsAlike inner bare = (floats : Bool) (at : Layout) (t : SchemaType) (v : Value) → text_refusal (inner floats at t v) ≡ text_refusal (bare at t v)

module _ (set : Schemas) (inner : Inner) (bare : plain.Inner) (alike : IsAlike inner bare) where
  mutual
    pub part_alike : (floats : Bool) (at : Layout) (d : SchemaValue) (t : SchemaType) (v : Value) → text_refusal (part_text set inner floats at d t v) ≡ text_refusal (plain.part_text set bare at d t v)
    part_alike floats at d t (value.Group r) = record_alike at (struct_number t) r
    part_alike floats at d t (value.Fault kind) = alike floats at t (read_of set d t (value.Fault kind))
    part_alike floats at d t value.Void = alike floats at t (read_of set d t value.Void)
    part_alike floats at d t (value.Truth a) = alike floats at t (read_of set d t (value.Truth a))
    part_alike floats at d t (value.Number m) = alike floats at t (read_of set d t (value.Number m))
    part_alike floats at d t (value.Enum m) = alike floats at t (read_of set d t (value.Enum m))
    part_alike floats at d t (value.Text xs) = alike floats at t (read_of set d t (value.Text xs))
    part_alike floats at d t (value.Data xs) = alike floats at t (read_of set d t (value.Data xs))
    part_alike floats at d t (value.Struct r) = alike floats at t (read_of set d t (value.Struct r))
    part_alike floats at d t (value.Elements vs) = alike floats at t (read_of set d t (value.Elements vs))
    part_alike floats at d t (value.Untyped x) = alike floats at t (read_of set d t (value.Untyped x))
    part_alike floats at d t (value.Missing l) = alike floats at t (read_of set d t (value.Missing l))
    part_alike floats at d t value.Elsewhere = alike floats at t (read_of set d t value.Elsewhere)

    pub record_alike : (at : Layout) (b : ℕ) (r : Record) → text_refusal (record_text set inner at b r) ≡ text_refusal (plain.record_text set bare at b r)
    record_alike at b (Parts vs u) =
        struct_alike at at (fields_of set b) (shown set inner (deeper at) (fields_of set b) 0 vs (member set inner (deeper at) b u)) (plain.shown set bare (deeper at) (fields_of set b) 0 vs (plain.member set bare (deeper at) b u))
        (shown_alike (deeper at) (fields_of set b) 0 vs (member set inner (deeper at) b u) (plain.member set bare (deeper at) b u) (member_alike (deeper at) b u))

    shown_alike : (at : Layout) (fs : List TypedField) (i : ℕ) (vs : Values) (m n : Member) → MemberAlike m n → Alike (shown set inner at fs i vs m) (plain.shown set bare at fs i vs n)
    shown_alike at fs i NoValues m n k = rest_alike m n k
    shown_alike at [] i (MoreValues v vs) m n k = rest_alike m n k
    shown_alike at (f ∷ fs) i (MoreValues v vs) m n k =
        go (λ m n k. shown_alike at fs (suc i) vs m n k) (part_alike (is_float f) at (default_of f.field) f.type v) (is_member f.field)
      where
        Later : Type 0
        Later = (m n : Member) → MemberAlike m n → Alike (shown set inner at fs (suc i) vs m) (plain.shown set bare at fs (suc i) vs n)

        before_alike : (p q : Bool) → p ≡ q → Alike (cond p (member_rest m) []) (cond q (member_rest n) [])
        before_alike true true e = rest_alike m n k
        before_alike false false e = refl
        before_alike true false e = absurd (true≢false e)
        before_alike false true e = absurd (true≢false (sym e))

        still : (p q : Bool) → p ≡ q → MemberAlike (cond p None m) (cond q None n)
        still true true e = tt
        still false false e = k
        still true false e = absurd (true≢false e)
        still false true e = absurd (true≢false (sym e))

        Part : Type 0
        Part = text_refusal (part_text set inner (is_float f) at (default_of f.field) f.type v) ≡ text_refusal (plain.part_text set bare at (default_of f.field) f.type v)

        not_member : Later → Part →
            Alike (before m i ++ item_if (is_there v) (item f (part_text set inner (is_float f) at (default_of f.field) f.type v)) ++ shown set inner at fs (suc i) vs (later m i))
            (before n i ++ item_if (is_there v) (item f (plain.part_text set bare at (default_of f.field) f.type v)) ++ plain.shown set bare at fs (suc i) vs (later n i))
        not_member ih part = append_alike
            (before m i ++ item_if (is_there v) (item f (part_text set inner (is_float f) at (default_of f.field) f.type v))) (before n i ++ item_if (is_there v) (item f (plain.part_text set bare at (default_of f.field) f.type v)))
            (shown set inner at fs (suc i) vs (later m i)) (plain.shown set bare at fs (suc i) vs (later n i))
            (append_alike (before m i) (before n i) (item_if (is_there v) (item f (part_text set inner (is_float f) at (default_of f.field) f.type v))) (item_if (is_there v) (item f (plain.part_text set bare at (default_of f.field) f.type v)))
            (before_alike (stands_before m i) (stands_before n i) (before_same m n i k))
            (shown_one (is_there v) f (part_text set inner (is_float f) at (default_of f.field) f.type v) (plain.part_text set bare at (default_of f.field) f.type v) part))
            (ih (later m i) (later n i) (still (stands_before m i) (stands_before n i) (before_same m n i k)))

        go : Later → Part → (q : Bool) →
            Alike (elim q as (λ _. List Out) [ true ↦ shown set inner at fs (suc i) vs m | false ↦ before m i ++ item_if (is_there v) (item f (part_text set inner (is_float f) at (default_of f.field) f.type v)) ++ shown set inner at fs (suc i) vs (later m i) ])
            (elim q as (λ _. List Out) [ true ↦ plain.shown set bare at fs (suc i) vs n | false ↦ before n i ++ item_if (is_there v) (item f (plain.part_text set bare at (default_of f.field) f.type v)) ++ plain.shown set bare at fs (suc i) vs (later n i) ])
        go ih part true = ih m n k
        go ih part false = not_member ih part

    member_alike : (at : Layout) (b : ℕ) (u : Union) → MemberAlike (member set inner at b u) (plain.member set bare at b u)
    member_alike at b NoUnion = tt
    member_alike at b (Unknown m) = tt
    member_alike at b (Active i x) = (refl, shown_one (is_there x || not ((field_at set b i).field.discriminant_value == 0)) (field_at set b i) (part_text set inner (is_float (field_at set b i)) at (default_of (field_at set b i).field) (field_at set b i).type x) (plain.part_text set bare at (default_of (field_at set b i).field) (field_at set b i).type x) (part_alike (is_float (field_at set b i)) at (default_of (field_at set b i).field) (field_at set b i).type x))

  elements_alike : (floats : Bool) (at : Layout) (t : SchemaType) (vs : Values) → Alike (element_texts set (inner floats) at t vs) (element_texts set bare at t vs)
  elements_alike floats at t NoValues = refl
  elements_alike floats at t (MoreValues v vs) = ap₂ or_later (alike floats at t (read_of set VoidValue t v)) (elements_alike floats at t vs)

none_alike : (set : Schemas) → IsAlike (value_text set None) (plain.value_text set None)
none_alike set floats at t value.Void = refl
none_alike set floats at t (value.Truth a) = refl
none_alike set floats at t (value.Number m) = refl
none_alike set floats at t (value.Enum m) = refl
none_alike set floats at t (value.Text xs) = refl
none_alike set floats at t (value.Data xs) = refl
none_alike set floats at t (value.Struct r) = refl
none_alike set floats at t (value.Group r) = refl
none_alike set floats at t (value.Elements vs) = refl
none_alike set floats at t (value.Untyped x) = refl
none_alike set floats at t (value.Fault kind) = refl
none_alike set floats at t (value.Missing l) = refl
none_alike set floats at t value.Elsewhere = refl

some_alike : (set : Schemas) (inner : Inner) (bare : plain.Inner) → IsAlike inner bare → IsAlike (value_text set (Some inner)) (plain.value_text set (Some bare))
some_alike set inner bare h floats at t value.Void = refl
some_alike set inner bare h floats at t (value.Truth a) = refl
some_alike set inner bare h floats at t (value.Number m) = refl
some_alike set inner bare h floats at t (value.Enum m) = refl
some_alike set inner bare h floats at t (value.Text xs) = refl
some_alike set inner bare h floats at t (value.Data xs) = refl
some_alike set inner bare h floats at t (value.Struct r) = record_alike set inner bare h at (struct_number t) r
some_alike set inner bare h floats at t (value.Group r) = refl
some_alike set inner bare h floats at t (value.Elements vs) =
    list_refusal at (element_texts set (inner floats) (deeper at) (element_type t) vs)
    ∙ (elements_alike set inner bare h floats (deeper at) (element_type t) vs ∙ sym (list_refusal at (element_texts set bare (deeper at) (element_type t) vs)))
some_alike set inner bare h floats at t (value.Untyped x) = refl
some_alike set inner bare h floats at t (value.Fault kind) = refl
some_alike set inner bare h floats at t (value.Missing l) = refl
some_alike set inner bare h floats at t value.Elsewhere = refl

within_alike : (set : Schemas) (n : ℕ) → IsAlike (text_within set n) (plain.text_within set n)
within_alike set zero = none_alike set
within_alike set (suc n) = some_alike set (text_within set n) (plain.text_within set n) (within_alike set n)

pub same_refusal : (set : Schemas) (floats indented : Bool) (t : SchemaType) (v : Value) → text_refusal (float_text_of set floats indented t v) ≡ text_refusal (text_of set indented t v)
same_refusal set floats indented t v = part_alike set (text_within set 64) (plain.text_within set 64) (within_alike set 64) floats (cond indented (Some 0) None) VoidValue t v

-- a text that is refused with its floats is refused without them
refused_as : (x y : Out) (kind : ErrorKind) → text_refusal x ≡ text_refusal y → x ≡ Err kind → y ≡ Err kind
refused_as x (Ok pieces) kind e h = absurd (none_some (sym e ∙ ap text_refusal h))
  where
    none_some : {k : ErrorKind} → None ≡ Some k → ⊥
    none_some e = cc
refused_as x (Err other) kind e h = ap Err (same_some (sym e ∙ ap text_refusal h))
  where
    same_some : {k l : ErrorKind} → Some k ≡ Some l → k ≡ l
    same_some e = cc

pub reached_refused : (set : Schemas) (floats indented : Bool) (y : Reached) (kind : ErrorKind) → reached_float_text set floats indented y ≡ Err kind → reached_text set indented y ≡ Err kind
reached_refused set floats indented (Err other) kind h = h
reached_refused set floats indented (Ok p) kind h =
    refused_as (float_text_of set floats indented p.type (as_printed (is_group_type set p.type) p.value)) (text_of set indented p.type (as_printed (is_group_type set p.type) p.value)) kind
    (same_refusal set floats indented p.type (as_printed (is_group_type set p.type) p.value)) h
