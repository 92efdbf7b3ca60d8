-- Under a set without floats the texts are those that show no floats.
use Rattle.std.proofs.Common.{ℕ, zero, suc, ◌≡◌, ◌==◌, ◌++◌, refl, Bool, true, false, not, ◌||◌, List, [], ◌∷◌, Some, None, ap, ap₂, ◌∙◌, cond}
use Rattle.std.specs.Fmt.{signed_decimal}
use Rattle.std.specs.List.{list_all, slice_get}
use lib.IntN.{ℤ}
use Rattle.std.specs.Option.{unwrap_or}
use Rattle.std.proofs.lemmas.Bool.{and_parts}
use Rattle.capnp_schema.specs.Schema.{Schemas, TypedField, VoidValue, default_of, field_at, fields_of, is_member, no_field, Value as SchemaValue}
use Rattle.capnp_schema.specs.Types.{SchemaType, VoidType, BoolType, IntType, UIntType, EnumType, TextType, DataType, StructType, ListType, AnyPointerType, struct_number}
use Rattle.capnp_records.specs.Default.{read_of}
use Rattle.capnp_records.specs.Reading.{element_type}
use Rattle.capnp_records.specs.Record as value
use Rattle.capnp_records.specs.Record.{Value, Values, Union, Record, Parts, NoUnion, Active, Unknown, NoValues, MoreValues, is_there}
use Rattle.capnp_records.specs.Text as plain
use Rattle.capnp_records.specs.Text.{Layout, Member, Out, before, deeper, element_texts, item, item_if, later, list_text, print_levels, said_text, struct_text}
use Rattle.capnp_json_fields.specs.Marks.{is_float}
use Rattle.capnp_float_texts.specs.Laws.{HasNoFloats, TextsWithoutFloats}
use Rattle.capnp_float_texts.specs.Texts.{Inner, member, number_text, part_text, record_text, shown, text_within, value_text}

-- what stands one level further in has the text without floats
abbrev AreSame : Inner → plain.Inner → Type 0
AreSame inner other = (at : Layout) (t : SchemaType) (v : Value) → inner false at t v ≡ other at t v

not_true : (q : Bool) → not q ≡ true → q ≡ false
not_true true e = cc
not_true false e = refl

-- a field of a list without floats
abbrev NoFloats : List TypedField → Type 0
NoFloats fs = list_all (λ (f : TypedField). not (is_float f)) fs ≡ true

first_none : (f : TypedField) (fs : List TypedField) → NoFloats (f ∷ fs) → is_float f ≡ false
first_none f fs h = not_true (is_float f) (and_parts (not (is_float f)) (list_all (λ (g : TypedField). not (is_float g)) fs) h).0

rest_none : (f : TypedField) (fs : List TypedField) → NoFloats (f ∷ fs) → NoFloats fs
rest_none f fs h = (and_parts (not (is_float f)) (list_all (λ (g : TypedField). not (is_float g)) fs) h).1

at_none : (fs : List TypedField) (i : ℕ) → NoFloats fs → is_float (unwrap_or (slice_get fs i) no_field) ≡ false
at_none [] i h = refl
at_none (f ∷ fs) zero h = first_none f fs h
at_none (f ∷ fs) (suc i) h = at_none fs i (rest_none f fs h)

-- ---- records ----

module _ (set : Schemas) (none : HasNoFloats set) (inner : Inner) (other : plain.Inner) (same : AreSame inner other) where
  mutual
    part_same : (q : Bool) → q ≡ false → (at : Layout) (d : SchemaValue) (t : SchemaType) (v : Value) → part_text set inner q at d t v ≡ plain.part_text set other at d t v
    part_same true e at d t v = cc
    part_same false e at d t (value.Group r) = record_same at (struct_number t) r
    part_same false e at d t value.Void = same at t _
    part_same false e at d t (value.Truth b) = same at t _
    part_same false e at d t (value.Number n) = same at t _
    part_same false e at d t (value.Enum n) = same at t _
    part_same false e at d t (value.Text bs) = same at t _
    part_same false e at d t (value.Data bs) = same at t _
    part_same false e at d t (value.Struct r) = same at t _
    part_same false e at d t (value.Elements vs) = same at t _
    part_same false e at d t (value.Untyped x) = same at t _
    part_same false e at d t (value.Fault kind) = same at t _
    part_same false e at d t (value.Missing l) = same at t _
    part_same false e at d t value.Elsewhere = same at t _

    record_same : (at : Layout) (b : ℕ) (r : Record) → record_text set inner at b r ≡ plain.record_text set other at b r
    record_same at b (Parts parts union) =
        ap (struct_text at (fields_of set b))
        (ap (shown set inner (deeper at) (fields_of set b) 0 parts) (member_same (deeper at) b union)
        ∙ shown_same (deeper at) (fields_of set b) (none b) 0 parts (plain.member set other (deeper at) b union))

    shown_same : (at : Layout) (fs : List TypedField) → NoFloats fs → (i : ℕ) (vs : Values) (m : Member) → shown set inner at fs i vs m ≡ plain.shown set other at fs i vs m
    shown_same at fs h i NoValues m = refl
    shown_same at [] h i (MoreValues v vs) m = refl
    shown_same at (f ∷ fs) h i (MoreValues v vs) m =
        go (is_member f.field) (shown_same at fs (rest_none f fs h) (suc i) vs m) (shown_same at fs (rest_none f fs h) (suc i) vs (later m i))
        (part_same (is_float f) (first_none f fs h) at (default_of f.field) f.type v)
      where
        go : (q : Bool) → shown set inner at fs (suc i) vs m ≡ plain.shown set other at fs (suc i) vs m → shown set inner at fs (suc i) vs (later m i) ≡ plain.shown set other at fs (suc i) vs (later m i) →
            part_text set inner (is_float f) at (default_of f.field) f.type v ≡ plain.part_text set other at (default_of f.field) f.type v →
            (elim q as (λ _. List Out) [
              | true ↦ shown set inner at fs (suc i) vs m
              | false ↦ before m i ++ item_if (is_there v) (item f (part_text set inner (is_float f) at (default_of f.field) f.type v)) ++ shown set inner at fs (suc i) vs (later m i)
            ])
            ≡ (elim q as (λ _. List Out) [
              | true ↦ plain.shown set other at fs (suc i) vs m
              | false ↦ before m i ++ item_if (is_there v) (item f (plain.part_text set other at (default_of f.field) f.type v)) ++ plain.shown set other at fs (suc i) vs (later m i)
            ])
        go true e g p = e
        go false e g p =
            ap₂ (λ (x : Out) (xs : List Out). before m i ++ item_if (is_there v) (item f x) ++ xs) p g

    member_same : (at : Layout) (b : ℕ) (u : Union) → member set inner at b u ≡ plain.member set other at b u
    member_same at b NoUnion = refl
    member_same at b (Unknown number) = refl
    member_same at b (Active i v) =
        ap (λ (x : Out). Some (i, item_if (is_there v || not ((field_at set b i).field.discriminant_value == 0)) (item (field_at set b i) x)))
        (part_same (is_float (field_at set b i)) (at_none (fields_of set b) i (none b)) at (default_of (field_at set b i).field) (field_at set b i).type v)

-- ---- values ----

number_same : (t : SchemaType) (n : ℤ) → number_text false t n ≡ signed_decimal n
number_same VoidType n = refl
number_same BoolType n = refl
number_same (IntType bytes) n = refl
number_same (UIntType bytes) n = go (bytes == 8) (bytes == 4)
  where
    go : (p q : Bool) → cond p (signed_decimal n) (cond q (signed_decimal n) (signed_decimal n)) ≡ signed_decimal n
    go true q = refl
    go false true = refl
    go false false = refl
number_same (EnumType number) n = refl
number_same TextType n = refl
number_same DataType n = refl
number_same (StructType number generic) n = refl
number_same (ListType element) n = refl
number_same AnyPointerType n = refl

elements_same : (set : Schemas) (inner other : plain.Inner) → ((at : Layout) (t : SchemaType) (v : Value) → inner at t v ≡ other at t v) → (at : Layout) (t : SchemaType) (vs : Values) →
    element_texts set inner at t vs ≡ element_texts set other at t vs
elements_same set inner other same at t NoValues = refl
elements_same set inner other same at t (MoreValues v vs) = ap₂ (λ (x : Out) (xs : List Out). x ∷ xs) (same at t (read_of set VoidValue t v)) (elements_same set inner other same at t vs)

-- with no level left
none_same : (set : Schemas) → AreSame (value_text set None) (plain.value_text set None)
none_same set at t value.Void = refl
none_same set at t (value.Truth b) = refl
none_same set at t (value.Number n) = ap said_text (number_same t n)
none_same set at t (value.Enum n) = refl
none_same set at t (value.Text bs) = refl
none_same set at t (value.Data bs) = refl
none_same set at t (value.Struct r) = refl
none_same set at t (value.Elements vs) = refl
none_same set at t (value.Untyped x) = refl
none_same set at t (value.Fault kind) = refl
none_same set at t (value.Group r) = refl
none_same set at t (value.Missing l) = refl
none_same set at t value.Elsewhere = refl

some_same : (set : Schemas) → HasNoFloats set → (inner : Inner) (other : plain.Inner) → AreSame inner other → AreSame (value_text set (Some inner)) (plain.value_text set (Some other))
some_same set none inner other same at t value.Void = refl
some_same set none inner other same at t (value.Truth b) = refl
some_same set none inner other same at t (value.Number n) = ap said_text (number_same t n)
some_same set none inner other same at t (value.Enum n) = refl
some_same set none inner other same at t (value.Text bs) = refl
some_same set none inner other same at t (value.Data bs) = refl
some_same set none inner other same at t (value.Struct r) = record_same set none inner other same at (struct_number t) r
some_same set none inner other same at t (value.Elements vs) = ap (list_text at) (elements_same set (inner false) other same (deeper at) (element_type t) vs)
some_same set none inner other same at t (value.Untyped x) = refl
some_same set none inner other same at t (value.Fault kind) = refl
some_same set none inner other same at t (value.Group r) = refl
some_same set none inner other same at t (value.Missing l) = refl
some_same set none inner other same at t value.Elsewhere = refl

within_same : (set : Schemas) → HasNoFloats set → (levels : ℕ) → AreSame (text_within set levels) (plain.text_within set levels)
within_same set none zero = none_same set
within_same set none (suc levels) = some_same set none (text_within set levels) (plain.text_within set levels) (within_same set none levels)

pub unmarked : TextsWithoutFloats
unmarked set indented t v none =
    part_same set none (text_within set print_levels) (plain.text_within set print_levels) (within_same set none print_levels) false refl (cond indented (Some 0) None) VoidValue t v
