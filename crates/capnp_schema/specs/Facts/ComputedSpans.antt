-- Footprints as spans, and whether they meet, as they compute.
use Rattle.std.proofs.Common.{ℕ, zero, suc, ◌≡◌, ◌+◌, ◌*◌, ◌&&◌, ◌||◌, ◌==◌, nat_lt, nat_le, ⊎_elim, Bool, true, false, not, List, [], ◌∷◌, ◌++◌, length, arith, refl, sym, ap₂, ◌∙◌, Option, Some, None}
use Rattle.std.specs.List.{list_all}
use Rattle.std.proofs.lemmas.Bool.Decides.{nat_tests, Decides-eqb}
use Rattle.capnp_schema.specs.Types.{SchemaType, is_pointer, struct_brand, width}
use Rattle.capnp_schema.specs.Schema.{Schemas, Node, FieldKind, Slot, Group, TypedField, node_of, fields_of, field_at, is_member}
use Rattle.capnp_schema.specs.Footprint.{Spot, DataBit, PointerAt, is_in, slot_names, group_names, kind_names, some_field, brand_names, discriminant_names, footprint}
use Rattle.capnp_schema.specs.Accepted.{FieldsApart, DiscriminantApart, Rule11, Rule12}
use Rattle.capnp_schema.specs.declared.check.spans.Span.{Span}
use Rattle.capnp_schema.specs.declared.check.spans.Span.TheVariants.{Data, Pointer}
use Rattle.capnp_schema.specs.Steps.Checking.Spans.{span_names, some_span}
use Rattle.capnp_schema.specs.Facts.Computed.{both, either, all_below, passes_below, all_fields, each_field}

-- ---- the spans of a field ----

abbrev pub pointer_spans : Bool → ℕ → List Span
pointer_spans true offset = Pointer offset ∷ []
pointer_spans false offset = []

abbrev pub slot_spans : ℕ → SchemaType → List Span
slot_spans offset t = Data (offset * width t) (width t) ∷ pointer_spans (is_pointer t) offset

abbrev pub group_spans : (ℕ → List Span) → Option ℕ → List Span
group_spans group None = []
group_spans group (Some g) = group g

abbrev pub kind_spans : (ℕ → List Span) → FieldKind → SchemaType → List Span
kind_spans group (Slot offset default) t = slot_spans offset t
kind_spans group (Group node) t = group_spans group (struct_brand t)

abbrev pub spans_of_fields : (TypedField → List Span) → List TypedField → List Span
spans_of_fields spans [] = []
spans_of_fields spans (f ∷ fs) = spans f ++ spans_of_fields spans fs

abbrev pub discriminant_bits : Bool → ℕ
discriminant_bits true = 16
discriminant_bits false = 0

abbrev pub discriminant_spans : Node → List Span
discriminant_spans n = Data (16 * n.discriminant_offset) (discriminant_bits (nat_lt 0 n.discriminant_count)) ∷ []

abbrev pub brand_spans : ℕ → Schemas → ℕ → List Span
brand_spans zero set b = []
brand_spans (suc groups) set b = spans_of_fields (λ f. kind_spans (brand_spans groups set) f.field.kind f.type) (fields_of set b) ++ discriminant_spans (node_of set b)

abbrev pub field_spans : Schemas → TypedField → List Span
field_spans set f = kind_spans (brand_spans (length set.brands) set) f.field.kind f.type

-- ---- they name what the field names ----

or_false : (b : Bool) → (b || false) ≡ b
or_false true = refl
or_false false = refl

joined : (xs ys : List Span) (p : Spot) → some_span (xs ++ ys) p ≡ (some_span xs p || some_span ys p)
joined [] ys p = refl
joined (x ∷ xs) ys p = at (span_names x p) (joined xs ys p)
  where
    at : (b : Bool) → some_span (xs ++ ys) p ≡ (some_span xs p || some_span ys p) → (b || some_span (xs ++ ys) p) ≡ ((b || some_span xs p) || some_span ys p)
    at true e = refl
    at false e = e

slot_named : (offset : ℕ) (t : SchemaType) (p : Spot) → some_span (slot_spans offset t) p ≡ slot_names offset t p
slot_named offset t (DataBit i) = at (is_pointer t)
  where
    at : (q : Bool) → (is_in (offset * width t) (width t) i || some_span (pointer_spans q offset) (DataBit i)) ≡ is_in (offset * width t) (width t) i
    at true = or_false (is_in (offset * width t) (width t) i)
    at false = or_false (is_in (offset * width t) (width t) i)
slot_named offset t (PointerAt i) = at (is_pointer t)
  where
    at : (q : Bool) → some_span (pointer_spans q offset) (PointerAt i) ≡ (q && (i == offset))
    at true = or_false (i == offset)
    at false = refl

discriminant_named : (n : Node) (p : Spot) → some_span (discriminant_spans n) p ≡ discriminant_names n p
discriminant_named n (PointerAt i) = refl
discriminant_named n (DataBit i) = or_false _ ∙ at (nat_lt 0 n.discriminant_count)
  where
    at : (q : Bool) → is_in (16 * n.discriminant_offset) (discriminant_bits q) i ≡ (q && is_in (16 * n.discriminant_offset) 16 i)
    at true = refl
    at false = grind (arith, nat_tests)

module _ (set : Schemas) (spans : ℕ → List Span) (names : ℕ → Spot → Bool) (same : (g : ℕ) (p : Spot) → some_span (spans g) p ≡ names g p) where
  kind_named : (k : FieldKind) (t : SchemaType) (p : Spot) → some_span (kind_spans spans k t) p ≡ kind_names names k t p
  kind_named (Slot offset default) t p = slot_named offset t p
  kind_named (Group node) t p = at (struct_brand t)
    where
      at : (o : Option ℕ) → some_span (group_spans spans o) p ≡ group_names names o p
      at None = refl
      at (Some g) = same g p

  fields_named : (fs : List TypedField) (p : Spot) → some_span (spans_of_fields (λ f. kind_spans spans f.field.kind f.type) fs) p ≡ some_field (λ f. kind_names names f.field.kind f.type) fs p
  fields_named [] p = refl
  fields_named (f ∷ fs) p = joined (kind_spans spans f.field.kind f.type) _ p ∙ ap₂ (λ a b. a || b) (kind_named f.field.kind f.type p) (fields_named fs p)

brand_named : (groups : ℕ) (set : Schemas) (b : ℕ) (p : Spot) → some_span (brand_spans groups set b) p ≡ brand_names groups set b p
brand_named zero set b p = refl
brand_named (suc groups) set b p =
    joined (spans_of_fields (λ f. kind_spans (brand_spans groups set) f.field.kind f.type) (fields_of set b)) (discriminant_spans (node_of set b)) p
    ∙ ap₂ (λ x y. x || y) (fields_named set (brand_spans groups set) (brand_names groups set) (brand_named groups set) (fields_of set b) p) (discriminant_named (node_of set b) p)

field_named : (set : Schemas) (f : TypedField) (p : Spot) → some_span (field_spans set f) p ≡ footprint set f p
field_named set f p = kind_named set (brand_spans (length set.brands) set) (brand_names (length set.brands) set) (brand_named (length set.brands) set) f.field.kind f.type p

-- ---- spans that have no place in common ----

abbrev pub are_apart : Span → Span → Bool
are_apart (Data first count) (Data other size) = ((count == 0) || (size == 0)) || (nat_le (first + count) other || nat_le (other + size) first)
are_apart (Data first count) (Pointer y) = true
are_apart (Pointer x) (Data other size) = true
are_apart (Pointer x) (Pointer y) = not (x == y)

bits_apart : (first count other size i : ℕ) → are_apart (Data first count) (Data other size) ≡ true → is_in first count i ≡ true → is_in other size i ≡ false
bits_apart first count other size i e h = grind (arith, nat_tests)

spans_apart : (a b : Span) (p : Spot) → are_apart a b ≡ true → span_names a p ≡ true → span_names b p ≡ false
spans_apart (Data first count) (Data other size) (DataBit i) e h = bits_apart first count other size i e h
spans_apart (Data first count) (Data other size) (PointerAt i) e h = refl
spans_apart (Data first count) (Pointer y) (DataBit i) e h = refl
spans_apart (Data first count) (Pointer y) (PointerAt i) e h = cc
spans_apart (Pointer x) (Data other size) (DataBit i) e h = cc
spans_apart (Pointer x) (Data other size) (PointerAt i) e h = refl
spans_apart (Pointer x) (Pointer y) (DataBit i) e h = refl
spans_apart (Pointer x) (Pointer y) (PointerAt i) e h = grind (arith, nat_tests)

abbrev pub all_apart : List Span → List Span → Bool
all_apart [] bs = true
all_apart (a ∷ rest) bs = list_all (are_apart a) bs && all_apart rest bs

one_apart : (a : Span) (bs : List Span) (p : Spot) → list_all (are_apart a) bs ≡ true → span_names a p ≡ true → some_span bs p ≡ false
one_apart a [] p e h = refl
one_apart a (b ∷ bs) p e h =
    let parts = both (are_apart a b) (list_all (are_apart a) bs) e in
    ap₂ (λ x y. x || y) (spans_apart a b p parts.0 h) (one_apart a bs p parts.1 h)

lists_apart : (xs ys : List Span) (p : Spot) → all_apart xs ys ≡ true → some_span xs p ≡ true → some_span ys p ≡ false
lists_apart [] ys p e h = cc
lists_apart (x ∷ xs) ys p e h =
    let parts = both (list_all (are_apart x) ys) (all_apart xs ys) e in ⊎_elim
    (λ here. one_apart x ys p parts.0 here)
    (λ further. lists_apart xs ys p parts.1 further)
    (either (span_names x p) (some_span xs p) h)

-- ---- rules 11 and 12 ----

abbrev pub field_is_apart : Schemas → ℕ → ℕ → TypedField → Bool
field_is_apart set b i f = is_member f.field || all_below (length (fields_of set b)) (λ j. (i == j) || all_apart (field_spans set f) (field_spans set (field_at set b j)))

abbrev pub meets_rule11 : Schemas → Bool
meets_rule11 set = all_fields set (field_is_apart set)

fields_apart : (set : Schemas) (b i : ℕ) (f : TypedField) → field_is_apart set b i f ≡ true → FieldsApart set b i f
fields_apart set b i f e j p j_in differs non_union named = ⊎_elim
    (λ member. absurd (cc (member, non_union)))
    (λ all. ⊎_elim
    (λ same. absurd (differs ((Decides-eqb i j).0 same)))
    (λ apart. sym (field_named set (field_at set b j) p) ∙ lists_apart (field_spans set f) (field_spans set (field_at set b j)) p apart (field_named set f p ∙ named))
    (either (i == j) (all_apart (field_spans set f) (field_spans set (field_at set b j))) (passes_below (length (fields_of set b)) (λ j. (i == j) || all_apart (field_spans set f) (field_spans set (field_at set b j))) all j j_in)))
    (either (is_member f.field) (all_below (length (fields_of set b)) (λ j. (i == j) || all_apart (field_spans set f) (field_spans set (field_at set b j)))) e)

pub rule11 : (set : Schemas) → meets_rule11 set ≡ true → Rule11 set
rule11 set = each_field set (field_is_apart set) (FieldsApart set) (fields_apart set)

abbrev pub meets_rule12 : Schemas → Bool
meets_rule12 set = all_fields set (λ b i f. all_apart (discriminant_spans (node_of set b)) (field_spans set f))

pub rule12 : (set : Schemas) → meets_rule12 set ≡ true → Rule12 set
rule12 set = each_field set _ (λ b i f. DiscriminantApart set b f) (λ b i f e p named. sym (field_named set f p) ∙ lists_apart (discriminant_spans (node_of set b)) (field_spans set f) p e (discriminant_named (node_of set b) p ∙ named))
