-- The spans of each field of a brand, and the footprints that they stand for.
use Rattle.std.proofs.Common.{ℕ, ◌≡◌, ◌≢◌, ◌+◌, ◌<◌, ◌≤◌, ⊎_elim, Bool, true, false, List, length, get_or, arith, refl, sym, ap, ◌∙◌, Vec, slice_get}
use Rattle.std.proofs.lemmas.Bool.{cases_lt}
use Rattle.std.proofs.lemmas.Option.{slice_get_within, slice_get_read}
use Rattle.std.specs.declared.alloc.Global.{Global}
use Rattle.capnp_schema.specs.Schema.{Schemas, node_of, fields_of, field_at, is_member}
use Rattle.capnp_schema.specs.Footprint.{Spot, footprint, discriminant_names}
use Rattle.capnp_schema.specs.Accepted.{FieldsApart, DiscriminantApart}
use Rattle.capnp_schema.specs.Broken.{FieldBreaks}
use Rattle.capnp_schema.specs.declared.check.spans.Span.{Span}
use Rattle.capnp_schema.specs.Steps.Checking.Spans.{some_span, entry_names, SpansMeet, AreSpansOf, IsSpotNamedBy}
use Rattle.capnp_schema.specs.Tables.{items_of, table_at}
use Rattle.capnp_schema.proofs.EntryTables.{EachTable}
use Rattle.capnp_schema.proofs.Checking.FieldWalk.{one_more}
use Rattle.capnp_schema.proofs.GroupTargets.{field_is}

abbrev pub footprint_at : Schemas → ℕ → ℕ → Spot → Bool
footprint_at set b i p = footprint set (field_at set b i) p

-- spans that name what a field of a brand names
abbrev pub NameWhatField : Schemas → ℕ → ℕ → List Span → Type 0
NameWhatField set b i spans = (p : Spot) → some_span spans p ≡ entry_names (length set.brands) set (slice_get (fields_of set b) i) p

pub spans_of_all : (set : Schemas) (b : ℕ) (spans : List (Vec Span Global)) (n : ℕ) → EachTable (NameWhatField set b) spans n → n ≡ length (fields_of set b) → AreSpansOf set b spans
spans_of_all set b spans n each all = record {
  counted = each.counted ∙ all;
  each = λ i v p e.
      let lt : i < n = (let l = slice_get_within spans i v e in let c = each.counted in omega arith) in
      let here : table_at spans i ≡ v.items = ap items_of e in
      sym (ap (λ (xs : List Span). some_span xs p) here) ∙ each.each i lt p ∙ ap (λ o. entry_names (length set.brands) set o p) (field_is set b i (omega arith));
}

-- what is read at a place of the table
pub record IsReadAt (table : List (Vec Span Global)) (i : ℕ) (x : Vec Span Global) (a : List Span) : Type 0 where
  -- the place is one of the table's
  pub within : i < length table
  -- the vector there
  pub vector : x ≡ get_or table i x
  -- its spans
  pub spans : a ≡ x.items

-- it names what the field names
read_at : (set : Schemas) (b : ℕ) (spans : List (Vec Span Global)) (i : ℕ) (x : Vec Span Global) (a : List Span) (p : Spot) → AreSpansOf set b spans → IsReadAt spans i x a → some_span a p ≡ footprint_at set b i p
read_at set b spans i x a p s r = ap (λ l. some_span l p) r.spans ∙ s.each i x p (slice_get_read spans (length spans) i x refl r.within r.vector)

pub apart_from_spans : (set : Schemas) (b : ℕ) (spans : List (Vec Span Global)) (i j : ℕ) (x y : Vec Span Global) (a c : List Span) → AreSpansOf set b spans
    → IsReadAt spans i x a → IsReadAt spans j y c
    → ((p : Spot) → some_span a p ≡ true → some_span c p ≡ false)
    → (p : Spot) → footprint_at set b i p ≡ true → footprint_at set b j p ≡ false
apart_from_spans set b spans i j x y a c s first second apart p named =
    sym (read_at set b spans j y c p s second) ∙ apart p (read_at set b spans i x a p s first ∙ named)

pub meet_from_spans : (set : Schemas) (b : ℕ) (spans : List (Vec Span Global)) (i j : ℕ) (x y : Vec Span Global) (a c : List Span) → AreSpansOf set b spans
    → b < length set.brands
    → IsReadAt spans i x a → IsReadAt spans j y c
    → is_member (field_at set b i).field ≡ false → i ≢ j → SpansMeet a c → FieldBreaks set (FieldsApart set b i) b i
meet_from_spans set b spans i j x y a c s within here there non_union ne m = record {
  brand = within;
  field = (let l = s.counted in let h = here.within in omega arith);
  broken = λ apart.
      let first : footprint_at set b i m.spot ≡ true = sym (read_at set b spans i x a m.spot s here) ∙ m.first in
      let second : footprint_at set b j m.spot ≡ true = sym (read_at set b spans j y c m.spot s there) ∙ m.second in
      let none : footprint_at set b j m.spot ≡ false = apart j m.spot (let l = s.counted in let h = there.within in omega arith) ne non_union first in
      (cc);
}

-- one more field of the inner loop
pub more_apart : (set : Schemas) (b i j : ℕ)
    → ((k : ℕ) (p : Spot) → k < j → i ≢ k → footprint_at set b i p ≡ true → footprint_at set b k p ≡ false)
    → ((p : Spot) → i ≢ j → footprint_at set b i p ≡ true → footprint_at set b j p ≡ false)
    → (k : ℕ) (p : Spot) → k < j + 1 → i ≢ k → footprint_at set b i p ≡ true → footprint_at set b k p ≡ false
more_apart set b i j before here k p h ne named = ⊎_elim
    (λ lt. before k p lt ne named)
    (λ le. let e : k ≡ j = omega arith in ap (λ x. footprint_at set b x p) e ∙ here p (λ q. ne (q ∙ sym e)) named)
    (cases_lt k j)

-- all fields of the inner loop
pub apart_from_all : (set : Schemas) (b : ℕ) (spans : List (Vec Span Global)) (i n : ℕ) → AreSpansOf set b spans → length spans ≤ n
    → ((k : ℕ) (p : Spot) → k < n → i ≢ k → footprint_at set b i p ≡ true → footprint_at set b k p ≡ false) → FieldsApart set b i (field_at set b i)
apart_from_all set b spans i n s end all j p within ne non_union named = all j p (let l = s.counted in omega arith) ne named

-- one more field of the outer loop
pub more_fields_apart : (set : Schemas) (b i : ℕ) → ((k : ℕ) → k < i → FieldsApart set b k (field_at set b k)) → FieldsApart set b i (field_at set b i) → (k : ℕ) → k < i + 1 → FieldsApart set b k (field_at set b k)
more_fields_apart set b = one_more (λ (k : ℕ). FieldsApart set b k (field_at set b k))

pub apart_from_same : (set : Schemas) (b i j : ℕ) → i ≡ j → (p : Spot) → i ≢ j → footprint_at set b i p ≡ true → footprint_at set b j p ≡ false
apart_from_same set b i j e p ne named = absurd (ne e)

pub apart_from_member : (set : Schemas) (b i : ℕ) → (is_member (field_at set b i).field ≡ false → ⊥) → FieldsApart set b i (field_at set b i)
apart_from_member set b i member j p within ne non_union named = absurd (member non_union)

-- two fields, of which one is non-union, that name a place
pub named_twice : (set : Schemas) (b i j other : ℕ) (p : Spot) → b < length set.brands → IsSpotNamedBy set b p other true i → IsSpotNamedBy set b p i false j → FieldBreaks set (FieldsApart set b i) b i
named_twice set b i j other p within n m = record {
  brand = within;
  field = n.field;
  broken = λ apart. let none : footprint set (field_at set b j) p ≡ false = apart j p m.field (λ e. m.differs (sym e)) (n.is_outside_union refl) n.names in let named = m.names in (cc);
}

-- a field that names a place of the discriminant
pub discriminant_named : (set : Schemas) (b i other : ℕ) (non_union : Bool) (p : Spot) → b < length set.brands → IsSpotNamedBy set b p other non_union i → discriminant_names (node_of set b) p ≡ true → FieldBreaks set (DiscriminantApart set b) b i
discriminant_named set b i other non_union p within n d = record {
  brand = within;
  field = n.field;
  broken = λ apart. let none : footprint set (field_at set b i) p ≡ false = apart p d in let named = n.names in (cc);
}
