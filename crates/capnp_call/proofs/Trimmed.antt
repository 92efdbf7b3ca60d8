-- The text of a value says of an untyped pointer only that it is there.
use Rattle.std.proofs.Common.{ℕ, zero, suc, ◌≡◌, refl, List, [], ◌∷◌, ◌++◌, Bool, true, false, not, cond, ◌||◌, ◌==◌, Option, Some, None, ap, ap₂, subst, sym, ◌∙◌}
use Rattle.capnp_wire.specs.Tree as tree
use Rattle.capnp_schema.specs.Schema.{Schemas, TypedField, VoidValue, default_of, field_at, fields_of, is_member, Value as SchemaValue}
use Rattle.capnp_schema.specs.Types.{SchemaType, struct_number}
use Rattle.capnp_records.specs.Default.{read_of}
use Rattle.capnp_records.specs.Reading.{element_type}
use Rattle.capnp_records.specs.Record as value
use Rattle.capnp_records.specs.Record.{Active, MoreValues, NoValues, NoUnion, Parts, Record, Union, Unknown, Value, Values, is_there}
use Rattle.capnp_records.specs.Text.{Inner, Layout, Member, Out, before, deeper, element_texts, item, item_if, later, list_text, member, part_text, record_text, shown, struct_text, text_of, text_within, value_text}

-- with a null in the place of each tree behind an untyped pointer
abbrev mutual
  pub trimmed : Value → Value
  trimmed (value.Struct r) = value.Struct (trimmed_record r)
  trimmed (value.Group r) = value.Group (trimmed_record r)
  trimmed (value.Elements vs) = value.Elements (trimmed_values vs)
  trimmed (value.Untyped x) = value.Untyped tree.Null
  trimmed v = v

  pub trimmed_values : Values → Values
  trimmed_values NoValues = NoValues
  trimmed_values (MoreValues v vs) = MoreValues (trimmed v) (trimmed_values vs)

  pub trimmed_union : Union → Union
  trimmed_union NoUnion = NoUnion
  trimmed_union (Active i v) = Active i (trimmed v)
  trimmed_union (Unknown d) = Unknown d

  pub trimmed_record : Record → Record
  trimmed_record (Parts vs u) = Parts (trimmed_values vs) (trimmed_union u)

pub trimmed_there : (v : Value) → is_there (trimmed v) ≡ is_there v
trimmed_there (value.Struct r) = refl
trimmed_there (value.Group r) = refl
trimmed_there (value.Elements vs) = refl
trimmed_there (value.Untyped x) = refl
trimmed_there v = refl

-- ---- texts ----

abbrev Trims : Inner → Type 0
Trims inner = (at : Layout) (t : SchemaType) (v : Value) → inner at t (trimmed v) ≡ inner at t v

module _ (set : Schemas) (inner : Inner) (trims : Trims inner) where
  read_trims : (at : Layout) (d : SchemaValue) (t : SchemaType) (v : Value) → inner at t (read_of set d t (trimmed v)) ≡ inner at t (read_of set d t v)
  read_trims at d t (value.Struct r) = trims at t (value.Struct r)
  read_trims at d t (value.Group r) = trims at t (value.Group r)
  read_trims at d t (value.Elements vs) = trims at t (value.Elements vs)
  read_trims at d t (value.Untyped x) = trims at t (value.Untyped x)
  read_trims at d t v = refl

  mutual
    part_trims : (at : Layout) (d : SchemaValue) (t : SchemaType) (v : Value) → part_text set inner at d t (trimmed v) ≡ part_text set inner at d t v
    part_trims at d t (value.Group r) = record_trims at (struct_number t) r
    part_trims at d t (value.Struct r) = read_trims at d t (value.Struct r)
    part_trims at d t (value.Elements vs) = read_trims at d t (value.Elements vs)
    part_trims at d t (value.Untyped x) = read_trims at d t (value.Untyped x)
    part_trims at d t v = refl

    record_trims : (at : Layout) (b : ℕ) (r : Record) → record_text set inner at b (trimmed_record r) ≡ record_text set inner at b r
    record_trims at b (Parts vs u) =
        ap (struct_text at (fields_of set b))
        (shown_trims (deeper at) (fields_of set b) 0 vs (member set inner (deeper at) b (trimmed_union u)) ∙ ap (shown set inner (deeper at) (fields_of set b) 0 vs) (member_trims (deeper at) b u))

    shown_trims : (at : Layout) (fs : List TypedField) (i : ℕ) (vs : Values) (m : Member) → shown set inner at fs i (trimmed_values vs) m ≡ shown set inner at fs i vs m
    shown_trims at fs i NoValues m = refl
    shown_trims at [] i (MoreValues v vs) m = refl
    shown_trims at (f ∷ fs) i (MoreValues v vs) m = go (λ n. shown_trims at fs (suc i) vs n) (part_trims at (default_of f.field) f.type v) (is_member f.field)
      where
        go : ((n : Member) → shown set inner at fs (suc i) (trimmed_values vs) n ≡ shown set inner at fs (suc i) vs n) →
            part_text set inner at (default_of f.field) f.type (trimmed v) ≡ part_text set inner at (default_of f.field) f.type v → (q : Bool) →
            elim q as (λ _. List Out) [ true ↦ shown set inner at fs (suc i) (trimmed_values vs) m | false ↦ before m i ++ item_if (is_there (trimmed v)) (item f (part_text set inner at (default_of f.field) f.type (trimmed v))) ++ shown set inner at fs (suc i) (trimmed_values vs) (later m i) ]
            ≡ elim q as (λ _. List Out) [ true ↦ shown set inner at fs (suc i) vs m | false ↦ before m i ++ item_if (is_there v) (item f (part_text set inner at (default_of f.field) f.type v)) ++ shown set inner at fs (suc i) vs (later m i) ]
        go ih part true = ih m
        go ih part false =
            ap₂ (λ (x y : List Out). before m i ++ x ++ y)
            (ap₂ item_if (trimmed_there v) (ap (item f) part)) (ih (later m i))

    member_trims : (at : Layout) (b : ℕ) (u : Union) → member set inner at b (trimmed_union u) ≡ member set inner at b u
    member_trims at b NoUnion = refl
    member_trims at b (Unknown d) = refl
    member_trims at b (Active i v) =
        ap (λ (x : List Out). Some (i, x))
        (ap₂ item_if (ap (λ q. q || not ((field_at set b i).field.discriminant_value == 0)) (trimmed_there v))
        (ap (item (field_at set b i)) (part_trims at (default_of (field_at set b i).field) (field_at set b i).type v)))

  elements_trim : (at : Layout) (t : SchemaType) (vs : Values) → element_texts set inner at t (trimmed_values vs) ≡ element_texts set inner at t vs
  elements_trim at t NoValues = refl
  elements_trim at t (MoreValues v vs) = ap₂ (λ (x : Out) (xs : List Out). x ∷ xs) (read_trims at VoidValue t v) (elements_trim at t vs)

value_trims : (set : Schemas) (inner : Option Inner) → ((text : Inner) → inner ≡ Some text → Trims text) → Trims (value_text set inner)
value_trims set None h at t (value.Struct r) = refl
value_trims set (Some text) h at t (value.Struct r) = record_trims set text (h text refl) at (struct_number t) r
value_trims set inner h at t (value.Group r) = refl
value_trims set None h at t (value.Elements vs) = refl
value_trims set (Some text) h at t (value.Elements vs) = ap (list_text at) (elements_trim set text (h text refl) (deeper at) (element_type t) vs)
value_trims set inner h at t (value.Untyped x) = refl
value_trims set inner h at t v = refl

some_is : {A : Type 0} (a b : A) → Some a ≡ Some b → a ≡ b
some_is a b e = cc

none_some : {A : Type 0} (a : A) → None ≡ Some a → ⊥
none_some a e = cc

within_trims : (set : Schemas) (n : ℕ) → Trims (text_within set n)
within_trims set zero = value_trims set None (λ text e. absurd (none_some text e))
within_trims set (suc n) = value_trims set (Some (text_within set n)) (λ text e. subst Trims (some_is (text_within set n) text e) (within_trims set n))

-- values that are the same, trees behind untyped pointers aside, have one text
pub text_alike : (set : Schemas) (indented : Bool) (t : SchemaType) (v w : Value) → trimmed v ≡ trimmed w → text_of set indented t v ≡ text_of set indented t w
text_alike set indented t v w e =
    sym (whole v) ∙ (ap (text_of set indented t) e ∙ whole w)
  where
    whole : (x : Value) → text_of set indented t (trimmed x) ≡ text_of set indented t x
    whole x = part_trims set (text_within set 64) (within_trims set 64) (cond indented (Some 0) None) VoidValue t x
