-- The text with floats of a record that a reader sees with some levels left is the text of the whole one, where it has one.
use Rattle.std.specs.Prelude.{ℕ, zero, suc, ◌≡◌, ⊤, refl, List, [], ◌∷◌, ◌++◌, Bool, true, false, not, cond, ◌||◌, ◌==◌, Option, Some, None, Ok, Err, codes}
use Rattle.std.proofs.Common.{ap, sym, subst, ◌∙◌}
use Rattle.std.proofs.lemmas.Bool.{true≢false}
use Rattle.capnp_device.specs.declared.error.ErrorKind.{ErrorKind}
use Rattle.capnp_schema.specs.Schema.{Schemas, TypedField, VoidValue, default_of, field_at, fields_of, is_member, Value as SchemaValue}
use Rattle.capnp_schema.specs.Types.{SchemaType, struct_number}
use Rattle.capnp_records.specs.Default.{read_of}
use Rattle.capnp_records.specs.Reading.{element_type}
use Rattle.capnp_records.specs.Record as value
use Rattle.capnp_records.specs.Record.{Active, MoreValues, Endless, NoValues, NoUnion, Parts, Record, Union, Unknown, Value, Values, is_there}
use Rattle.capnp_records.specs.Text.{Layout, Member, Out, Pieces, before, deeper, element_texts, item, item_if, later, member_rest, said_text, stands_before}
use Rattle.capnp_records.proofs.Cut.{AllCut, Cuts, RecordCuts, UnionCuts, cuts_there, read_cut}
use Rattle.capnp_records.proofs.Printed.{AllRefine, MemberRefines, Refines, after_refines, append_refine, before_same, list_refine, refines_same, rest_refines, struct_refine}
use Rattle.capnp_json_fields.specs.Marks.{is_float}
use Rattle.capnp_float_texts.specs.Texts.{Inner, float_text_of, member, part_text, record_text, shown, text_within, value_text}

-- ---- what is cut refines ----

abbrev InnerRefines : Inner → Type 0
InnerRefines inner = (floats : Bool) (at : Layout) (t : SchemaType) (v w : Value) → Cuts v w → Refines (inner floats at t v) (inner floats at t w)

abbrev FaultFails : Inner → Type 0
FaultFails inner = (floats : Bool) (at : Layout) (t : SchemaType) (kind : ErrorKind) (pieces : Pieces) → inner floats at t (value.Fault kind) ≡ Ok pieces → ⊥

err_text : {kind : ErrorKind} {pieces : Pieces} → Err kind ≡ Ok pieces → ⊥
err_text e = cc

item_refines : (f : TypedField) (o p : Out) → Refines o p → Refines (item f o) (item f p)
item_refines f o p h = after_refines (said_text (f.field.name ++ codes " = ")) (said_text (f.field.name ++ codes " = ")) o p (refines_same (said_text (f.field.name ++ codes " = "))) h

shown_one : (a b : Bool) → a ≡ b → (o p : Out) → Refines o p → AllRefine (item_if a o) (item_if b p)
shown_one true true e o p h = (h, tt)
shown_one false false e o p h = tt
shown_one true false e o p h = absurd (true≢false e)
shown_one false true e o p h = absurd (true≢false (sym e))

before_refines : (m n : Member) (p q : Bool) → MemberRefines m n → p ≡ q → AllRefine (cond p (member_rest m) []) (cond q (member_rest n) [])
before_refines m n true true k e = rest_refines m n k
before_refines m n false false k e = tt
before_refines m n true false k e = absurd (true≢false e)
before_refines m n false true k e = absurd (true≢false (sym e))

later_refines : (m n : Member) (p q : Bool) → MemberRefines m n → p ≡ q → MemberRefines (cond p None m) (cond q None n)
later_refines m n true true k e = tt
later_refines m n false false k e = k
later_refines m n true false k e = absurd (true≢false e)
later_refines m n false true k e = absurd (true≢false (sym e))

module _ (set : Schemas) (inner : Inner) (refines : InnerRefines inner) (fails : FaultFails inner) where
  read_refines : (floats : Bool) (at : Layout) (d : SchemaValue) (t : SchemaType) (v w : Value) → Cuts v w → Refines (inner floats at t (read_of set d t v)) (inner floats at t (read_of set d t w))
  read_refines floats at d t v w h = refines floats at t (read_of set d t v) (read_of set d t w) (read_cut set d t v w h)

  -- a field, by what is shown of it and of those behind it
  field_refines : (at : Layout) (f : TypedField) (fs : List TypedField) (i : ℕ) (v w : Value) (vs ws : Values) (m n : Member)
      → ((x y : Member) → MemberRefines x y → AllRefine (shown set inner at fs (suc i) vs x) (shown set inner at fs (suc i) ws y)) → MemberRefines m n → Cuts v w
      → Refines (part_text set inner (is_float f) at (default_of f.field) f.type v) (part_text set inner (is_float f) at (default_of f.field) f.type w) → (q : Bool)
      → AllRefine
      (elim q as (λ _. List Out) [
        | true ↦ shown set inner at fs (suc i) vs m
        | false ↦ before m i ++ item_if (is_there v) (item f (part_text set inner (is_float f) at (default_of f.field) f.type v)) ++ shown set inner at fs (suc i) vs (later m i)
      ])
      (elim q as (λ _. List Out) [
        | true ↦ shown set inner at fs (suc i) ws n
        | false ↦ before n i ++ item_if (is_there w) (item f (part_text set inner (is_float f) at (default_of f.field) f.type w)) ++ shown set inner at fs (suc i) ws (later n i)
      ])
  field_refines at f fs i v w vs ws m n others k cut part true = others m n k
  field_refines at f fs i v w vs ws m n others k cut part false =
      append_refine _ _ _ _
      (append_refine _ _ _ _ (before_refines m n (stands_before m i) (stands_before n i) k (before_same m n i k)) (shown_one (is_there v) (is_there w) (cuts_there v w cut) _ _ (item_refines f _ _ part)))
      (others (later m i) (later n i) (later_refines m n (stands_before m i) (stands_before n i) k (before_same m n i k)))

  mutual
    part_refines : (floats : Bool) (at : Layout) (d : SchemaValue) (t : SchemaType) (v w : Value) → Cuts v w → Refines (part_text set inner floats at d t v) (part_text set inner floats at d t w)
    part_refines floats at d t (value.Group r) (value.Group s) h = record_refines at (struct_number t) r s h
    part_refines floats at d t (value.Fault kind) w h = λ pieces e. absurd (fails floats at t kind pieces e)
    part_refines floats at d t value.Void value.Void h = read_refines floats at d t value.Void value.Void h
    part_refines floats at d t (value.Truth a) (value.Truth b) h = read_refines floats at d t (value.Truth a) (value.Truth b) h
    part_refines floats at d t (value.Number m) (value.Number n) h = read_refines floats at d t (value.Number m) (value.Number n) h
    part_refines floats at d t (value.Enum m) (value.Enum n) h = read_refines floats at d t (value.Enum m) (value.Enum n) h
    part_refines floats at d t (value.Text xs) (value.Text ys) h = read_refines floats at d t (value.Text xs) (value.Text ys) h
    part_refines floats at d t (value.Data xs) (value.Data ys) h = read_refines floats at d t (value.Data xs) (value.Data ys) h
    part_refines floats at d t (value.Struct r) (value.Struct s) h = read_refines floats at d t (value.Struct r) (value.Struct s) h
    part_refines floats at d t (value.Elements vs) (value.Elements ws) h = read_refines floats at d t (value.Elements vs) (value.Elements ws) h
    part_refines floats at d t (value.Untyped x) (value.Untyped y) h = read_refines floats at d t (value.Untyped x) (value.Untyped y) h
    part_refines floats at d t (value.Missing l) (value.Missing Endless) h = read_refines floats at d t (value.Missing l) (value.Missing Endless) h
    part_refines floats at d t value.Elsewhere value.Elsewhere h = read_refines floats at d t value.Elsewhere value.Elsewhere h
    part_refines floats at d t v w h = absurd h

    record_refines : (at : Layout) (b : ℕ) (r s : Record) → RecordCuts r s → Refines (record_text set inner at b r) (record_text set inner at b s)
    record_refines at b (Parts vs u) (Parts ws v) h =
        struct_refine at (fields_of set b) _ _
        (shown_refines (deeper at) (fields_of set b) 0 vs ws (member set inner (deeper at) b u) (member set inner (deeper at) b v) h.0 (member_refines (deeper at) b u v h.1))

    shown_refines : (at : Layout) (fs : List TypedField) (i : ℕ) (vs ws : Values) (m n : Member) → AllCut vs ws → MemberRefines m n → AllRefine (shown set inner at fs i vs m) (shown set inner at fs i ws n)
    shown_refines at fs i NoValues NoValues m n h k = rest_refines m n k
    shown_refines at fs i NoValues (MoreValues w ws) m n h k = absurd h
    shown_refines at fs i (MoreValues v vs) NoValues m n h k = absurd h
    shown_refines at [] i (MoreValues v vs) (MoreValues w ws) m n h k = rest_refines m n k
    shown_refines at (f ∷ fs) i (MoreValues v vs) (MoreValues w ws) m n h k =
        field_refines at f fs i v w vs ws m n (λ x y j. shown_refines at fs (suc i) vs ws x y h.1 j) k h.0 (part_refines (is_float f) at (default_of f.field) f.type v w h.0) (is_member f.field)

    member_refines : (at : Layout) (b : ℕ) (u v : Union) → UnionCuts u v → MemberRefines (member set inner at b u) (member set inner at b v)
    member_refines at b NoUnion NoUnion h = tt
    member_refines at b (Unknown m) (Unknown n) h = tt
    member_refines at b (Active i x) (Active j y) h =
        subst (λ k. MemberRefines (member set inner at b (Active i x)) (member set inner at b (Active k y))) h.0 (
          refl,
          shown_one (is_there x || not ((field_at set b i).field.discriminant_value == 0)) (is_there y || not ((field_at set b i).field.discriminant_value == 0))
              (ap (λ q. q || not ((field_at set b i).field.discriminant_value == 0)) (cuts_there x y h.1)) _ _
              (item_refines (field_at set b i) _ _ (part_refines (is_float (field_at set b i)) at (default_of (field_at set b i).field) (field_at set b i).type x y h.1)),
        )
    member_refines at b u v h = absurd h

  elements_refine : (floats : Bool) (at : Layout) (t : SchemaType) (vs ws : Values) → AllCut vs ws → AllRefine (element_texts set (inner floats) at t vs) (element_texts set (inner floats) at t ws)
  elements_refine floats at t NoValues NoValues h = tt
  elements_refine floats at t NoValues (MoreValues w ws) h = absurd h
  elements_refine floats at t (MoreValues v vs) NoValues h = absurd h
  elements_refine floats at t (MoreValues v vs) (MoreValues w ws) h = (refines floats at t _ _ (read_cut set VoidValue t v w h.0), elements_refine floats at t vs ws h.1)

-- ---- a value, by the text of what stands further in ----

abbrev StandsIn : Option Inner → Type 0
StandsIn None = ⊤
StandsIn (Some inner) = InnerRefines inner × FaultFails inner

same_text : (o p : Out) → o ≡ p → Refines o p
same_text o p e pieces h = sym e ∙ h

value_refines : (set : Schemas) (inner : Option Inner) → StandsIn inner → InnerRefines (value_text set inner)
value_refines set inner h floats at t value.Void value.Void c = refines_same (value_text set inner floats at t value.Void)
value_refines set inner h floats at t (value.Truth a) (value.Truth b) c = same_text _ _ (ap (λ q. value_text set inner floats at t (value.Truth q)) c)
value_refines set inner h floats at t (value.Number m) (value.Number n) c = same_text _ _ (ap (λ q. value_text set inner floats at t (value.Number q)) c)
value_refines set inner h floats at t (value.Enum m) (value.Enum n) c = same_text _ _ (ap (λ q. value_text set inner floats at t (value.Enum q)) c)
value_refines set inner h floats at t (value.Text xs) (value.Text ys) c = same_text _ _ (ap (λ q. value_text set inner floats at t (value.Text q)) c)
value_refines set inner h floats at t (value.Data xs) (value.Data ys) c = same_text _ _ (ap (λ q. value_text set inner floats at t (value.Data q)) c)
value_refines set None h floats at t (value.Struct r) (value.Struct s) c = λ pieces e. absurd (err_text e)
value_refines set (Some inner) h floats at t (value.Struct r) (value.Struct s) c = record_refines set inner h.0 h.1 at (struct_number t) r s c
value_refines set inner h floats at t (value.Group r) (value.Group s) c = refines_same (said_text [])
value_refines set None h floats at t (value.Elements vs) (value.Elements ws) c = λ pieces e. absurd (err_text e)
value_refines set (Some inner) h floats at t (value.Elements vs) (value.Elements ws) c = list_refine at _ _ (elements_refine set inner h.0 h.1 floats (deeper at) (element_type t) vs ws c)
value_refines set inner h floats at t (value.Untyped x) (value.Untyped y) c = refines_same (value_text set inner floats at t (value.Untyped x))
value_refines set inner h floats at t (value.Fault kind) w c = λ pieces e. absurd (err_text e)
value_refines set inner h floats at t (value.Missing l) (value.Missing Endless) c = refines_same (value_text set inner floats at t (value.Missing l))
value_refines set inner h floats at t value.Elsewhere value.Elsewhere c = refines_same (value_text set inner floats at t value.Elsewhere)
value_refines set inner h floats at t v w c = absurd c

value_fails : (set : Schemas) (inner : Option Inner) → FaultFails (value_text set inner)
value_fails set inner floats at t kind pieces e = err_text e

-- ---- texts of so many levels ----

text_fails : (set : Schemas) (n : ℕ) → FaultFails (text_within set n)
text_fails set zero = value_fails set None
text_fails set (suc n) = value_fails set (Some (text_within set n))

text_refines : (set : Schemas) (n : ℕ) → InnerRefines (text_within set n)
text_refines set zero = value_refines set None tt
text_refines set (suc n) = value_refines set (Some (text_within set n)) (text_refines set n, text_fails set n)

pub float_text_refines : (set : Schemas) (floats indented : Bool) (t : SchemaType) (v w : Value) → Cuts v w → Refines (float_text_of set floats indented t v) (float_text_of set floats indented t w)
float_text_refines set floats indented t v w c =
    part_refines set (text_within set 64) (text_refines set 64) (text_fails set 64) floats (cond indented (Some 0) None) VoidValue t v w c
