-- The types along a path are those of the fields and elements that its steps name, whatever stands there.
use Rattle.std.specs.Prelude.{⊤}
use Rattle.std.proofs.Common.{ℕ, ◌≡◌, refl, List, [], ◌∷◌, Bool, true, false, Option, Some, None, Ok, Err, length, nat_lt, ◌<◌, ◌≤◌, ◌⊎◌, inl, inr, sym, subst}
use Rattle.std.proofs.lemmas.Bool.{ltb-false, ltb-true}
use Rattle.std.proofs.lemmas.Option.{slice_get_past}
use Rattle.std.specs.Option.{unwrap_or}
use Rattle.capnp_device.specs.declared.error.ErrorKind.{ErrorKind}
use Rattle.capnp_device.specs.declared.error.ErrorKind.TheVariants.{FieldNotFound, InactiveMember, NoSuchElement}
use Rattle.capnp_schema.specs.Facts.Fields.{brand_there}
use Rattle.capnp_schema.specs.Query.{field_named, records_of}
use Rattle.capnp_schema.specs.Ranges.{HasRanges, HasWidths}
use Rattle.capnp_schema.specs.Schema.{Schemas, TypedField, field_at, fields_of, no_field}
use Rattle.capnp_schema.specs.Types.{AnyPointerType, BoolType, DataType, EnumType, IntType, ListType, SchemaType, StructType, TextType, UIntType, VoidType}
use Rattle.capnp_records.specs.Call.{ElementAt, FieldNamed, FieldNumber, PathStep}
use Rattle.capnp_records.specs.Default.{read_of}
use Rattle.capnp_records.specs.Part.{value_count}
use Rattle.capnp_records.specs.Record as value
use Rattle.capnp_records.specs.Record.{NoValues, Record, Value, Values}
use Rattle.capnp_records.specs.Step.{Found, StepTarget, element_target, field_found, field_target, in_list, in_record, step_target, walked_by_type, walked_result}
use Rattle.capnp_patch.specs.Gets.{Part, Reached, handed_value, is_empty, path_read, reached_value, step_read, target_read, tested_found, tested_type}

-- ---- one step ----

abbrev pub named_type : Schemas → ℕ → Option ℕ → Option SchemaType
named_type set b None = None
named_type set b (Some i) = Some (field_at set b i).type

abbrev pub type_behind : Schemas → SchemaType → PathStep → Option SchemaType
type_behind set (StructType b g) (FieldNumber i) = Some (field_at set b i).type
type_behind set (StructType b g) (FieldNamed name) = named_type set b (field_named (records_of set b) name)
type_behind set (StructType b g) (ElementAt i) = None
type_behind set (ListType e) s = Some e
type_behind set t s = None

-- a target that is found has a type
abbrev pub FoundAs : Found → Option SchemaType → Type 0
FoundAs (Err kind) o = ⊤
FoundAs (Ok x) o = o ≡ Some x.type

field_as : (set : Schemas) (whole : Record → Value) (r : Record) (b : ℕ) (o : Option ℕ) → FoundAs (field_found set whole r b o) (named_type set b o)
field_as set whole r b None = tt
field_as set whole r b (Some i) = go (nat_lt i (length (fields_of set b)))
  where
    go : (q : Bool) → FoundAs (elim q as (λ _. Found) [ true ↦ Ok (field_target whole r (field_at set b i) i) | false ↦ Err FieldNotFound ]) (Some (field_at set b i).type)
    go true = refl
    go false = tt

record_as : (set : Schemas) (whole : Record → Value) (r : Record) (b g : ℕ) (s : PathStep) → FoundAs (in_record set whole r b s) (type_behind set (StructType b g) s)
record_as set whole r b g (FieldNumber i) = field_as set whole r b (Some i)
record_as set whole r b g (FieldNamed name) = field_as set whole r b (field_named (records_of set b) name)
record_as set whole r b g (ElementAt i) = tt

list_as : (e : SchemaType) (vs : Values) (s : PathStep) → FoundAs (in_list e vs s) (Some e)
list_as e vs (FieldNumber i) = tt
list_as e vs (FieldNamed name) = tt
list_as e vs (ElementAt i) = go (nat_lt i (value_count vs))
  where
    go : (q : Bool) → FoundAs (elim q as (λ _. Found) [ true ↦ Ok (element_target e vs i) | false ↦ Err NoSuchElement ]) (Some e)
    go true = refl
    go false = tt

pub target_as : (set : Schemas) (t : SchemaType) (v : Value) (s : PathStep) → FoundAs (step_target set t v s) (type_behind set t s)
target_as set (StructType b g) (value.Struct r) s = record_as set value.Struct r b g s
target_as set (StructType b g) (value.Group r) s = record_as set value.Group r b g s
target_as set (StructType b g) value.Void s = tt
target_as set (StructType b g) (value.Truth x) s = tt
target_as set (StructType b g) (value.Number x) s = tt
target_as set (StructType b g) (value.Enum x) s = tt
target_as set (StructType b g) (value.Text x) s = tt
target_as set (StructType b g) (value.Data x) s = tt
target_as set (StructType b g) (value.Elements x) s = tt
target_as set (StructType b g) (value.Untyped x) s = tt
target_as set (StructType b g) (value.Fault x) s = tt
target_as set (StructType b g) (value.Missing x) s = tt
target_as set (StructType b g) value.Elsewhere s = tt
target_as set (ListType e) (value.Elements vs) s = list_as e vs s
target_as set (ListType e) (value.Missing l) s = list_as e NoValues s
target_as set (ListType e) (value.Struct r) s = tt
target_as set (ListType e) (value.Group r) s = tt
target_as set (ListType e) value.Void s = tt
target_as set (ListType e) (value.Truth x) s = tt
target_as set (ListType e) (value.Number x) s = tt
target_as set (ListType e) (value.Enum x) s = tt
target_as set (ListType e) (value.Text x) s = tt
target_as set (ListType e) (value.Data x) s = tt
target_as set (ListType e) (value.Untyped x) s = tt
target_as set (ListType e) (value.Fault x) s = tt
target_as set (ListType e) value.Elsewhere s = tt
target_as set VoidType v s = tt
target_as set BoolType v s = tt
target_as set (IntType n) v s = tt
target_as set (UIntType n) v s = tt
target_as set (EnumType n) v s = tt
target_as set TextType v s = tt
target_as set DataType v s = tt
target_as set AnyPointerType v s = tt

by_type_as : (x : StepTarget) (t : SchemaType) (o : Option SchemaType) → o ≡ Some x.type → FoundAs (walked_by_type x t) o
by_type_as x (StructType b g) o h = h
by_type_as x (ListType e) o h = h
by_type_as x VoidType o h = tt
by_type_as x BoolType o h = tt
by_type_as x (IntType n) o h = tt
by_type_as x (UIntType n) o h = tt
by_type_as x (EnumType n) o h = tt
by_type_as x TextType o h = tt
by_type_as x DataType o h = tt
by_type_as x AnyPointerType o h = tt

-- the tests keep it
pub walked_as : (f : Found) (o : Option SchemaType) → FoundAs f o → FoundAs (walked_result f) o
walked_as (Err kind) o h = tt
walked_as (Ok x) o h = go x.inactive
  where
    go : (q : Bool) → FoundAs (elim q as (λ _. Found) [ true ↦ Err InactiveMember | false ↦ walked_by_type x x.type ]) o
    go true = tt
    go false = by_type_as x x.type o h

tested_as : (is_last : Bool) (f : Found) (o : Option SchemaType) → FoundAs f o → FoundAs (tested_found is_last f) o
tested_as is_last (Err kind) o h = tt
tested_as is_last (Ok x) o h = go x.inactive
  where
    last : (is_last : Bool) → FoundAs (tested_type is_last x x.type) o
    last true = h
    last false = by_type_as x x.type o h

    go : (q : Bool) → FoundAs (elim q as (λ _. Found) [ true ↦ Err InactiveMember | false ↦ tested_type is_last x x.type ]) o
    go true = tt
    go false = last is_last

-- ---- a path ----

-- the type at its end
abbrev pub type_along : Schemas → List PathStep → Option SchemaType → Option SchemaType
type_along set [] o = o
type_along set (s ∷ ss) None = None
type_along set (s ∷ ss) (Some t) = type_along set ss (type_behind set t s)

abbrev ReachedAs : Reached → Option SchemaType → Type 0
ReachedAs (Err kind) o = ⊤
ReachedAs (Ok p) o = o ≡ Some p.type

value_as : (t : SchemaType) (v : Value) → ReachedAs (reached_value t v) (Some t)
value_as t (value.Fault kind) = tt
value_as t (value.Struct r) = refl
value_as t (value.Group r) = refl
value_as t value.Void = refl
value_as t (value.Truth x) = refl
value_as t (value.Number x) = refl
value_as t (value.Enum x) = refl
value_as t (value.Text x) = refl
value_as t (value.Data x) = refl
value_as t (value.Elements x) = refl
value_as t (value.Untyped x) = refl
value_as t (value.Missing x) = refl
value_as t value.Elsewhere = refl

reads_as : (set : Schemas) (f : Found) (o : Option SchemaType) → FoundAs f o → ReachedAs (target_read set f) o
reads_as set (Err kind) o h = tt
reads_as set (Ok x) o h = subst (ReachedAs (target_read set (Ok x))) (sym h) (value_as x.type (handed_value x.is_group (read_of set x.default x.type x.part)))

refused_as : (set : Schemas) (path : List PathStep) (kind : ErrorKind) (o : Option SchemaType) → ReachedAs (path_read set path (Err kind)) o
refused_as set [] kind o = tt
refused_as set (s ∷ ss) kind o = tt

path_as : (set : Schemas) (path : List PathStep) (r : Reached) (o : Option SchemaType) → ReachedAs r o → ReachedAs (path_read set path r) (type_along set path o)
path_as set path (Err kind) o h = refused_as set path kind (type_along set path o)
path_as set [] (Ok p) o h = h
path_as set (s ∷ ss) (Ok p) o h =
    subst (λ (q : Option SchemaType). ReachedAs (path_read set ss (step_read set (is_empty ss) p s)) (type_along set (s ∷ ss) q)) (sym h)
    (path_as set ss (step_read set (is_empty ss) p s) (type_behind set p.type s)
    (reads_as set (tested_found (is_empty ss) (step_target set p.type p.value s)) (type_behind set p.type s) (tested_as (is_empty ss) (step_target set p.type p.value s) (type_behind set p.type s) (target_as set p.type p.value s))))

-- what is read at the end of a path has its type
pub read_type : (set : Schemas) (path : List PathStep) (p q : Part) → path_read set path (Ok p) ≡ Ok q → type_along set path (Some p.type) ≡ Some q.type
read_type set path p q h = subst (λ (r : Reached). ReachedAs r (type_along set path (Some p.type))) h (path_as set path (Ok p) (Some p.type) refl)

-- ---- widths ----

cases_lt : (i n : ℕ) → (i < n) ⊎ (n ≤ i)
cases_lt i n = go (nat_lt i n) refl
  where
    go : (q : Bool) → nat_lt i n ≡ q → (i < n) ⊎ (n ≤ i)
    go true e = inl (ltb-true i n e)
    go false e = inr (ltb-false i n e)

abbrev WidthsAs : Option SchemaType → Type 0
WidthsAs None = ⊤
WidthsAs (Some t) = HasWidths t

module _ (set : Schemas) (ranges : HasRanges set) where
  field_widths : (b i : ℕ) → HasWidths (field_at set b i).type
  field_widths b i = go (cases_lt i (length (fields_of set b)))
    where
      go : (i < length (fields_of set b)) ⊎ (length (fields_of set b) ≤ i) → HasWidths (field_at set b i).type
      go (inl inside) = ranges.types b i (brand_there set b i inside) inside
      go (inr past) = subst (λ (o : Option TypedField). HasWidths (unwrap_or o no_field).type) (sym (slice_get_past (fields_of set b) i past)) tt

  named_widths : (b : ℕ) (o : Option ℕ) → WidthsAs (named_type set b o)
  named_widths b None = tt
  named_widths b (Some i) = field_widths b i

  behind_widths : (t : SchemaType) (s : PathStep) → HasWidths t → WidthsAs (type_behind set t s)
  behind_widths (StructType b g) (FieldNumber i) h = field_widths b i
  behind_widths (StructType b g) (FieldNamed name) h = named_widths b (field_named (records_of set b) name)
  behind_widths (StructType b g) (ElementAt i) h = tt
  behind_widths (ListType e) s h = h
  behind_widths VoidType s h = tt
  behind_widths BoolType s h = tt
  behind_widths (IntType n) s h = tt
  behind_widths (UIntType n) s h = tt
  behind_widths (EnumType n) s h = tt
  behind_widths TextType s h = tt
  behind_widths DataType s h = tt
  behind_widths AnyPointerType s h = tt

  along_widths : (path : List PathStep) (o : Option SchemaType) → WidthsAs o → WidthsAs (type_along set path o)
  along_widths [] o h = h
  along_widths (s ∷ ss) None h = tt
  along_widths (s ∷ ss) (Some t) h = along_widths ss (type_behind set t s) (behind_widths t s h)

  pub end_widths : (path : List PathStep) (b g : ℕ) (t : SchemaType) → type_along set path (Some (StructType b g)) ≡ Some t → HasWidths t
  end_widths path b g t h = subst WidthsAs h (along_widths path (Some (StructType b g)) tt)
