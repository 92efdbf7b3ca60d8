-- Trees of values are read as these values.
use Rattle.std.proofs.Common.{◌≡◌, ℕ, zero, suc, ◌+◌, ◌-◌, ◌<◌, ◌==◌, ◌&&◌, ◌||◌, Bool, true, false, not, cond, List, [], ◌∷◌, length, slice_get, Option, Some, None, Ok, refl, ap, sym, subst, ◌∙◌, arith}
use Rattle.std.specs.Prelude.{⊤, bytes_eq}
use Rattle.std.specs.Option.{option_map, unwrap_or}
use Rattle.std.proofs.lemmas.Bool.{eqb-true, ne_eqb}
use Rattle.std.proofs.lemmas.Option.{slice_get-get_or, slice_get-map, unwrap_or-slice_get}
use Rattle.capnp_schema.specs.Query.{records_of}
use Rattle.capnp_schema.specs.Schema.{Field, FieldKind, Group, Schemas, Slot, TypedField, field_at, fields_of, is_member, no_field, node_of}
use Rattle.capnp_schema.specs.Types.{SchemaType, VoidType, BoolType, IntType, UIntType, EnumType, TextType, DataType, StructType, ListType, AnyPointerType, struct_number}
use Rattle.capnp_records.specs.Default.{default_record}
use Rattle.capnp_records.specs.Facts.Frame.{active_among_found}
use Rattle.capnp_records.specs.Facts.GroupWrite.{bits_at_empty}
use Rattle.capnp_records.specs.Part.{value_count, with_part, with_value}
use Rattle.capnp_records.specs.Reading.{active_among, discriminant, element_type, kind_value, non_union_parts, nth_reading, number_value, record_within, union_of}
use Rattle.capnp_records.specs.Record as value
use Rattle.capnp_records.specs.Record.{Endless, Value, Values, Union, Record, Parts, NoUnion, Active, Unknown, NoValues, MoreValues, is_there}
use Rattle.capnp_schema.specs.SlotValue.{slot_number}
use Rattle.capnp_json_fields.specs.Marks.{data_form, form_by, form_under, has_float_base, is_annotated, is_float, base64_id, float_id, hex_id}
use Rattle.capnp_json_fields.specs.Names.{field_name, field_of_name}
use Rattle.capnp_json_fields.specs.declared.fields.DataForm.{DataForm}
use Rattle.capnp_json_fields.specs.declared.fields.DataForm.TheVariants.{Array}
use Rattle.capnp_json_text.specs.Values as json
use Rattle.capnp_json_text.specs.Values.{Json, Elements, Members, Member}
use Rattle.capnp_from_json.specs.Errors.{Read, refused}
use Rattle.capnp_from_json.specs.Leaves.{OfElement, OfGroup, OfSlot, Part}
use Rattle.capnp_from_json.specs.Records.{Rules, as_elements, as_group, as_struct, element_count, elements_of_json, field_target, first_of_two, is_given, is_past, mark_of, member_given, member_put, member_read, members_of_json, part_of_kind, unless, value_of_json}
use Rattle.capnp_from_json.specs.declared.error.RefusalKind.TheVariants.{SizePastFormat, TooDeep}
use Rattle.capnp_json_laws.specs.AsRead.{HasDistinctNames, as_read, elements_as_read, parts_as_read, record_as_read, union_as_read}
use Rattle.capnp_json_laws.specs.Fitting.{AllFit, AllHaveRoom, Fits, HasRoom, HasUnion, IsMemberAt, IsNoGroup, IsShaped, MayBeNull, PartsFit, PartsHaveRoom, RecordHasRoom, UnionFits, UnionHasRoom, field_part}
use Rattle.capnp_json_laws.specs.Laws.{AreFair, IsMarked, target_of}
use Rattle.capnp_json_laws.specs.Stands.{AreNoMembers}
use Rattle.capnp_json_laws.specs.Trees.{AreElements, AreItems, ArePlain, IsRecordTree, IsTree, IsUnionTree}
use Rattle.capnp_json_laws.proofs.LeavesRead.{bytes_same, data_is_read, enum_is_read, found, null_is_read, number_is_read, same_bytes, text_is_read, truth_is_read, void_is_read}

-- ---- rows of values ----

joined : Values → Values → Values
joined NoValues vs = vs
joined (MoreValues v ws) vs = MoreValues v (joined ws vs)

with_joined : (done : Values) (i : ℕ) (d w : Value) (ds : Values) → value_count done ≡ i → with_value (joined done (MoreValues d ds)) i w ≡ joined done (MoreValues w ds)
unfolding joined
with_joined NoValues zero d w ds e = refl
with_joined NoValues (suc i) d w ds e = let no : ⊥ = omega arith in absurd no
with_joined (MoreValues v vs) zero d w ds e = let no : ⊥ = omega arith in absurd no
with_joined (MoreValues v vs) (suc i) d w ds e = ap (MoreValues v) (with_joined vs i d w ds (omega arith))

one_more : (done : Values) (w : Value) (ds : Values) → joined (joined done (MoreValues w NoValues)) ds ≡ joined done (MoreValues w ds)
unfolding joined
one_more NoValues w ds = refl
one_more (MoreValues v vs) w ds = ap (MoreValues v) (one_more vs w ds)

count_more : (done : Values) (w : Value) → value_count (joined done (MoreValues w NoValues)) ≡ suc (value_count done)
unfolding joined
count_more NoValues w = refl
count_more (MoreValues v vs) w = ap suc (count_more vs w)

joined_nothing : (vs : Values) → joined NoValues vs ≡ vs
unfolding joined
joined_nothing vs = refl

-- ---- what is given ----

-- only fields before this one, and no member
AllBefore : ℕ → List (Option ℕ) → Type 0
AllBefore i [] = ⊤
AllBefore i (None ∷ ms) = ⊥
AllBefore i (Some k ∷ ms) = (k < i) × AllBefore i ms

not_given : (i : ℕ) (ms : List (Option ℕ)) → AllBefore i ms → is_given (Some i) ms ≡ false
unfolding AllBefore
not_given i [] h = refl
not_given i (None ∷ ms) h = absurd h
not_given i (Some k ∷ ms) h = let less : k < i = h.0 in ap (λ q. q || is_given (Some i) ms) (ne_eqb i k (λ e. omega arith)) ∙ not_given i ms h.1

no_member_given : (i : ℕ) (ms : List (Option ℕ)) → AllBefore i ms → is_given None ms ≡ false
unfolding AllBefore
no_member_given i [] h = refl
no_member_given i (None ∷ ms) h = absurd h
no_member_given i (Some k ∷ ms) h = no_member_given i ms h.1

before_next : (i : ℕ) (ms : List (Option ℕ)) → AllBefore i ms → AllBefore (suc i) ms
unfolding AllBefore
before_next i [] h = h
before_next i (None ∷ ms) h = h
before_next i (Some k ∷ ms) h = let less : k < i = h.0 in (omega arith, before_next i ms h.1)

given_next : (i : ℕ) (ms : List (Option ℕ)) → AllBefore i ms → AllBefore (suc i) (Some i ∷ ms)
unfolding AllBefore
given_next i ms h = (omega arith, before_next i ms h)

none_before : AllBefore 0 []
unfolding AllBefore
none_before = tt

-- ---- fields ----

there : (set : Schemas) (b i : ℕ) → i < length (fields_of set b) → slice_get (fields_of set b) i ≡ Some (field_at set b i)
there set b i h = slice_get-get_or (fields_of set b) i no_field h ∙ ap Some (sym (unwrap_or-slice_get (fields_of set b) i no_field))

pub is_there_at : (set : Schemas) (b i : ℕ) (f : TypedField) → slice_get (fields_of set b) i ≡ Some f → field_at set b i ≡ f
is_there_at set b i f here = ap (λ o. unwrap_or o no_field) here

record_there : (set : Schemas) (b i : ℕ) (f : TypedField) → slice_get (fields_of set b) i ≡ Some f → slice_get (records_of set b) i ≡ Some f.field
record_there set b i f here = slice_get-map (λ (x : TypedField). x.field) (fields_of set b) i ∙ ap (option_map (λ (x : TypedField). x.field)) here

field_named : (set : Schemas) → HasDistinctNames set → (b i : ℕ) (f : TypedField) → slice_get (fields_of set b) i ≡ Some f → field_of_name (records_of set b) (field_name f.field) ≡ Some i
field_named set names b i f here =
    found (λ (g : Field). bytes_eq (field_name g) (field_name f.field)) (records_of set b) i f.field (record_there set b i f here) (same_bytes (field_name f.field) (field_name f.field) refl)
    (λ k g less at same. let is : k ≡ i = names.fields b k i g f.field at (record_there set b i f here) (bytes_same (field_name g) (field_name f.field) same) in let no : ⊥ = omega arith in no)

-- a member whose value is read
member_is_read : (rules : Rules) → AreFair rules → (n b i : ℕ) (f : TypedField) (place : ℕ) (j : Json) (ms : Members) (given : List (Option ℕ)) (r : Record) (w : Value)
    → slice_get (fields_of rules.set b) i ≡ Some f → value_of_json rules j n (field_target f) ≡ Ok w → is_given (mark_of f i) given ≡ false
    → members_of_json rules (Member place (field_name f.field) j ms) n b given r ≡ members_of_json rules ms n b (mark_of f i ∷ given) (with_part r f.field i w)
member_is_read rules fair n b i f place j ms given r w here value fresh =
    ap (member_read rules place (value_of_json rules j) (members_of_json rules ms) n b given r) (field_named rules.set fair.names b i f here)
    ∙ ap (λ (g : TypedField). member_given place (is_given (mark_of g i) given) (member_put g i r (members_of_json rules ms n b (mark_of g i ∷ given)) (value_of_json rules j n (field_target g)))) (is_there_at rules.set b i f here)
    ∙ ap (λ q. member_given place q (member_put f i r (members_of_json rules ms n b (mark_of f i ∷ given)) (value_of_json rules j n (field_target f)))) fresh
    ∙ ap (member_put f i r (members_of_json rules ms n b (mark_of f i ∷ given))) value

-- ---- marks ----

form_again : (t : SchemaType) (form : DataForm) → form_under t (form_under t form) ≡ form_under t form
form_again VoidType form = refl
form_again BoolType form = refl
form_again (IntType w) form = refl
form_again (UIntType w) form = refl
form_again (EnumType e) form = refl
form_again TextType form = refl
form_again DataType form = refl
form_again (StructType b g) form = refl
form_again (ListType e) form = refl
form_again AnyPointerType form = refl

array_form : (t : SchemaType) → form_under t Array ≡ Array
array_form VoidType = refl
array_form BoolType = refl
array_form (IntType w) = refl
array_form (UIntType w) = refl
array_form (EnumType e) = refl
array_form TextType = refl
array_form DataType = refl
array_form (StructType b g) = refl
array_form (ListType e) = refl
array_form AnyPointerType = refl

second_true : (a b : Bool) → (a && b) ≡ true → b ≡ true
second_true true b e = e
second_true false b e = let no : ⊥ = cc in absurd no

field_marked : (f : TypedField) → IsMarked (is_float f) (data_form f) f.type
field_marked f = record {
  floats = λ e. second_true (is_annotated float_id f.field.annotations) (has_float_base f.type) e;
  bytes = form_again f.type (form_by (is_annotated base64_id f.field.annotations) (is_annotated hex_id f.field.annotations));
}

-- ---- what a new struct has ----

abbrev new_part : Schemas → TypedField → Value
new_part set f = kind_value (record_within (length set.brands) set Endless [] []) Endless [] [] f.field.kind f.type

abbrev new_union : Schemas → ℕ → Union
new_union set b = union_of (new_part set) (node_of set b) (fields_of set b) []

abbrev if_member : Bool → Value → Value
if_member m v = elim m as (λ _. Value) [ true ↦ value.Elsewhere | false ↦ v ]

new_missing : (group : ℕ → Record) (kind : FieldKind) (t : SchemaType) → MayBeNull (part_of_kind kind) t → kind_value group Endless [] [] kind t ≡ value.Missing Endless
new_missing group (Slot offset default) t may =
    ap (λ q. elim q as (λ _. Value) [ true ↦ nth_reading [] offset Endless t | false ↦ number_value t (slot_number [] offset default t) ]) may
new_missing group (Group node) t may = absurd may

missing_there : (set : Schemas) (p : Part) (t : SchemaType) (fl : Bool) (v : Value) → is_there v ≡ false → Fits set p t v → MayBeNull p t × (as_read set fl t v ≡ value.Missing Endless)
missing_there set p t fl (value.Missing levels) e fits = (fits, refl)
missing_there set p t fl v e fits = let no : ⊥ = cc in absurd no

-- what is not shown is what a new struct has
not_shown : (set : Schemas) (f : TypedField) (v : Value) (m q : Bool) → is_member f.field ≡ m → is_there v ≡ q → (not m && q) ≡ false → (is_member f.field ≡ true → v ≡ value.Elsewhere)
    → (is_member f.field ≡ false → Fits set (field_part f) f.type v) → if_member m (new_part set f) ≡ as_read set (is_float f) f.type v
not_shown set f v true q em eq e elsewhere fits = ap (as_read set (is_float f) f.type) (sym (elsewhere em))
not_shown set f v false true em eq e elsewhere fits = let no : ⊥ = cc in absurd no
not_shown set f v false false em eq e elsewhere fits =
    let missing = missing_there set (field_part f) f.type (is_float f) v eq (fits em) in
    new_missing (record_within (length set.brands) set Endless [] []) f.field.kind f.type missing.0 ∙ sym missing.1

shown_is : (member there : Bool) → (not member && there) ≡ true → member ≡ false
shown_is true there e = let no : ⊥ = cc in absurd no
shown_is false there e = refl

-- ---- fields of an object, one after another ----

abbrev pub AreAt : Schemas → (b i : ℕ) → List TypedField → Type 0
AreAt set b i fs = (k : ℕ) → slice_get (fields_of set b) (i + k) ≡ slice_get fs k

pub first_at : (set : Schemas) (b : ℕ) → AreAt set b 0 (fields_of set b)
first_at set b k = ap (slice_get (fields_of set b)) (let e : 0 + k ≡ k = omega arith in e)

pub here_at : (set : Schemas) (b i : ℕ) (f : TypedField) (fs : List TypedField) → AreAt set b i (f ∷ fs) → slice_get (fields_of set b) i ≡ Some f
here_at set b i f fs at = ap (slice_get (fields_of set b)) (let e : i ≡ i + 0 = omega arith in e) ∙ at 0

pub next_at : (set : Schemas) (b i : ℕ) (f : TypedField) (fs : List TypedField) → AreAt set b i (f ∷ fs) → AreAt set b (suc i) fs
next_at set b i f fs at k = ap (slice_get (fields_of set b)) (let e : suc i + k ≡ i + suc k = omega arith in e) ∙ at (suc k)

plain_mark : (f : TypedField) (i : ℕ) → is_member f.field ≡ false → mark_of f i ≡ Some i
plain_mark f i e = ap (λ (q : Bool). cond q None (Some i)) e

member_mark : (f : TypedField) (i : ℕ) → is_member f.field ≡ true → mark_of f i ≡ None
member_mark f i e = ap (λ (q : Bool). cond q None (Some i)) e

plain_put : (vs : Values) (u : Union) (f : Field) (i : ℕ) (w : Value) → is_member f ≡ false → with_part (Parts vs u) f i w ≡ Parts (with_value vs i w) u
plain_put vs u f i w e = ap (λ q. elim q as (λ _. Record) [ true ↦ Parts vs (Active i w) | false ↦ Parts (with_value vs i w) u ]) e

member_put_in : (vs : Values) (u : Union) (f : Field) (i : ℕ) (w : Value) → is_member f ≡ true → with_part (Parts vs u) f i w ≡ Parts vs (Active i w)
member_put_in vs u f i w e = ap (λ q. elim q as (λ _. Record) [ true ↦ Parts vs (Active i w) | false ↦ Parts (with_value vs i w) u ]) e

module _ (rules : Rules) (fair : AreFair rules) (n b : ℕ) where
  -- what is read behind the fields that are done
  abbrev IsReadFrom : List (Option ℕ) → Members → Values → Values → Union → Union → Type 0
  IsReadFrom given ms vs ws u v = members_of_json rules ms n b given (Parts vs u) ≡ Ok (Parts ws v)

  field_step : (i : ℕ) (f : TypedField) (v w : Value) (done ds ws : Values) (u u' : Union) (given : List (Option ℕ)) (ms : Members) (Behind : Members → Type 0) (shown : Bool)
      → (not (is_member f.field) && is_there v) ≡ shown → slice_get (fields_of rules.set b) i ≡ Some f → value_count done ≡ i → AllBefore i given
      → ((j : Json) → is_member f.field ≡ false → IsTree rules.set n (is_float f) (data_form f) f.type v j → value_of_json rules j n (field_target f) ≡ Ok w)
      → (shown ≡ false → if_member (is_member f.field) (new_part rules.set f) ≡ w)
      → ((given' : List (Option ℕ)) (ms' : Members) → AllBefore (suc i) given' → Behind ms' → IsReadFrom given' ms' (joined (joined done (MoreValues w NoValues)) ds) (joined (joined done (MoreValues w NoValues)) ws) u u')
      → AreItems shown (field_name f.field) (IsTree rules.set n (is_float f) (data_form f) f.type v) Behind ms
      → IsReadFrom given ms (joined done (MoreValues (if_member (is_member f.field) (new_part rules.set f)) ds)) (joined done (MoreValues w ws)) u u'
  field_step i f v w done ds ws u u' given ms Behind true shown here count before value same rest (place, j, others, tree, more, is) =
      let plain : is_member f.field ≡ false = shown_is (is_member f.field) (is_there v) shown in
      let d : Value = if_member (is_member f.field) (new_part rules.set f) in
      let fresh : is_given (mark_of f i) given ≡ false = ap (λ m. is_given m given) (plain_mark f i plain) ∙ not_given i given before in
      ap (λ x. members_of_json rules x n b given (Parts (joined done (MoreValues d ds)) u)) is
      ∙ member_is_read rules fair n b i f place j others given (Parts (joined done (MoreValues d ds)) u) w here (value j plain tree) fresh
      ∙ ap (λ m. members_of_json rules others n b (m ∷ given) (with_part (Parts (joined done (MoreValues d ds)) u) f.field i w)) (plain_mark f i plain)
      ∙ ap (members_of_json rules others n b (Some i ∷ given)) (plain_put (joined done (MoreValues d ds)) u f.field i w plain
      ∙ ap (λ x. Parts x u) (with_joined done i d w ds count ∙ sym (one_more done w ds)))
      ∙ rest (Some i ∷ given) others (given_next i given before) more ∙ ap (λ x. Ok (Parts x u')) (one_more done w ws)
  field_step i f v w done ds ws u u' given ms Behind false shown here count before value same rest are =
      ap (λ x. members_of_json rules ms n b given (Parts x u)) (ap (λ x. joined done (MoreValues x ds)) (same refl) ∙ sym (one_more done w ds))
      ∙ rest given ms (before_next i given before) are ∙ ap (λ x. Ok (Parts x u')) (one_more done w ws)

  -- ---- the union ----

  new_active : (i : ℕ) → HasUnion rules.set b → IsMemberAt rules.set b i → (field_at rules.set b i).field.discriminant_value ≡ 0 → new_union rules.set b ≡ Active i (new_part rules.set (field_at rules.set b i))
  new_active i has member first =
      ap (λ q. elim q as (λ _. Union) [ true ↦ NoUnion | false ↦ active_among (new_part rules.set) (fields_of rules.set b) 0 (discriminant (node_of rules.set b) []) ]) has
      ∙ ap (active_among (new_part rules.set) (fields_of rules.set b) 0) (bits_at_empty _ 16)
      ∙ active_among_found (new_part rules.set) (fields_of rules.set b) 0 i 0 member.inside member.member first (λ j inside other e. member.only j inside other (e ∙ sym first))
      ∙ ap (λ k. Active k (new_part rules.set (field_at rules.set b i))) (let e : 0 + i ≡ i = omega arith in e)

  first_missing : (there : Bool) (k : ℕ) → (there || not (k == 0)) ≡ false → (there ≡ false) × (k ≡ 0)
  first_missing true k e = let no : ⊥ = cc in absurd no
  first_missing false k e = go (k == 0) refl e
    where
      go : (q : Bool) → (k == 0) ≡ q → not q ≡ false → (◌≡◌ {A = Bool} false false) × (k ≡ 0)
      go true f h = (refl, eqb-true k 0 f)
      go false f h = let no : ⊥ = cc in absurd no

  union_step : (i : ℕ) (v w : Value) (vs : Values) (given : List (Option ℕ)) (k : ℕ) (ms : Members) (shown : Bool)
      → (is_there v || not ((field_at rules.set b i).field.discriminant_value == 0)) ≡ shown → HasUnion rules.set b → IsMemberAt rules.set b i → AllBefore k given
      → ((j : Json) → IsTree rules.set n (is_float (field_at rules.set b i)) (data_form (field_at rules.set b i)) (field_at rules.set b i).type v j → value_of_json rules j n (field_target (field_at rules.set b i)) ≡ Ok w)
      → (is_there v ≡ false → new_part rules.set (field_at rules.set b i) ≡ w)
      → AreItems shown (field_name (field_at rules.set b i).field) (IsTree rules.set n (is_float (field_at rules.set b i)) (data_form (field_at rules.set b i)) (field_at rules.set b i).type v) AreNoMembers ms
      → members_of_json rules ms n b given (Parts vs (new_union rules.set b)) ≡ Ok (Parts vs (Active i w))
  union_step i v w vs given k ms true shown has member before value same (place, j, others, tree, none, is) =
      let f : TypedField = field_at rules.set b i in
      let fresh : is_given (mark_of f i) given ≡ false = ap (λ m. is_given m given) (member_mark f i member.member) ∙ no_member_given k given before in
      ap (λ x. members_of_json rules x n b given (Parts vs (new_union rules.set b))) is
      ∙ member_is_read rules fair n b i f place j others given (Parts vs (new_union rules.set b)) w (there rules.set b i member.inside) (value j tree) fresh
      ∙ ap (λ x. members_of_json rules x n b (mark_of f i ∷ given) (with_part (Parts vs (new_union rules.set b)) f.field i w)) none
      ∙ ap Ok (member_put_in vs (new_union rules.set b) f.field i w member.member)
  union_step i v w vs given k ms false shown has member before value same none =
      let is = first_missing (is_there v) (field_at rules.set b i).field.discriminant_value shown in
      ap (λ x. members_of_json rules x n b given (Parts vs (new_union rules.set b))) none
      ∙ ap (λ u. Ok (Parts vs u)) (new_active i has member is.1 ∙ ap (Active i) (same is.0))

-- ---- structs, groups and lists ----

not_zero : (n left : ℕ) → n ≡ suc left → (n == 0) ≡ false
not_zero n left e = ne_eqb n 0 (λ f. omega arith)

struct_by : (rules : Rules) (p : Part) (is_float : Bool) (form : DataForm) (b g n left place : ℕ) (ms : Members) (r : Record) → IsNoGroup p → n ≡ suc left
    → members_of_json rules ms left b [] (default_record rules.set Endless b) ≡ Ok r → value_of_json rules (json.Object place ms) n (target_of (StructType b g) p is_float form) ≡ Ok (value.Struct r)
struct_by rules OfSlot is_float form b g n left place ms r alone e members =
    ap (λ q. unless q (refused TooDeep place) (as_struct (members_of_json rules ms (n - 1) b [] (default_record rules.set Endless b)))) (not_zero n left e)
    ∙ ap as_struct (ap (λ k. members_of_json rules ms k b [] (default_record rules.set Endless b)) (let f : n - 1 ≡ left = omega arith in f) ∙ members)
struct_by rules OfElement is_float form b g n left place ms r alone e members =
    ap (λ q. unless q (refused TooDeep place) (as_struct (members_of_json rules ms (n - 1) b [] (default_record rules.set Endless b)))) (not_zero n left e)
    ∙ ap as_struct (ap (λ k. members_of_json rules ms k b [] (default_record rules.set Endless b)) (let f : n - 1 ≡ left = omega arith in f) ∙ members)
struct_by rules OfGroup is_float form b g n left place ms r alone e members = absurd alone

group_by : (rules : Rules) (p : Part) (is_float : Bool) (form : DataForm) (b g n place : ℕ) (ms : Members) (r : Record) → p ≡ OfGroup
    → members_of_json rules ms n b [] (default_record rules.set Endless b) ≡ Ok r → value_of_json rules (json.Object place ms) n (target_of (StructType b g) p is_float form) ≡ Ok (value.Group r)
group_by rules p is_float form b g n place ms r e members =
    ap (λ x. value_of_json rules (json.Object place ms) n (target_of (StructType b g) x is_float form)) e ∙ ap as_group members

record AreReadElements (rules : Rules) (n : ℕ) (t : SchemaType) (is_float : Bool) (vs : Values) (es : Elements) : Type 0 where
  values : elements_of_json rules es n (target_of t OfElement is_float Array) ≡ Ok (elements_as_read rules.set is_float t vs)
  count : element_count es ≡ value_count vs

list_by : (rules : Rules) (p : Part) (is_float : Bool) (form : DataForm) (e : SchemaType) (n left place : ℕ) (es : Elements) (vs : Values) → n ≡ suc left → is_past rules.set e (value_count vs) ≡ false
    → AreReadElements rules left e is_float vs es → value_of_json rules (json.Array place es) n (target_of (ListType e) p is_float form) ≡ Ok (value.Elements (elements_as_read rules.set is_float e vs))
list_by rules p is_float form e n left place es vs q past r =
    let elements : Read Values = elements_of_json rules es (n - 1) (target_of e OfElement is_float Array) in
    ap (λ x. unless x (refused TooDeep place) (unless (is_past rules.set e (element_count es)) (refused SizePastFormat place) (as_elements elements))) (not_zero n left q)
    ∙ ap (λ x. unless x (refused SizePastFormat place) (as_elements elements)) (ap (is_past rules.set e) r.count ∙ past)
    ∙ ap as_elements (ap (λ k. elements_of_json rules es k (target_of e OfElement is_float Array)) (let f : n - 1 ≡ left = omega arith in f) ∙ r.values)

-- ---- all values ----

module _ (rules : Rules) (fair : AreFair rules) where
  mutual
    pub value_is_read : (n : ℕ) (fl : Bool) (form : DataForm) (p : Part) (t : SchemaType) (v : Value) (j : Json) → IsMarked fl form t → Fits rules.set p t v → HasRoom rules.set t v → IsTree rules.set n fl form t v j
        → value_of_json rules j n (target_of t p fl form) ≡ Ok (as_read rules.set fl t v)
    value_is_read n fl form p t value.Void j marked fits room tree = void_is_read rules n p fl form t j fits.1 tree
    value_is_read n fl form p t (value.Truth b) j marked fits room tree = truth_is_read rules n p fl form t b j fits.1 tree
    value_is_read n fl form p t (value.Number x) j marked fits room tree = number_is_read rules n p form fair fl t x j marked.floats fits.1 tree
    value_is_read n fl form p t (value.Enum x) j marked fits room tree = enum_is_read rules n p fl form fair t fits.2 x j fits.3 fits.1 tree
    value_is_read n fl form p t (value.Text bytes) j marked fits room tree = text_is_read rules n p fl form t bytes j fits.1 fits.2 tree
    value_is_read n fl form p t (value.Data bytes) j marked fits room tree = data_is_read rules n p fl form t bytes j fits.1 fits.2 fits.3 tree
    value_is_read n fl form p t (value.Struct r) j marked (alone, b, g, is, shaped) room (left, q, (place, ms, are, same)) =
        let number : struct_number t ≡ b = ap struct_number is in
        ap (λ x. value_of_json rules x n (target_of t p fl form)) same ∙ ap (λ x. value_of_json rules (json.Object place ms) n (target_of x p fl form)) is
        ∙ struct_by rules p fl form b g n left place ms (record_as_read rules.set b r) alone q (record_is_read left b r ms shaped (subst (λ x. RecordHasRoom rules.set x r) number room) (subst (λ x. IsRecordTree rules.set left x r ms) number are))
        ∙ ap (λ x. Ok (value.Struct (record_as_read rules.set x r))) (sym number)
    value_is_read n fl form p t (value.Group r) j marked (grouped, b, g, is, shaped) room (place, ms, are, same) =
        let number : struct_number t ≡ b = ap struct_number is in
        ap (λ x. value_of_json rules x n (target_of t p fl form)) same ∙ ap (λ x. value_of_json rules (json.Object place ms) n (target_of x p fl form)) is
        ∙ group_by rules p fl form b g n place ms (record_as_read rules.set b r) grouped (record_is_read n b r ms shaped (subst (λ x. RecordHasRoom rules.set x r) number room) (subst (λ x. IsRecordTree rules.set n x r ms) number are))
        ∙ ap (λ x. Ok (value.Group (record_as_read rules.set x r))) (sym number)
    value_is_read n fl form p t (value.Elements vs) j marked (alone, e, is, all) room (left, q, (place, es, are, same)) =
        let element : element_type t ≡ e = ap element_type is in
        let array : form ≡ Array = sym marked.bytes ∙ ap (λ x. form_under x form) is in
        let floats : fl ≡ true → has_float_base e ≡ true = λ on. ap has_float_base (sym is) ∙ marked.floats on in
        let trees : AreElements rules.set left fl Array e vs es = subst (λ x. AreElements rules.set left fl x e vs es) array (subst (λ x. AreElements rules.set left fl form x vs es) element are) in
        let list_room : HasRoom rules.set (ListType e) (value.Elements vs) = subst (λ x. HasRoom rules.set x (value.Elements vs)) is room in
        ap (λ x. value_of_json rules x n (target_of t p fl form)) same ∙ ap (λ x. value_of_json rules (json.Array place es) n (target_of x p fl form)) is
        ∙ list_by rules p fl form e n left place es vs q list_room.0 (elements_are_read left fl e vs es floats all list_room.1 trees)
        ∙ ap (λ x. Ok (value.Elements (elements_as_read rules.set fl x vs))) (sym element)
    value_is_read n fl form p t (value.Untyped x) j marked fits room tree = absurd tree
    value_is_read n fl form p t (value.Fault kind) j marked fits room tree = absurd tree
    value_is_read n fl form p t (value.Missing levels) j marked fits room tree = null_is_read rules n p fl form t j fits tree
    value_is_read n fl form p t value.Elsewhere j marked fits room tree = absurd tree

    elements_are_read : (n : ℕ) (fl : Bool) (t : SchemaType) (vs : Values) (es : Elements) → (fl ≡ true → has_float_base t ≡ true) → AllFit rules.set t vs → AllHaveRoom rules.set t vs → AreElements rules.set n fl Array t vs es
        → AreReadElements rules n t fl vs es
    elements_are_read n fl t NoValues es floats fits room are = record { values = ap (λ x. elements_of_json rules x n (target_of t OfElement fl Array)) are; count = ap element_count are }
    elements_are_read n fl t (MoreValues v vs) es floats fits room (j, others, first, more, same) =
        let one = value_is_read n fl Array OfElement t v j (record { floats = floats; bytes = array_form t }) fits.0 room.0 first in
        let rest = elements_are_read n fl t vs others floats fits.1 room.1 more in
        record {
          values = ap (λ x. elements_of_json rules x n (target_of t OfElement fl Array)) same
              ∙ ap (λ x. first_of_two x (elements_of_json rules others n (target_of t OfElement fl Array))) one
              ∙ ap (first_of_two (Ok (as_read rules.set fl t v))) rest.values;
          count = ap element_count same ∙ ap suc rest.count;
        }

    pub record_is_read : (n b : ℕ) (r : Record) (ms : Members) → IsShaped rules.set b r → RecordHasRoom rules.set b r → IsRecordTree rules.set n b r ms
        → members_of_json rules ms n b [] (default_record rules.set Endless b) ≡ Ok (record_as_read rules.set b r)
    record_is_read n b (Parts vs u) ms shaped room are =
        ap (λ x. members_of_json rules ms n b [] (Parts x (new_union rules.set b))) (sym (joined_nothing (non_union_parts (new_part rules.set) (fields_of rules.set b))))
        ∙ plain_is_read n b 0 (fields_of rules.set b) vs u NoValues [] ms refl (first_at rules.set b) none_before shaped.0 room.0
        (λ given k others values before tree. union_is_read n b u given k others values before shaped.1 room.1 tree) are
        ∙ ap (λ x. Ok (Parts x (union_as_read rules.set b u))) (joined_nothing (parts_as_read rules.set (fields_of rules.set b) vs))

    plain_is_read : (n b i : ℕ) (fs : List TypedField) (vs : Values) (u : Union) (done : Values) (given : List (Option ℕ)) (ms : Members) → value_count done ≡ i → AreAt rules.set b i fs → AllBefore i given → PartsFit rules.set fs vs → PartsHaveRoom rules.set fs vs
        → ((given' : List (Option ℕ)) (k : ℕ) (others : Members) (values : Values) → AllBefore k given' → IsUnionTree rules.set n b u others
        → members_of_json rules others n b given' (Parts values (new_union rules.set b)) ≡ Ok (Parts values (union_as_read rules.set b u)))
        → ArePlain rules.set n fs vs (IsUnionTree rules.set n b u) ms
        → members_of_json rules ms n b given (Parts (joined done (non_union_parts (new_part rules.set) fs)) (new_union rules.set b)) ≡ Ok (Parts (joined done (parts_as_read rules.set fs vs)) (union_as_read rules.set b u))
    plain_is_read n b i [] NoValues u done given ms count at before fits room rest are = rest given i ms (joined done NoValues) before are
    plain_is_read n b i (f ∷ fs) NoValues u done given ms count at before fits room rest are = absurd fits
    plain_is_read n b i [] (MoreValues v vs) u done given ms count at before fits room rest are = absurd fits
    plain_is_read n b i (f ∷ fs) (MoreValues v vs) u done given ms count at before fits room rest are =
        let w : Value = as_read rules.set (is_float f) f.type v in
        field_step rules fair n b i f v (as_read rules.set (is_float f) f.type v) done (non_union_parts (new_part rules.set) fs) (parts_as_read rules.set fs vs) (new_union rules.set b) (union_as_read rules.set b u) given ms
        (ArePlain rules.set n fs vs (IsUnionTree rules.set n b u)) (not (is_member f.field) && is_there v) refl (here_at rules.set b i f fs at) count before
        (λ j plain tree. value_is_read n (is_float f) (data_form f) (field_part f) f.type v j (field_marked f) (fits.1 plain) room.0 tree)
        (λ e. not_shown rules.set f v (is_member f.field) (is_there v) refl refl e fits.0 fits.1)
        (λ given' ms' before' more. plain_is_read n b (suc i) fs vs u (joined done (MoreValues (as_read rules.set (is_float f) f.type v) NoValues)) given' ms'
        (count_more done (as_read rules.set (is_float f) f.type v) ∙ ap suc count) (next_at rules.set b i f fs at) before' fits.2 room.1 rest more)
        are

    union_is_read : (n b : ℕ) (u : Union) (given : List (Option ℕ)) (k : ℕ) (ms : Members) (vs : Values) → AllBefore k given → UnionFits rules.set b u → UnionHasRoom rules.set b u → IsUnionTree rules.set n b u ms
        → members_of_json rules ms n b given (Parts vs (new_union rules.set b)) ≡ Ok (Parts vs (union_as_read rules.set b u))
    union_is_read n b NoUnion given k ms vs before fits room are =
        ap (λ x. members_of_json rules x n b given (Parts vs (new_union rules.set b))) are
        ∙ ap (λ q. Ok (Parts vs (elim q as (λ _. Union) [ true ↦ NoUnion | false ↦ active_among (new_part rules.set) (fields_of rules.set b) 0 (discriminant (node_of rules.set b) []) ]))) fits
    union_is_read n b (Unknown number) given k ms vs before fits room are = ap (λ x. members_of_json rules x n b given (Parts vs (new_union rules.set b))) are
    union_is_read n b (Active i v) given k ms vs before fits room are =
        let f : TypedField = field_at rules.set b i in
        union_step rules fair n b i v (as_read rules.set (is_float f) f.type v) vs given k ms (is_there v || not (f.field.discriminant_value == 0)) refl fits.0 fits.1 before
        (λ j tree. value_is_read n (is_float f) (data_form f) (field_part f) f.type v j (field_marked f) fits.2 room tree)
        (λ e. let missing = missing_there rules.set (field_part f) f.type (is_float f) v e fits.2 in
        new_missing (record_within (length rules.set.brands) rules.set Endless [] []) f.field.kind f.type missing.0 ∙ sym missing.1)
        are
