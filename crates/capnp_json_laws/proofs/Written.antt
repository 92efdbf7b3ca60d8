-- The JSON of a value is a value, and stands for its tree.
use Rattle.std.proofs.Common.{◌≡◌, ℕ, zero, suc, Bool, true, false, not, ◌&&◌, ◌||◌, ◌==◌, cond, List, [], ◌∷◌, ◌++◌, codes, Some, None, refl, ap, sym, subst, ◌∙◌, append_assoc}
use Rattle.std.specs.Prelude.{⊤}
use Rattle.std.proofs.lemmas.Str.{IsUtf8-from_is_utf8}
use Rattle.capnp_json_text.specs.Values.{Json, Members}
use Rattle.capnp_json_text.specs.Writing.{string_written}
use Rattle.capnp_schema.specs.Schema.{Schemas, TypedField, field_at, fields_of, is_member}
use Rattle.capnp_schema.specs.Types.{SchemaType, StructType, ListType, struct_number}
use Rattle.capnp_records.specs.Reading.{element_type}
use Rattle.capnp_records.specs.Record as value
use Rattle.capnp_records.specs.Record.{Value, Values, Union, Record, Parts, NoUnion, Active, Unknown, NoValues, MoreValues, is_there}
use Rattle.capnp_records.specs.Text.{Layout, deeper, line}
use Rattle.capnp_json_fields.specs.Marks.{data_form, is_float}
use Rattle.capnp_json_fields.specs.Names.{field_name}
use Rattle.capnp_json_fields.specs.declared.fields.DataForm.{DataForm}
use Rattle.capnp_json_fields.specs.declared.fields.DataForm.TheVariants.{Array}
use Rattle.capnp_json.specs.Json.{element_jsons, form_of, item, item_if, json_levels, json_within, member_items, part_json, plain_items, record_json}
use Rattle.capnp_json.specs.Leaves.{text_json}
use Rattle.capnp_json.specs.Pieces.{IsJson, Out, after, colon, ending, items_left, said, separator}
use Rattle.capnp_from_json.specs.Leaves.{Part, OfElement}
use Rattle.capnp_json_laws.specs.Fitting.{AllFit, Fits, IsShaped, PartsFit, UnionFits, field_part}
use Rattle.capnp_json_laws.specs.Stands.{AreNoMembers, AreNone, IsArray, IsNull, IsObject, IsValue}
use Rattle.capnp_json_laws.specs.Trees.{AreElements, AreItems, ArePlain, IsRecordTree, IsTree, IsUnionTree}
use Rattle.capnp_json_laws.specs.Texts.{JsonIsOneValue}
use Rattle.capnp_json_laws.proofs.Gaps.{colon_read, ending_gap, line_gap, separator_between}
use Rattle.capnp_json_laws.proofs.Holding.{EndsArray, between, array_end, array_more, array_value}
use Rattle.capnp_json_laws.proofs.Leaves.{data_written, enum_written, number_written, said_value, text_value, text_written, truth_written}
use Rattle.capnp_json_laws.proofs.Objects.{EndsObject, object_end, object_more, object_value}
use Rattle.capnp_json_laws.proofs.Spelled.{after_joined, item_joined, said_bytes, said_joined}
use Rattle.capnp_json_laws.proofs.Words.{null_value}

-- a group is written where it is a part alone
abbrev IsAlone : Value → Type 0
IsAlone (value.Group r) = ⊥
IsAlone v = ⊤

-- what is to be shown of all values at so many levels
abbrev AreWritten : Schemas → ℕ → Type 0
AreWritten set n =
    (at : Layout) (floats : Bool) (form : DataForm) (p : Part) (t : SchemaType) (v : Value) (bytes : List ℕ) → IsAlone v → Fits set p t v
    → IsJson (json_within set n at (record { floats = floats; bytes = form }) t v) bytes → IsValue bytes (IsTree set n floats form t v)

-- ---- items ----

abbrev IsRest : List Out → (Members → Type 0) → Layout → Type 0
IsRest xs Are at = (first : Bool) (bytes : List ℕ) → IsJson (items_left (codes "}") at first xs) bytes → EndsObject first bytes Are

item_written : (shown : Bool) (at : Layout) (first : Bool) (f : TypedField) (json : Out) (xs : List Out) (Is : Json → Type 0) (Are : Members → Type 0) (bytes : List ℕ)
    → (shown ≡ true → (text : List ℕ) → IsJson json text → IsValue text Is) → IsRest xs Are at
    → IsJson (items_left (codes "}") at first (item_if shown (item at f json) ++ xs)) bytes → EndsObject first bytes (AreItems shown (field_name f.field) Is Are)
item_written false at first f json xs Is Are bytes value rest h = rest first bytes h
item_written true at first f json xs Is Are bytes value rest h =
    let r = item_joined (separator at first) (item at f json) (items_left (codes "}") at false xs) bytes h in
    let s = after_joined (text_json (field_name f.field)) (after (said (colon at)) json) r.front r.first in
    let name = text_written (field_name f.field) s.front s.first in
    let c = said_joined (colon at) json s.back s.second in
    let front : r.front ≡ string_written (field_name f.field) ++ (colon at ++ c.back) = s.whole ∙ ap (λ x. x ++ s.back) name.1 ∙ ap (λ x. string_written (field_name f.field) ++ x) c.whole in
    subst (λ x. EndsObject first x (AreItems true (field_name f.field) Is Are))
    (sym (r.whole ∙ ap (λ x. x ++ (r.front ++ r.back)) (separator_between at first) ∙ ap (λ x. between first (line at) ++ (x ++ r.back)) front))
    (object_more first (line at) (field_name f.field) (colon at) c.back r.back Is Are (line_gap at) (IsUtf8-from_is_utf8 (field_name f.field) name.0) (colon_read at) (value refl c.back c.second) (rest false r.back r.second))

nothing_written : (at : Layout) → IsRest [] AreNoMembers at
nothing_written at first bytes h =
    subst (λ x. EndsObject first x AreNoMembers) (sym (said_bytes (ending at first ++ codes "}") bytes h)) (object_end first (ending at first) (ending_gap at first))

shown_no_member : (member there : Bool) → (not member && there) ≡ true → member ≡ false
shown_no_member true there e = let no : ⊥ = cc in absurd no
shown_no_member false there e = refl

of_number : (set : Schemas) (t : SchemaType) (b g : ℕ) (r : Record) → t ≡ StructType b g → IsShaped set b r → IsShaped set (struct_number t) r
of_number set t b g r e h = subst (λ x. IsShaped set x r) (sym (ap struct_number e)) h

-- ---- parts and records ----

none_behind : (xs : List Out) → xs ++ [] ≡ xs
none_behind [] = refl
none_behind (x ∷ xs) = ap (λ y. x ∷ y) (none_behind xs)

mutual
  part_written : (set : Schemas) (n : ℕ) → AreWritten set n → (at : Layout) (floats : Bool) (form : DataForm) (p : Part) (t : SchemaType) (v : Value) (bytes : List ℕ) → Fits set p t v
      → IsJson (part_json set (json_within set n) at (record { floats = floats; bytes = form }) t v) bytes → IsValue bytes (IsTree set n floats form t v)
  part_written set n all at floats form p t (value.Group r) bytes fits h = record_written set n all at (struct_number t) r bytes (of_number set t fits.1 fits.2 r fits.3 fits.4) h
  part_written set n all at floats form p t v bytes fits h = all at floats form p t v bytes tt fits h

  record_written : (set : Schemas) (n : ℕ) → AreWritten set n → (at : Layout) (b : ℕ) (r : Record) (bytes : List ℕ) → IsShaped set b r
      → IsJson (record_json set (json_within set n) at b r) bytes → IsValue bytes (IsObject (IsRecordTree set n b r))
  record_written set n all at b (Parts vs u) bytes fits h =
      let items : List Out = plain_items set (json_within set n) (deeper at) (fields_of set b) vs ++ member_items set (json_within set n) (deeper at) b u in
      let r = said_joined (codes "{") (items_left (codes "}") (deeper at) true items) bytes h in
      subst (λ x. IsValue x (IsObject (IsRecordTree set n b (Parts vs u)))) (sym r.whole)
      (object_value r.back (IsRecordTree set n b (Parts vs u))
      (plain_written set n all (deeper at) true (fields_of set b) vs b u r.back fits.0
      (λ first more. union_written set n all (deeper at) b u first more fits.1) r.second))

  -- the union's items stand behind them
  plain_written : (set : Schemas) (n : ℕ) → AreWritten set n → (at : Layout) (first : Bool) (fs : List TypedField) (vs : Values) (b : ℕ) (u : Union) (bytes : List ℕ) → PartsFit set fs vs
      → IsRest (member_items set (json_within set n) at b u) (IsUnionTree set n b u) at
      → IsJson (items_left (codes "}") at first (plain_items set (json_within set n) at fs vs ++ member_items set (json_within set n) at b u)) bytes
      → EndsObject first bytes (ArePlain set n fs vs (IsUnionTree set n b u))
  plain_written set n all at first fs NoValues b u bytes fits rest h = rest first bytes h
  plain_written set n all at first [] (MoreValues v vs) b u bytes fits rest h = absurd fits
  plain_written set n all at first (f ∷ fs) (MoreValues v vs) b u bytes fits rest h =
      let json : Out = part_json set (json_within set n) at (form_of f) f.type v in
      let us : List Out = member_items set (json_within set n) at b u in
      let more : List Out = plain_items set (json_within set n) at fs vs in
      item_written (not (is_member f.field) && is_there v) at first f json (more ++ us) (IsTree set n (is_float f) (data_form f) f.type v) (ArePlain set n fs vs (IsUnionTree set n b u)) bytes
      (λ e text k. part_written set n all at (is_float f) (data_form f) (field_part f) f.type v text (fits.1 (shown_no_member (is_member f.field) (is_there v) e)) k)
      (λ next bytes' k. plain_written set n all at next fs vs b u bytes' fits.2 rest k)
      (subst (λ l. IsJson (items_left (codes "}") at first l) bytes) (append_assoc (item_if (not (is_member f.field) && is_there v) (item at f json)) more us) h)

  union_written : (set : Schemas) (n : ℕ) → AreWritten set n → (at : Layout) (b : ℕ) (u : Union) (first : Bool) (bytes : List ℕ) → UnionFits set b u
      → IsJson (items_left (codes "}") at first (member_items set (json_within set n) at b u)) bytes → EndsObject first bytes (IsUnionTree set n b u)
  union_written set n all at b NoUnion first bytes fits h = nothing_written at first bytes h
  union_written set n all at b (Unknown number) first bytes fits h = nothing_written at first bytes h
  union_written set n all at b (Active i v) first bytes fits h =
      let f : TypedField = field_at set b i in
      let json : Out = part_json set (json_within set n) at (form_of f) f.type v in
      item_written (is_there v || not (f.field.discriminant_value == 0)) at first f json [] (IsTree set n (is_float f) (data_form f) f.type v) AreNoMembers bytes
      (λ e text k. part_written set n all at (is_float f) (data_form f) (field_part f) f.type v text fits.2 k)
      (nothing_written at)
      (subst (λ l. IsJson (items_left (codes "}") at first l) bytes) (sym (none_behind (item_if (is_there v || not (f.field.discriminant_value == 0)) (item at f json)))) h)

-- ---- elements ----

element_alone : (set : Schemas) (t : SchemaType) (v : Value) → Fits set OfElement t v → IsAlone v
element_alone set t (value.Group r) fits = let no : ⊥ = cc in absurd no
element_alone set t v fits = tt

elements_written : (set : Schemas) (n : ℕ) → AreWritten set n → (at : Layout) (floats : Bool) (form : DataForm) (t : SchemaType) (first : Bool) (vs : Values) (bytes : List ℕ) → AllFit set t vs
    → IsJson (items_left (codes "]") at first (element_jsons (json_within set n) at (record { floats = floats; bytes = form }) t vs)) bytes → EndsArray first bytes (AreElements set n floats form t vs)
elements_written set n all at floats form t first NoValues bytes fits h =
    subst (λ x. EndsArray first x AreNone) (sym (said_bytes (ending at first ++ codes "]") bytes h)) (array_end first (ending at first) (ending_gap at first))
elements_written set n all at floats form t first (MoreValues v vs) bytes fits h =
    let r = item_joined (separator at first) (json_within set n at (record { floats = floats; bytes = form }) t v)
    (items_left (codes "]") at false (element_jsons (json_within set n) at (record { floats = floats; bytes = form }) t vs)) bytes h in
    subst (λ x. EndsArray first x (AreElements set n floats form t (MoreValues v vs))) (sym (r.whole ∙ ap (λ y. y ++ (r.front ++ r.back)) (separator_between at first)))
    (array_more first (line at) r.front r.back (IsTree set n floats form t v) (AreElements set n floats form t vs) (line_gap at)
    (all at floats form OfElement t v r.front (element_alone set t v fits.0) fits.0 r.first)
    (elements_written set n all at floats form t false vs r.back fits.1 r.second))

-- ---- values ----

of_list : (set : Schemas) (t e : SchemaType) (vs : Values) → t ≡ ListType e → AllFit set e vs → AllFit set (element_type t) vs
of_list set t e vs q h = subst (λ x. AllFit set x vs) (sym (ap element_type q)) h

struct_written : (set : Schemas) (n : ℕ) → AreWritten set n → (at : Layout) (floats : Bool) (form : DataForm) (t : SchemaType) (r : Record) (bytes : List ℕ) → IsShaped set (struct_number t) r
    → IsJson (record_json set (json_within set n) at (struct_number t) r) bytes → IsValue bytes (IsTree set (suc n) floats form t (value.Struct r))
struct_written set n all at floats form t r bytes fits h =
    let v = record_written set n all at (struct_number t) r bytes fits h in
    record {
      utf8 = v.utf8;
      first = v.first;
      others = v.others;
      begins = v.begins;
      no_blank = v.no_blank;
      no_end = v.no_end;
      read = v.read;
      stands = λ whole rest f. (n, refl, v.stands whole rest f);
    }

list_written : (set : Schemas) (n : ℕ) → AreWritten set n → (at : Layout) (floats : Bool) (form : DataForm) (t : SchemaType) (vs : Values) (bytes : List ℕ) → AllFit set (element_type t) vs
    → IsJson (json_within set (suc n) at (record { floats = floats; bytes = form }) t (value.Elements vs)) bytes → IsValue bytes (IsTree set (suc n) floats form t (value.Elements vs))
list_written set n all at floats form t vs bytes fits h =
    let e : SchemaType = element_type t in
    let r = said_joined (codes "[") (items_left (codes "]") (deeper at) true (element_jsons (json_within set n) (deeper at) (record { floats = floats; bytes = form }) e vs)) bytes h in
    let v : IsValue (91 ∷ r.back) (IsArray (AreElements set n floats form e vs)) = array_value r.back (AreElements set n floats form e vs) (elements_written set n all (deeper at) floats form e true vs r.back fits r.second) in
    subst (λ x. IsValue x (IsTree set (suc n) floats form t (value.Elements vs))) (sym r.whole)
    (record {
      utf8 = v.utf8;
      first = v.first;
      others = v.others;
      begins = v.begins;
      no_blank = v.no_blank;
      no_end = v.no_end;
      read = v.read;
      stands = λ whole rest f. (n, refl, v.stands whole rest f);
    })

values_written : (set : Schemas) (n : ℕ) → AreWritten set n
values_written set zero at floats form p t value.Void bytes alone fits h = said_value (codes "null") bytes IsNull null_value h
values_written set zero at floats form p t (value.Truth b) bytes alone fits h = truth_written b bytes h
values_written set zero at floats form p t (value.Number x) bytes alone fits h = number_written floats t x bytes fits.1 h
values_written set zero at floats form p t (value.Enum x) bytes alone fits h = enum_written set t fits.2 x bytes fits.3 fits.1 h
values_written set zero at floats form p t (value.Text text) bytes alone fits h = text_value text bytes h
values_written set zero at floats form p t (value.Data bs) bytes alone fits h = data_written form at bs bytes fits.3 h
values_written set zero at floats form p t (value.Struct r) bytes alone fits h = absurd h
values_written set zero at floats form p t (value.Elements vs) bytes alone fits h = absurd h
values_written set zero at floats form p t (value.Untyped x) bytes alone fits h = absurd h
values_written set zero at floats form p t (value.Fault kind) bytes alone fits h = absurd h
values_written set zero at floats form p t (value.Group r) bytes alone fits h = absurd alone
values_written set zero at floats form p t (value.Missing levels) bytes alone fits h = said_value (codes "null") bytes IsNull null_value h
values_written set zero at floats form p t value.Elsewhere bytes alone fits h = absurd fits
values_written set (suc n) at floats form p t value.Void bytes alone fits h = said_value (codes "null") bytes IsNull null_value h
values_written set (suc n) at floats form p t (value.Truth b) bytes alone fits h = truth_written b bytes h
values_written set (suc n) at floats form p t (value.Number x) bytes alone fits h = number_written floats t x bytes fits.1 h
values_written set (suc n) at floats form p t (value.Enum x) bytes alone fits h = enum_written set t fits.2 x bytes fits.3 fits.1 h
values_written set (suc n) at floats form p t (value.Text text) bytes alone fits h = text_value text bytes h
values_written set (suc n) at floats form p t (value.Data bs) bytes alone fits h = data_written form at bs bytes fits.3 h
values_written set (suc n) at floats form p t (value.Struct r) bytes alone fits h =
    struct_written set n (values_written set n) at floats form t r bytes (of_number set t fits.1 fits.2 r fits.3 fits.4) h
values_written set (suc n) at floats form p t (value.Elements vs) bytes alone fits h =
    list_written set n (values_written set n) at floats form t vs bytes (of_list set t fits.1 vs fits.2 fits.3) h
values_written set (suc n) at floats form p t (value.Untyped x) bytes alone fits h = absurd h
values_written set (suc n) at floats form p t (value.Fault kind) bytes alone fits h = absurd h
values_written set (suc n) at floats form p t (value.Group r) bytes alone fits h = absurd alone
values_written set (suc n) at floats form p t (value.Missing levels) bytes alone fits h = said_value (codes "null") bytes IsNull null_value h
values_written set (suc n) at floats form p t value.Elsewhere bytes alone fits h = absurd fits

pub json_written : JsonIsOneValue
json_written set indented p t v bytes fits h = part_written set json_levels (values_written set json_levels) (cond indented (Some 0) None) false Array p t v bytes fits h
