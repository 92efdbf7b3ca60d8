-- The first part of a struct or list that is refused is found by index.
use Rattle.std.proofs.Common.{ℕ, ◌+◌, ◌<◌, ◌≤◌, ◌≡◌, refl, List, [], ◌∷◌, ◌++◌, length, Bool, true, false, Option, Some, None, MatchOption, ap, sym, subst, arith, ◌∙◌}
use Rattle.capnp_device.specs.declared.error.ErrorKind.{ErrorKind}
use Rattle.capnp_schema.specs.FieldLists.{IsFieldOf, index_of}
use Rattle.capnp_schema.specs.Schema.{Schemas, TypedField, VoidValue, default_of}
use Rattle.capnp_schema.specs.StructHandles.{number_of, set_of, struct_field, struct_fields}
use Rattle.capnp_schema.specs.declared.schema.fields.Field.{Field as FieldHandle}
use Rattle.capnp_schema.specs.declared.schema.structs.StructSchema.{StructSchema}
use Rattle.capnp_records.specs.Default.{read_of}
use Rattle.capnp_records.specs.Facts.ListValues.{below_of, count_values_from, nth_values_from}
use Rattle.capnp_records.specs.Part.{nth_value}
use Rattle.capnp_records.specs.Reading.{element_value}
use Rattle.capnp_records.specs.Record.{Left, Value}
use Rattle.capnp_records.specs.Text.{part_text, text_within}
use Rattle.capnp_wire.specs.Standing.{list_levels, list_of}
use Rattle.capnp_dynamic_readers.specs.Handles.{element_of, list_reader_of, list_set, schema_of}
use Rattle.capnp_dynamic_readers.specs.Reads.{element_seen}
use Rattle.capnp_dynamic_readers.specs.Seen.{record_seen}
use Rattle.capnp_dynamic_readers.specs.Shown.{printed_text, set_seen}
use Rattle.capnp_dynamic_readers.specs.Steps.GroupTexts.{is_item}
use Rattle.capnp_dynamic_readers.specs.Steps.Shown.{count_of, element_shown, elements_from, field_shown, list_shown, part_seen, record_shown}
use Rattle.capnp_dynamic_readers.specs.declared.dynamic_list.Reader.{Reader as ListHandle}
use Rattle.capnp_dynamic_readers.specs.declared.dynamic_struct.Reader.{Reader as StructHandle}
use Rattle.capnp_dynamic_readers.specs.declared.dynamic_value.Reader.{Reader as DynamicValue}
use Rattle.capnp_check.specs.Places.{IsFirstStep, IsPathTo, RefusedAs, TextParts, field_refusal, part_parts, parts_after, root_parts, value_parts}
use Rattle.capnp_check.specs.Refusals.{text_refusal}
use Rattle.capnp_check.specs.ShownFields.{is_shown}
use Rattle.capnp_check.specs.Steps.PlaceSteps.{IsElementSaid, IsElementUnsaid, IsFieldRefused, IsFieldSaid, IsOpenIn, IsStepBelow, own_number, parts_refusal, parts_seen}
use Rattle.capnp_check.specs.Steps.Walks.{first_refusal, or_later}
use Rattle.capnp_check.specs.declared.parts_below.OpenValue.{OpenValue}
use Rattle.capnp_check.specs.declared.parts_below.OpenValue.TheVariants as opened
use Rattle.capnp_check.specs.declared.place.PlaceStep.{PlaceStep}
use Rattle.capnp_check.specs.declared.place.PlaceStep.TheVariants.{Field, Element}
use Rattle.capnp_dynamic_readers.specs.Facts.ItemsInOrder.{by_order, from_end, from_here, from_next, own_items}
use Rattle.capnp_check.proofs.Layouts.{any_lines}
use Rattle.capnp_check.proofs.OpenValues.{part_refusal, root_refusal, value_refusal}
use Rattle.capnp_check.proofs.Refused.{elements_end, elements_next, elements_refusal, elements_start, first_append, item_refusal, own_refusal, record_refusal}
use Rattle.capnp_check.proofs.Shown.{shown_item, shown_part}

-- below the next number is below this one, or at it
below_next : {P : ℕ → Type 0} (i j : ℕ) → j < i + 1 → ((k : ℕ) → k < i → P k) → P i → P j
below_next {P = P} i j lt before here = by_order j i (λ less. before j less) (λ same. subst P (sym same) here) (λ more. absurd (omega (arith, lt, more)))

-- ---- the fields of a struct ----

-- those before an index have texts, where they are shown; so the struct's refusal is that of those from there on
pub record FieldsSaid (left : ℕ) (h : StructHandle) (i : ℕ) : Type 0 where
  pub before : (j : ℕ) → j < i → IsFieldSaid left h j
  pub rest : text_refusal (record_shown left None h) ≡ first_refusal (from_here left None h i)

module _ (left : ℕ) (h : StructHandle) where
  abbrev field_of : ℕ → TypedField
  field_of i = struct_field (schema_of h) i

  abbrev refusal_of : ℕ → Option ErrorKind
  refusal_of i = text_refusal (field_shown left None h (struct_field (schema_of h) i))

  pub fields_start : FieldsSaid left h 0
  fields_start = record { before = λ j lt. absurd (omega (arith, lt)); rest = record_refusal left h }

  own_first : (i : ℕ) → i < length (struct_fields (schema_of h)) → (q : Bool) → is_shown (record_seen h) (struct_field (schema_of h) i).field i ≡ q →
      first_refusal (from_here left None h i) ≡ or_later (own_refusal q (refusal_of i)) (first_refusal (from_here left None h (i + 1)))
  own_first i lt q e =
      ap first_refusal (from_next left None h i lt)
      ∙ (first_append (own_items left None h i) (from_here left None h (i + 1))
      ∙ (ap (λ (o : Option ErrorKind). or_later o (first_refusal (from_here left None h (i + 1)))) (item_refusal (is_item h (field_of i) i) (field_of i) (field_shown left None h (field_of i)))
      ∙ ap (λ (b : Bool). or_later (own_refusal b (refusal_of i)) (first_refusal (from_here left None h (i + 1)))) (sym (shown_item h i lt) ∙ e)))

  pub fields_past : (i : ℕ) → i < length (struct_fields (schema_of h)) → FieldsSaid left h i → IsFieldSaid left h i → FieldsSaid left h (i + 1)
  fields_past i lt said own = record {
    before = λ j next. below_next {P = IsFieldSaid left h} i j next said.before own;
    rest = said.rest ∙ go (is_shown (record_seen h) (struct_field (schema_of h) i).field i) refl own;
  }
    where
      go : (q : Bool) → is_shown (record_seen h) (struct_field (schema_of h) i).field i ≡ q → (q ≡ true → refusal_of i ≡ None) → first_refusal (from_here left None h i) ≡ first_refusal (from_here left None h (i + 1))
      go true e own = own_first i lt true e ∙ ap (λ (o : Option ErrorKind). or_later o (first_refusal (from_here left None h (i + 1)))) (own refl)
      go false e own = own_first i lt false e

  pub fields_end : (i : ℕ) → length (struct_fields (schema_of h)) ≤ i → FieldsSaid left h i → text_refusal (record_shown left None h) ≡ None
  fields_end i le said = said.rest ∙ ap first_refusal (from_end left None h i le)

  -- the part of a field that is shown
  refusal_seen : (i : ℕ) → i < length (struct_fields (schema_of h)) → is_shown (record_seen h) (struct_field (schema_of h) i).field i ≡ true →
      field_refusal (set_of (schema_of h)) left (number_of (schema_of h)) (record_seen h) i ≡ refusal_of i
  refusal_seen i lt e = ap (λ (v : Value). text_refusal (part_text (set_of (schema_of h)) (text_within (set_of (schema_of h)) left) None (default_of (field_of i).field) (field_of i).type v)) (shown_part h i lt e)

  pub field_found : (i : ℕ) → i < length (struct_fields (schema_of h)) → FieldsSaid left h i → (next : OpenValue) → IsFieldRefused left h i next →
      IsStepBelow (set_of (schema_of h)) (opened.Struct h left) (Field i) next
  field_found i lt said next found = record {
    first = record {
      inside = lt;
      shown = found.shown;
      before = λ j below shown. refusal_seen j (omega (arith, below, lt)) shown ∙ said.before j below shown;
    };
    at = found.opened.parts ∙ ap (part_parts (set_of (schema_of h)) left (default_of (field_of i).field) (field_of i).type) (sym (shown_part h i lt found.shown));
    of_set = found.opened.of_set;
    same = said.rest ∙ (own_first i lt true found.shown ∙ (ap (λ (o : Option ErrorKind). or_later o (first_refusal (from_here left None h (i + 1)))) (is_refused ∙ found.refused) ∙ sym found.refused));
    less = found.opened.less;
  }
    where
      is_refused : refusal_of i ≡ parts_refusal (set_of (schema_of h)) (parts_seen next)
      is_refused =
          part_refusal (set_of (schema_of h)) left (default_of (field_of i).field) (field_of i).type (part_seen h (field_of i))
          ∙ ap (parts_refusal (set_of (schema_of h))) (sym found.opened.parts)

-- a field that was asked
pub field_said : (left : ℕ) (h : StructHandle) (i : ℕ) (next : OpenValue) → parts_seen next ≡ part_parts (set_of (schema_of h)) left (default_of (struct_field (schema_of h) i).field) (struct_field (schema_of h) i).type (part_seen h (struct_field (schema_of h) i)) →
    None ≡ parts_refusal (set_of (schema_of h)) (parts_seen next) → IsFieldSaid left h i
field_said left h i next parts none = λ shown.
    part_refusal (set_of (schema_of h)) left (default_of (struct_field (schema_of h) i).field) (struct_field (schema_of h) i).type (part_seen h (struct_field (schema_of h) i))
    ∙ (ap (parts_refusal (set_of (schema_of h))) (sym parts) ∙ sym none)

-- ---- the fields as a walk comes to them ----

pub field_of_walk : (s t : StructSchema) (i : ℕ) (f : FieldHandle) → s ≡ t → IsFieldOf s i f → IsFieldOf t (index_of f) f
field_of_walk s t i f e is = record {
  inside = subst (λ (k : ℕ). k < length (struct_fields t)) (sym is.index) (subst (λ (z : StructSchema). i < length (struct_fields z)) e is.inside);
  schema = is.schema ∙ e;
  index = refl;
}

module _ (left : ℕ) (h : StructHandle) (s : StructSchema) (i : ℕ) (same : s ≡ schema_of h) (said : FieldsSaid left h i) where
  pub walk_past : (f : FieldHandle) (next : ℕ) → next ≡ i + 1 → IsFieldOf s i f → IsFieldSaid left h (index_of f) → FieldsSaid left h next
  walk_past f next e is own =
      subst (FieldsSaid left h) (sym e)
      (fields_past left h i (subst (λ (z : StructSchema). i < length (struct_fields z)) same is.inside) said (subst (IsFieldSaid left h) is.index own))

  pub walk_found : (f : FieldHandle) (k : ℕ) (next : OpenValue) → k ≡ index_of f → IsFieldOf s i f → IsFieldRefused left h (index_of f) next → IsStepBelow (set_of (schema_of h)) (opened.Struct h left) (Field k) next
  walk_found f k next e is found =
      subst (λ (n : ℕ). IsStepBelow (set_of (schema_of h)) (opened.Struct h left) (Field n) next) (sym (e ∙ is.index))
      (field_found left h i (subst (λ (z : StructSchema). i < length (struct_fields z)) same is.inside) said next (subst (λ (n : ℕ). IsFieldRefused left h n next) is.index found))

  pub walk_ends : length (struct_fields s) ≤ i → text_refusal (record_shown left None h) ≡ None
  walk_ends le = fields_end left h i (subst (λ (z : StructSchema). length (struct_fields z) ≤ i) same le) said

-- ---- the elements of a list ----

pub record ElementsSaid (left : ℕ) (l : ListHandle) (i : ℕ) : Type 0 where
  pub before : (j : ℕ) → j < i → IsElementSaid left l j
  pub rest : text_refusal (list_shown left None l) ≡ elements_refusal left l i

zero_plus : (i : ℕ) → 0 + i ≡ i
zero_plus i = omega arith

module _ (left : ℕ) (l : ListHandle) where
  pub elements_none : ElementsSaid left l 0
  elements_none = record { before = λ j lt. absurd (omega (arith, lt)); rest = elements_start left l }

  pub elements_past : (i : ℕ) → i < count_of l → ElementsSaid left l i → IsElementSaid left l i → ElementsSaid left l (i + 1)
  elements_past i lt said own = record {
    before = λ j next. below_next {P = IsElementSaid left l} i j next said.before own;
    rest = said.rest ∙ (elements_next left l i lt ∙ ap (λ (o : Option ErrorKind). or_later o (elements_refusal left l (i + 1))) own);
  }

  pub elements_all : (i : ℕ) → count_of l < i + 1 → ElementsSaid left l i → text_refusal (list_shown left None l) ≡ None
  elements_all i le said = said.rest ∙ elements_end left l i le

  abbrev pub value_at : ℕ → Value
  value_at i = element_value (list_set l) (list_of (list_reader_of l)) (below_of (list_set l) (list_of (list_reader_of l))) (Left (list_levels (list_reader_of l))) (element_of l) i

  pub nth_element : (i : ℕ) → i < count_of l → nth_value (elements_from l 0 (count_of l)) i ≡ value_at i
  nth_element i lt = nth_values_from value_at 0 (count_of l) i lt ∙ ap value_at (zero_plus i)

  pub element_found : (i : ℕ) → i < count_of l → ElementsSaid left l i → (next : OpenValue) → IsElementUnsaid left l i next →
      IsStepBelow (list_set l) (opened.List l left) (Element i) next
  element_found i lt said next found = record {
    first = record {
      inside = subst (λ (n : ℕ). i < n) (sym (count_values_from value_at 0 (count_of l))) lt;
      before = λ j below. ap (λ (v : Value). text_refusal (text_within (list_set l) left None (element_of l) (read_of (list_set l) VoidValue (element_of l) v))) (nth_element j (omega (arith, below, lt))) ∙ said.before j below;
    };
    at = found.opened.parts ∙ ap (λ (v : Value). value_parts left (element_of l) (read_of (list_set l) VoidValue (element_of l) v)) (sym (nth_element i lt));
    of_set = found.opened.of_set;
    same = said.rest ∙ (elements_next left l i lt ∙ (ap (λ (o : Option ErrorKind). or_later o (elements_refusal left l (i + 1))) (is_refused ∙ found.refused) ∙ sym found.refused));
    less = found.opened.less;
  }
    where
      is_refused : text_refusal (element_shown left None l (element_seen l i)) ≡ parts_refusal (list_set l) (parts_seen next)
      is_refused = value_refusal (list_set l) left (element_of l) (element_seen l i) ∙ ap (parts_refusal (list_set l)) (sym found.opened.parts)

pub element_said : (left : ℕ) (l : ListHandle) (i : ℕ) (next : OpenValue) → parts_seen next ≡ value_parts left (element_of l) (element_seen l i) → None ≡ parts_refusal (list_set l) (parts_seen next) → IsElementSaid left l i
element_said left l i next parts none = value_refusal (list_set l) left (element_of l) (element_seen l i) ∙ (ap (parts_refusal (list_set l)) (sym parts) ∙ sym none)

-- ---- a path ----

-- one step more
pub path_further : (set : Schemas) (path : List PlaceStep) (step : PlaceStep) (from to : TextParts) → IsPathTo set path from to → IsFirstStep set to step → IsPathTo set (path ++ step ∷ []) from (parts_after set to step)
unfolding IsPathTo
path_further set [] step from to is first = (subst (λ (z : TextParts). IsFirstStep set z step) (sym is) first, ap (λ (z : TextParts). parts_after set z step) is)
path_further set (s ∷ path) step from to is first = (is.0, path_further set path step (parts_after set from s) to is.1 first)

pub path_start : (set : Schemas) (from to : TextParts) → from ≡ to → IsPathTo set [] from to
unfolding IsPathTo
path_start set from to e = e

pub path_next : (set : Schemas) (path new : List PlaceStep) (step : PlaceStep) (from : TextParts) (current next : OpenValue) → new ≡ path ++ step ∷ [] → IsPathTo set path from (parts_seen current) → IsStepBelow set current step next → IsPathTo set new from (parts_seen next)
path_next set path new step from current next e is found =
    subst (λ (steps : List PlaceStep). IsPathTo set steps from (parts_seen next)) (sym e)
    (subst (λ (z : TextParts). IsPathTo set (path ++ step ∷ []) from z) (sym found.at) (path_further set path step from (parts_seen current) is found.first))

-- a value that is refused itself
some_same : {a b : ErrorKind} → Some a ≡ Some b → a ≡ b
some_same e = cc

none_some : {a : ErrorKind} → None ≡ Some a → ⊥
none_some e = cc

refused_seen : (v : OpenValue) (kind : ErrorKind) → own_number v ≡ Some kind → parts_seen v ≡ RefusedAs kind
refused_seen (opened.Refused own) kind e = ap RefusedAs (some_same e)
refused_seen v kind e = absurd (none_some e)

pub path_ends : (set : Schemas) (path : List PlaceStep) (from : TextParts) (current : OpenValue) (kind : ErrorKind) → own_number current ≡ Some kind → IsPathTo set path from (parts_seen current) → IsPathTo set path from (RefusedAs kind)
path_ends set path from current kind e is = subst (λ (z : TextParts). IsPathTo set path from z) (refused_seen current kind e) is

-- the number at the end is the text's
pub number_told : (v : DynamicValue) (current : OpenValue) (o : Option ErrorKind) → own_number current ≡ o → ((set : Schemas) → IsOpenIn set current → own_number current ≡ parts_refusal set (parts_seen current)) → IsOpenIn (set_seen v) current →
    parts_refusal (set_seen v) (root_parts v) ≡ parts_refusal (set_seen v) (parts_seen current) → (indented : Bool) → o ≡ text_refusal (printed_text indented v)
number_told v current o e own of_set same = λ indented. sym e ∙ (own (set_seen v) of_set ∙ (sym same ∙ (sym (root_refusal v) ∙ any_lines indented v)))

-- ---- under any set ----

pub struct_step : (set : Schemas) (h : StructHandle) (left : ℕ) (v : OpenValue) (step : PlaceStep) (next : OpenValue) → v ≡ opened.Struct h left → IsOpenIn set v → IsStepBelow (set_of (schema_of h)) (opened.Struct h left) step next → IsStepBelow set v step next
struct_step set h left v step next e in_set found =
    subst (λ (z : OpenValue). IsStepBelow set z step next) (sym e)
    (subst (λ (z : Schemas). IsStepBelow z (opened.Struct h left) step next) (subst (IsOpenIn set) e in_set) found)

pub list_step : (set : Schemas) (l : ListHandle) (left : ℕ) (v : OpenValue) (step : PlaceStep) (next : OpenValue) → v ≡ opened.List l left → IsOpenIn set v → IsStepBelow (list_set l) (opened.List l left) step next → IsStepBelow set v step next
list_step set l left v step next e in_set found =
    subst (λ (z : OpenValue). IsStepBelow set z step next) (sym e)
    (subst (λ (z : Schemas). IsStepBelow z (opened.List l left) step next) (subst (IsOpenIn set) e in_set) found)

pub struct_whole : (set : Schemas) (h : StructHandle) (left : ℕ) (v : OpenValue) → v ≡ opened.Struct h left → IsOpenIn set v → text_refusal (record_shown left None h) ≡ None → own_number v ≡ parts_refusal set (parts_seen v)
struct_whole set h left v e in_set none =
    subst (λ (z : OpenValue). own_number z ≡ parts_refusal set (parts_seen z)) (sym e)
    (subst (λ (z : Schemas). None ≡ parts_refusal z (parts_seen (opened.Struct h left))) (subst (IsOpenIn set) e in_set) (sym none))

pub list_whole : (set : Schemas) (l : ListHandle) (left : ℕ) (v : OpenValue) → v ≡ opened.List l left → IsOpenIn set v → text_refusal (list_shown left None l) ≡ None → own_number v ≡ parts_refusal set (parts_seen v)
list_whole set l left v e in_set none =
    subst (λ (z : OpenValue). own_number z ≡ parts_refusal set (parts_seen z)) (sym e)
    (subst (λ (z : Schemas). None ≡ parts_refusal z (parts_seen (opened.List l left))) (subst (IsOpenIn set) e in_set) (sym none))

pub own_whole : (v : OpenValue) → v ≡ opened.Whole → (set : Schemas) → IsOpenIn set v → own_number v ≡ parts_refusal set (parts_seen v)
own_whole v e set in_set = subst (λ (z : OpenValue). own_number z ≡ parts_refusal set (parts_seen z)) (sym e) refl

pub own_refused : (v : OpenValue) (kind : ErrorKind) → v ≡ opened.Refused kind → (set : Schemas) → IsOpenIn set v → own_number v ≡ parts_refusal set (parts_seen v)
own_refused v kind e set in_set = subst (λ (z : OpenValue). own_number z ≡ parts_refusal set (parts_seen z)) (sym e) refl

pub match_map : {A : Type 0} {P Q : Type 0} {R S : A → Type 0} (o : Option A) → (P → Q) → ((a : A) → R a → S a) → MatchOption o P R → MatchOption o Q S
match_map None f g h = f h
match_map (Some a) f g h = g a h

-- ---- the search ----

pub begins : (v : DynamicValue) (path : List PlaceStep) (current : OpenValue) → path ≡ [] → parts_seen current ≡ root_parts v →
    IsPathTo (set_seen v) path (root_parts v) (parts_seen current) × (parts_refusal (set_seen v) (root_parts v) ≡ parts_refusal (set_seen v) (parts_seen current))
begins v path current none e = (
  subst (λ (steps : List PlaceStep). IsPathTo (set_seen v) steps (root_parts v) (parts_seen current)) (sym none) (path_start (set_seen v) (root_parts v) (parts_seen current) (sym e)),
  ap (parts_refusal (set_seen v)) (sym e),
)

pub steps_on : (v : DynamicValue) (path new : List PlaceStep) (step : PlaceStep) (current next : OpenValue) → new ≡ path ++ step ∷ [] → IsPathTo (set_seen v) path (root_parts v) (parts_seen current) →
    parts_refusal (set_seen v) (root_parts v) ≡ parts_refusal (set_seen v) (parts_seen current) → IsStepBelow (set_seen v) current step next →
    IsPathTo (set_seen v) new (root_parts v) (parts_seen next) × (parts_refusal (set_seen v) (root_parts v) ≡ parts_refusal (set_seen v) (parts_seen next))
steps_on v path new step current next e is same found = (path_next (set_seen v) path new step (root_parts v) current next e is found, same ∙ found.same)
