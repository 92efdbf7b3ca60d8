-- Each part that is visited is the next one of those that are to come.
use Rattle.std.proofs.Common.{ℕ, zero, suc, ◌+◌, ◌-◌, ◌<◌, ◌≤◌, ◌≡◌, List, [], ◌∷◌, ◌++◌, length, map, Bool, true, false, ap, sym, subst, arith, ◌∙◌}
use Rattle.capnp_device.specs.declared.error.ErrorKind.{ErrorKind}
use Rattle.capnp_schema.specs.FieldLists.{IsFieldOf, index_of}
use Rattle.capnp_schema.specs.Schema.{Schemas, VoidValue, default_of}
use Rattle.capnp_schema.specs.StructHandles.{set_of, struct_field, struct_fields}
use Rattle.capnp_schema.specs.declared.schema.fields.Field.{Field as FieldHandle}
use Rattle.capnp_schema.specs.declared.schema.structs.StructSchema.{StructSchema}
use Rattle.capnp_records.specs.Default.{read_of}
use Rattle.capnp_records.specs.Facts.ListValues.{count_values_from}
use Rattle.capnp_records.specs.Record.{Value}
use Rattle.capnp_dynamic_readers.specs.Handles.{element_of, list_set, schema_of}
use Rattle.capnp_dynamic_readers.specs.Seen.{record_seen}
use Rattle.capnp_dynamic_readers.specs.Steps.Shown.{count_of}
use Rattle.capnp_dynamic_readers.specs.declared.dynamic_list.Reader.{Reader as ListHandle}
use Rattle.capnp_dynamic_readers.specs.declared.dynamic_struct.Reader.{Reader as StructHandle}
use Rattle.capnp_check.specs.Faults.{ShownPart, behind_step, if_shown, is_step_shown, itself, parts_behind, parts_from, parts_within, step_at, step_count}
use Rattle.capnp_check.specs.Places.{NoParts, RefusedAs, TextParts, part_parts, part_word, parts_after, value_parts}
use Rattle.capnp_check.specs.ShownFields.{is_shown}
use Rattle.capnp_check.specs.Steps.Frames.{AreNoneLeft, IsNextPart, parts_rest}
use Rattle.capnp_check.specs.Steps.PlaceSteps.{IsElementOpened, IsFieldOpened, IsOpenIn, parts_seen, steps_below}
use Rattle.capnp_check.specs.declared.parts_below.OpenValue.{OpenValue}
use Rattle.capnp_check.specs.declared.parts_below.OpenValue.TheVariants as opened
use Rattle.capnp_check.specs.declared.place.PlaceStep.{PlaceStep}
use Rattle.capnp_check.specs.declared.place.PlaceStep.TheVariants.{Field, Element}
use Rattle.capnp_check.proofs.PlacesFound.{nth_element, value_at}
use Rattle.capnp_check.proofs.Shown.{shown_part}

-- ---- from an index on ----

none_more : (count i : ℕ) → count ≤ i → count - i ≡ 0
none_more count i le = omega (arith, le)

one_less : (count i : ℕ) → i < count → count - i ≡ suc (count - (i + 1))
one_less count i lt = omega (arith, lt)

next_is : (i : ℕ) → suc i ≡ i + 1
next_is i = omega arith

pub rest_end : (set : Schemas) (n : ℕ) (parts : TextParts) (i : ℕ) → step_count set parts ≤ i → parts_rest set n parts i ≡ []
unfolding parts_from
rest_end set n parts i le = ap (λ (count : ℕ). parts_from set (parts_within set n) parts i count) (none_more (step_count set parts) i le)

pub rest_next : (set : Schemas) (n : ℕ) (parts : TextParts) (i : ℕ) → i < step_count set parts →
    parts_rest set n parts i ≡ if_shown (is_step_shown set parts i) (parts_behind set (parts_within set n) parts (step_at parts i)) ++ parts_rest set n parts (i + 1)
unfolding parts_from
rest_next set n parts i lt =
    ap (λ (count : ℕ). parts_from set (parts_within set n) parts i count) (one_less (step_count set parts) i lt)
    ∙ ap (λ (j : ℕ). if_shown (is_step_shown set parts i) (parts_behind set (parts_within set n) parts (step_at parts i)) ++ parts_from set (parts_within set n) parts j (step_count set parts - (i + 1))) (next_is i)

minus_zero : (n : ℕ) → n ≡ n - 0
minus_zero n = omega arith

before_suc : (n : ℕ) → n ≡ suc n - 1
before_suc n = omega arith

-- a value, and then its parts
pub whole_within : (set : Schemas) (n : ℕ) (o : OpenValue) → steps_below set o ≤ n → parts_within set n (parts_seen o) ≡ itself (parts_seen o) ∷ parts_rest set (n - 1) (parts_seen o) 0
unfolding parts_within
whole_within set zero opened.Whole le = ap (λ (xs : List ShownPart). itself NoParts ∷ xs) (sym (rest_end set (zero - 1) NoParts 0 (omega arith)))
whole_within set zero (opened.Refused kind) le = ap (λ (xs : List ShownPart). itself (RefusedAs kind) ∷ xs) (sym (rest_end set (zero - 1) (RefusedAs kind) 0 (omega arith)))
whole_within set zero (opened.Struct s left) le = absurd (omega (arith, le))
whole_within set zero (opened.List l left) le = absurd (omega (arith, le))
whole_within set (suc n) o le =
    ap (λ (count : ℕ). itself (parts_seen o) ∷ parts_from set (parts_within set n) (parts_seen o) 0 count) (minus_zero (step_count set (parts_seen o)))
    ∙ ap (λ (m : ℕ). itself (parts_seen o) ∷ parts_rest set m (parts_seen o) 0) (before_suc n)

-- ---- the fields of a struct ----

module _ (left : ℕ) (h : StructHandle) where
  abbrev set_of_part : Schemas
  set_of_part = set_of (schema_of h)

  abbrev own_parts : TextParts
  own_parts = parts_seen (opened.Struct h left)

  -- so far none is shown
  abbrev pub NoneBefore : ℕ → ℕ → Type 0
  NoneBefore first i = (n : ℕ) → parts_rest (set_of (schema_of h)) n (parts_seen (opened.Struct h left)) first ≡ parts_rest (set_of (schema_of h)) n (parts_seen (opened.Struct h left)) i

  pub field_hidden : (first i : ℕ) → NoneBefore first i → i < length (struct_fields (schema_of h)) → false ≡ is_shown (record_seen h) (struct_field (schema_of h) i).field i → NoneBefore first (i + 1)
  field_hidden first i before lt hidden = λ n.
      before n
      ∙ (rest_next set_of_part n own_parts i lt
      ∙ ap (λ (q : Bool). if_shown q (parts_behind set_of_part (parts_within set_of_part n) own_parts (Field i)) ++ parts_rest set_of_part n own_parts (i + 1)) (sym hidden))

  pub field_next : (first i : ℕ) → NoneBefore first i → i < length (struct_fields (schema_of h)) → true ≡ is_shown (record_seen h) (struct_field (schema_of h) i).field i →
      (part : OpenValue) → IsFieldOpened left h (struct_field (schema_of h) i) part → IsNextPart (set_of (schema_of h)) (opened.Struct h left) first (Field i) part
  field_next first i before lt shown part found = record {
    rest = λ n.
        before n
        ∙ (rest_next set_of_part n own_parts i lt
        ∙ (ap (λ (q : Bool). if_shown q (parts_behind set_of_part (parts_within set_of_part n) own_parts (Field i)) ++ parts_rest set_of_part n own_parts (i + 1)) (sym shown)
        ∙ ap (λ (z : TextParts). map (behind_step (Field i) (part_word set_of_part own_parts (Field i))) (parts_within set_of_part n z) ++ parts_rest set_of_part n own_parts (i + 1)) (sym at)));
    of_set = found.of_set;
    less = found.less;
  }
    where
      at : parts_seen part ≡ parts_after (set_of (schema_of h)) (parts_seen (opened.Struct h left)) (Field i)
      at = found.parts ∙ ap (part_parts (set_of (schema_of h)) left (default_of (struct_field (schema_of h) i).field) (struct_field (schema_of h) i).type) (sym (shown_part h i lt (sym shown)))

  pub fields_done : (first i : ℕ) → NoneBefore first i → length (struct_fields (schema_of h)) ≤ i → AreNoneLeft (set_of (schema_of h)) (opened.Struct h left) first
  fields_done first i before le = λ n. before n ∙ rest_end set_of_part n own_parts i le

-- ---- the fields as a loop comes to them ----

module _ (left : ℕ) (h : StructHandle) (first i : ℕ) (before : NoneBefore left h first i) (s : StructSchema) (same : s ≡ schema_of h) (f : FieldHandle) (is : IsFieldOf s i f) where
  in_struct : i < length (struct_fields (schema_of h))
  in_struct = subst (λ (z : StructSchema). i < length (struct_fields z)) same is.inside

  pub loop_hidden : false ≡ is_shown (record_seen h) (struct_field (schema_of h) (index_of f)).field (index_of f) → NoneBefore left h first (i + 1)
  loop_hidden hidden = field_hidden left h first i before in_struct (subst (λ (k : ℕ). false ≡ is_shown (record_seen h) (struct_field (schema_of h) k).field k) is.index hidden)

  pub loop_found : true ≡ is_shown (record_seen h) (struct_field (schema_of h) (index_of f)).field (index_of f) → (k : ℕ) → k ≡ index_of f → (part : OpenValue) → IsFieldOpened left h (struct_field (schema_of h) (index_of f)) part →
      IsNextPart (set_of (schema_of h)) (opened.Struct h left) first (Field k) part
  loop_found shown k e part found =
      subst (λ (n : ℕ). IsNextPart (set_of (schema_of h)) (opened.Struct h left) first (Field n) part) (sym (e ∙ is.index))
      (field_next left h first i before in_struct (subst (λ (n : ℕ). true ≡ is_shown (record_seen h) (struct_field (schema_of h) n).field n) is.index shown) part
      (subst (λ (n : ℕ). IsFieldOpened left h (struct_field (schema_of h) n) part) is.index found))

pub loop_done : (left : ℕ) (h : StructHandle) (first i : ℕ) → NoneBefore left h first i → (s : StructSchema) → s ≡ schema_of h → length (struct_fields s) ≤ i → AreNoneLeft (set_of (schema_of h)) (opened.Struct h left) first
loop_done left h first i before s same le = fields_done left h first i before (subst (λ (z : StructSchema). length (struct_fields z) ≤ i) same le)

-- ---- the elements of a list ----

module _ (left : ℕ) (l : ListHandle) where
  abbrev own_elements : TextParts
  own_elements = parts_seen (opened.List l left)

  elements_counted : step_count (list_set l) (parts_seen (opened.List l left)) ≡ count_of l
  elements_counted = count_values_from (value_at left l) 0 (count_of l)

  pub element_next : (i : ℕ) → i < count_of l → (part : OpenValue) → IsElementOpened left l i part → IsNextPart (list_set l) (opened.List l left) i (Element i) part
  element_next i lt part found = record {
    rest = λ n.
        rest_next (list_set l) n own_elements i (subst (λ (count : ℕ). i < count) (sym elements_counted) lt)
        ∙ ap (λ (z : TextParts). map (behind_step (Element i) (part_word (list_set l) own_elements (Element i))) (parts_within (list_set l) n z) ++ parts_rest (list_set l) n own_elements (i + 1)) (sym at);
    of_set = found.of_set;
    less = found.less;
  }
    where
      at : parts_seen part ≡ parts_after (list_set l) (parts_seen (opened.List l left)) (Element i)
      at = found.parts ∙ ap (λ (v : Value). value_parts left (element_of l) (read_of (list_set l) VoidValue (element_of l) v)) (sym (nth_element left l i lt))

  pub elements_done : (i : ℕ) → count_of l ≤ i → AreNoneLeft (list_set l) (opened.List l left) i
  elements_done i le = λ n. rest_end (list_set l) n own_elements i (subst (λ (count : ℕ). count ≤ i) (sym elements_counted) le)

-- ---- under any set ----

pub whole_none : (v : OpenValue) (i : ℕ) → v ≡ opened.Whole → (set : Schemas) → IsOpenIn set v → AreNoneLeft set v i
whole_none v i e set in_set = subst (λ (z : OpenValue). AreNoneLeft set z i) (sym e) (λ n. rest_end set n NoParts i (omega arith))

pub refused_none : (v : OpenValue) (kind : ErrorKind) (i : ℕ) → v ≡ opened.Refused kind → (set : Schemas) → IsOpenIn set v → AreNoneLeft set v i
refused_none v kind i e set in_set = subst (λ (z : OpenValue). AreNoneLeft set z i) (sym e) (λ n. rest_end set n (RefusedAs kind) i (omega arith))

pub struct_none : (h : StructHandle) (left : ℕ) (v : OpenValue) (i j : ℕ) → v ≡ opened.Struct h left → i ≡ j → AreNoneLeft (set_of (schema_of h)) (opened.Struct h left) i → (set : Schemas) → IsOpenIn set v → AreNoneLeft set v j
struct_none h left v i j e same none set in_set =
    subst (λ (k : ℕ). AreNoneLeft set v k) same
    (subst (λ (z : OpenValue). AreNoneLeft set z i) (sym e)
    (subst (λ (z : Schemas). AreNoneLeft z (opened.Struct h left) i) (subst (IsOpenIn set) e in_set) none))

pub list_none : (l : ListHandle) (left : ℕ) (v : OpenValue) (i j : ℕ) → v ≡ opened.List l left → i ≡ j → AreNoneLeft (list_set l) (opened.List l left) i → (set : Schemas) → IsOpenIn set v → AreNoneLeft set v j
list_none l left v i j e same none set in_set =
    subst (λ (k : ℕ). AreNoneLeft set v k) same
    (subst (λ (z : OpenValue). AreNoneLeft set z i) (sym e)
    (subst (λ (z : Schemas). AreNoneLeft z (opened.List l left) i) (subst (IsOpenIn set) e in_set) none))

pub struct_next : (h : StructHandle) (left : ℕ) (v : OpenValue) (i j : ℕ) (step : PlaceStep) (part : OpenValue) → v ≡ opened.Struct h left → i ≡ j → IsNextPart (set_of (schema_of h)) (opened.Struct h left) i step part →
    (set : Schemas) → IsOpenIn set v → IsNextPart set v j step part
struct_next h left v i j step part e same found set in_set =
    subst (λ (k : ℕ). IsNextPart set v k step part) same
    (subst (λ (z : OpenValue). IsNextPart set z i step part) (sym e)
    (subst (λ (z : Schemas). IsNextPart z (opened.Struct h left) i step part) (subst (IsOpenIn set) e in_set) found))

pub list_next : (l : ListHandle) (left : ℕ) (v : OpenValue) (i j : ℕ) (step : PlaceStep) (part : OpenValue) → v ≡ opened.List l left → i ≡ j → IsNextPart (list_set l) (opened.List l left) i step part →
    (set : Schemas) → IsOpenIn set v → IsNextPart set v j step part
list_next l left v i j step part e same found set in_set =
    subst (λ (k : ℕ). IsNextPart set v k step part) same
    (subst (λ (z : OpenValue). IsNextPart set z i step part) (sym e)
    (subst (λ (z : Schemas). IsNextPart z (opened.List l left) i step part) (subst (IsOpenIn set) e in_set) found))
