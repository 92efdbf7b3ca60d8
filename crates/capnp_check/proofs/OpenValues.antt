-- What is open of a value that is read is what a text shows of it.
use Rattle.std.proofs.Common.{ℕ, zero, suc, ◌-◌, ◌<◌, ◌≤◌, ◌≡◌, refl, List, [], ◌∷◌, length, Bool, true, false, max, Option, Some, None, ap, sym, subst, arith, ◌∙◌}
use Rattle.std.proofs.lemmas.Bool.{true≢false}
use Rattle.std.specs.Option.{unwrap_or}
use Rattle.capnp_device.specs.declared.error.ErrorKind.{ErrorKind}
use Rattle.capnp_device.specs.declared.error.ErrorKind.TheVariants.{TooDeep}
use Rattle.capnp_wire.specs.Standing.{struct_levels, struct_of}
use Rattle.capnp_wire.specs.Tree.{StructTree}
use Rattle.capnp_wire.specs.declared.struct_reader.StructReader.{StructReader}
use Rattle.capnp_schema.specs.Accepted.{GroupFits, IsAccepted}
use Rattle.capnp_schema.specs.Facts.Fields.{brand_there}
use Rattle.capnp_schema.specs.FieldLists.{IsFieldOf, index_of, field_schema as field_schema, typed_of}
use Rattle.capnp_schema.specs.GroupsDown.{IsGroupSchemaIn}
use Rattle.capnp_schema.specs.Laws.{group_height, height_above, height_within, highest, kind_height}
use Rattle.capnp_schema.specs.Schema.{FieldKind, Group, Schemas, Slot, TypedField, VoidValue, fields_of, kind_default, kind_target, node_of, Value as SchemaValue}
use Rattle.capnp_schema.specs.StructHandles.{IsStruct, number_of, set_of, struct_field}
use Rattle.capnp_schema.specs.Types.{ListType, SchemaType, StructType, struct_brand, struct_number}
use Rattle.capnp_schema.specs.declared.schema.fields.Field.{Field}
use Rattle.capnp_schema.specs.declared.schema.structs.StructSchema.{StructSchema}
use Rattle.capnp_records.specs.Default.{read_of}
use Rattle.capnp_records.specs.Facts.Groups.{part_of_group}
use Rattle.capnp_records.specs.Reading.{element_type, kind_value, record_of, record_within, slot_value, struct_record, values_of}
use Rattle.capnp_records.specs.Record as value
use Rattle.capnp_records.specs.Record.{Left, Levels, Record, Value}
use Rattle.capnp_records.specs.Text.{part_text, text_within}
use Rattle.capnp_dynamic_readers.specs.Handles.{element_of, list_set, reader_of, schema_of}
use Rattle.capnp_dynamic_readers.specs.Reads.{element_seen, field_seen, handed_out}
use Rattle.capnp_dynamic_readers.specs.Seen.{record_seen, value_seen}
use Rattle.capnp_dynamic_readers.specs.Shown.{set_seen, struct_printed, type_seen, value_printed}
use Rattle.capnp_dynamic_readers.specs.Steps.GroupTexts.{IsSlotField}
use Rattle.capnp_dynamic_readers.specs.Steps.PartsRead.{fault_at, field_in}
use Rattle.capnp_dynamic_readers.specs.Steps.Shown.{count_of, elements_from, root_shown}
use Rattle.capnp_dynamic_readers.specs.Typed.{IsOf, IsValueUnder, struct_type}
use Rattle.capnp_dynamic_readers.specs.declared.dynamic_list.Reader.{Reader as ListHandle}
use Rattle.capnp_dynamic_readers.specs.declared.dynamic_struct.Reader.{Reader as StructHandle}
use Rattle.capnp_dynamic_readers.specs.declared.dynamic_value.Reader.{Reader as DynamicValue}
use Rattle.capnp_dynamic_readers.specs.declared.dynamic_value.Reader.TheVariants as dynamic
use Rattle.capnp_check.specs.Places.{ElementParts, RecordParts, RefusedAs, kind_within, part_parts, root_parts, value_parts}
use Rattle.capnp_check.specs.Refusals.{text_refusal}
use Rattle.capnp_check.specs.Steps.PlaceSteps.{IsElementOpened, IsFieldOpened, IsOpenIn, level_steps, parts_refusal, parts_seen, steps_below, value_opened}
use Rattle.capnp_check.specs.declared.parts_below.OpenValue.{OpenValue}
use Rattle.capnp_check.specs.declared.parts_below.OpenValue.TheVariants as opened
use Rattle.capnp_dynamic_readers.specs.Facts.PartsShown.{IsNoGroup, group_named, no_group_slot, some_none, target_in, under_of}
use Rattle.capnp_check.proofs.Refused.{quoted_said}

-- ---- the refusal of what is shown is the text's ----

pub value_refusal : (set : Schemas) (left : ℕ) (t : SchemaType) (v : Value) → text_refusal (text_within set left None t v) ≡ parts_refusal set (value_parts left t v)
value_refusal set zero t (value.Text bs) = quoted_said bs
value_refusal set (suc n) t (value.Text bs) = quoted_said bs
value_refusal set zero t v = refl
value_refusal set (suc n) t v = refl

pub part_refusal : (set : Schemas) (left : ℕ) (d : SchemaValue) (t : SchemaType) (v : Value) → text_refusal (part_text set (text_within set left) None d t v) ≡ parts_refusal set (part_parts set left d t v)
part_refusal set left d t (value.Group r) = refl
part_refusal set left d t v = value_refusal set left t (read_of set d t v)

pub root_refusal : (v : DynamicValue) → text_refusal (root_shown None v) ≡ parts_refusal (set_seen v) (root_parts v)
root_refusal v = part_refusal (set_seen v) 64 VoidValue (type_seen v) (value_printed v)

-- ---- a value under its type ----

element_same : (t : SchemaType) (e : SchemaType) → ListType e ≡ t → element_type t ≡ e
element_same t e h = ap element_type (sym h)

pub parts_under : (set : Schemas) (t : SchemaType) (left : ℕ) (v : DynamicValue) → IsValueUnder set t v → value_parts left t (value_seen v) ≡ parts_seen (value_opened left v)
parts_under set t zero (dynamic.Struct s) h = refl
parts_under set t (suc n) (dynamic.Struct s) h = ap (λ b. RecordParts n b (record_seen s)) (ap (λ o. unwrap_or o 0) h.1)
parts_under set t zero (dynamic.List l) h = refl
parts_under set t (suc n) (dynamic.List l) h = ap (λ e. ElementParts n e (elements_from l 0 (count_of l))) (element_same t (element_of l) h.1)
parts_under set t left v h = refl

pub of_set_under : (set : Schemas) (t : SchemaType) (left : ℕ) (v : DynamicValue) → IsValueUnder set t v → IsOpenIn set (value_opened left v)
of_set_under set t zero (dynamic.Struct s) h = tt {0}
of_set_under set t (suc n) (dynamic.Struct s) h = h.0
of_set_under set t zero (dynamic.List l) h = tt {0}
of_set_under set t (suc n) (dynamic.List l) h = h.0
of_set_under set t left v h = tt {0}

-- each value is one under its own type
pub own_under : (v : DynamicValue) → IsValueUnder (set_seen v) (type_seen v) v
own_under (dynamic.Enum e) = (refl, refl)
own_under (dynamic.Struct s) = (refl, refl)
own_under (dynamic.List l) = (refl, refl)
own_under v = refl

kind_is : (left : ℕ) (t : SchemaType) (kind : ErrorKind) → kind_within left t kind ≡ fault_at left t kind
kind_is zero t kind = refl
kind_is (suc left) t kind = refl

pub fault_parts : (left : ℕ) (t : SchemaType) (kind : ErrorKind) → value_parts left t (value.Fault kind) ≡ RefusedAs (fault_at left t kind)
fault_parts left t kind = ap RefusedAs (kind_is left t kind)

-- ---- fewer steps can follow ----

max_most : (a b n : ℕ) → a ≤ n → b ≤ n → max a b ≤ n
max_most a b n h k = grind (arith, h, k)

highest_most : (n : ℕ) (height : TypedField → ℕ) (fs : List TypedField) → ((f : TypedField) → height f ≤ n) → highest height fs ≤ n
highest_most n height [] h = omega arith
highest_most n height (f ∷ fs) h = max_most (height f) (highest height fs) n (h f) (highest_most n height fs h)

above_most : (n : ℕ) (group : ℕ → ℕ) (o : Option ℕ) → ((b : ℕ) → group b ≤ n) → height_above group o ≤ suc n
above_most n group None h = omega arith
above_most n group (Some g) h = (let le = h g in omega (arith, le))

kind_most : (n : ℕ) (group : ℕ → ℕ) (k : FieldKind) (t : SchemaType) → ((b : ℕ) → group b ≤ n) → kind_height group k t ≤ suc n
kind_most n group (Slot o d) t h = omega arith
kind_most n group (Group m) t h = above_most n group (struct_brand t) h

within_most : (n : ℕ) (set : Schemas) (b : ℕ) → height_within n set b ≤ n
unfolding height_within
within_most zero set b = omega arith
within_most (suc n) set b = highest_most (suc n) (λ f. kind_height (height_within n set) f.field.kind f.type) (fields_of set b) (λ f. kind_most n (height_within n set) f.field.kind f.type (within_most n set))

pub height_most : (set : Schemas) (b : ℕ) → group_height set b ≤ suc (length set.brands)
unfolding group_height
height_most set b = within_most (suc (length set.brands)) set b

pub value_below : (set : Schemas) (left : ℕ) (v : DynamicValue) → steps_below set (value_opened left v) ≤ level_steps set left
value_below set zero (dynamic.Struct s) = omega arith
value_below set (suc n) (dynamic.Struct s) = (let le = height_most set (number_of (schema_of s)) in omega (arith, le))
value_below set zero (dynamic.List l) = omega arith
value_below set (suc n) (dynamic.List l) = omega arith
value_below set left v = omega arith

-- ---- a slot ----

no_group_parts : (set : Schemas) (left : ℕ) (d : SchemaValue) (t : SchemaType) (v : Value) → IsNoGroup v → part_parts set left d t v ≡ value_parts left t (read_of set d t v)
no_group_parts set left d t (value.Group r) h = absurd h
no_group_parts set left d t v h = refl

module _ (set : Schemas) (group : ℕ → Record) (l : Levels) (s : StructTree) where
  slot_parts : (left : ℕ) (k : FieldKind) (t : SchemaType) (v : DynamicValue) → GroupFits set k t → kind_target k t ≡ None →
      value_seen v ≡ handed_out k (read_of set (kind_default k) t (kind_value group l s.bytes (values_of set s.pointers) k t)) → IsValueUnder set t v →
      parts_seen (value_opened left v) ≡ part_parts set left (kind_default k) t (kind_value group l s.bytes (values_of set s.pointers) k t)
  slot_parts left (Slot o d) t v fits e is under = sym
      (no_group_parts set left d t (slot_value l s.bytes (values_of set s.pointers) o d t) (no_group_slot set l s o d t)
      ∙ (ap (value_parts left t) (sym is) ∙ parts_under set t left v under))
  slot_parts left (Group n) (StructType b g) v fits e is under = absurd (some_none e)
  slot_parts left (Group n) t v fits e is under = absurd fits

  unread_parts : (left : ℕ) (k : FieldKind) (t : SchemaType) (kind : ErrorKind) →
      value.Fault kind ≡ handed_out k (read_of set (kind_default k) t (kind_value group l s.bytes (values_of set s.pointers) k t)) →
      RefusedAs (fault_at left t kind) ≡ part_parts set left (kind_default k) t (kind_value group l s.bytes (values_of set s.pointers) k t)
  unread_parts left (Slot o d) t kind is = sym
      (no_group_parts set left d t (slot_value l s.bytes (values_of set s.pointers) o d t) (no_group_slot set l s o d t)
      ∙ (ap (value_parts left t) (sym is) ∙ fault_parts left t kind))
  unread_parts left (Group n) t kind is = absurd (fault_struct is)
    where
      fault_struct : {kind : ErrorKind} {r : Record} → value.Fault kind ≡ value.Struct r → ⊥
      fault_struct e = cc

number_named : (k : FieldKind) (t : SchemaType) (g : ℕ) → kind_target k t ≡ Some g → struct_number t ≡ g
number_named (Slot o d) t g e = cc
number_named (Group m) t g e = ap (λ o. unwrap_or o 0) e

module _ (left : ℕ) (h : StructHandle) (f : Field) (field : IsFieldOf (schema_of h) (index_of f) f) where
  abbrev own_group : ℕ → Record
  own_group = record_within (length (set_of (schema_of h)).brands) (set_of (schema_of h)) (Left (struct_levels (reader_of h))) (struct_of (reader_of h)).bytes (values_of (set_of (schema_of h)) (struct_of (reader_of h)).pointers)

  -- a struct's parts have more steps than a value in one of its slots
  value_less : (v : DynamicValue) → steps_below (set_of (schema_of h)) (value_opened left v) < steps_below (set_of (schema_of h)) (opened.Struct h left)
  value_less v = (let le = value_below (set_of (schema_of h)) left v in omega (arith, le))

  pub slot_opened : IsStruct (schema_of h) → IsSlotField f → (v : DynamicValue) (o : OpenValue) → o ≡ value_opened left v → value_seen v ≡ field_seen h (index_of f) → IsOf (set_of (schema_of h)) (field_in h f).type v → IsFieldOpened left h (field_in h f) o
  slot_opened stands slot v o e is typed = subst (λ (z : OpenValue). IsFieldOpened left h (field_in h f) z) (sym e) (record {
    parts = slot_parts (set_of (schema_of h)) own_group (Left (struct_levels (reader_of h))) (struct_of (reader_of h)) left (field_in h f).field.kind (field_in h f).type v
        (stands.accepted.rule7 (number_of (schema_of h)) (index_of f) stands.number field.inside) (sym (target_in h f field None (sym slot))) is (under_of (set_of (schema_of h)) (field_in h f).type v typed);
    of_set = of_set_under (set_of (schema_of h)) (field_in h f).type left v (under_of (set_of (schema_of h)) (field_in h f).type v typed);
    less = value_less v;
  })

  pub slot_unread : (kind other : ErrorKind) (t : SchemaType) → other ≡ fault_at left t kind → t ≡ (typed_of f).type → value.Fault kind ≡ field_seen h (index_of f) → IsFieldOpened left h (field_in h f) (opened.Refused other)
  slot_unread kind other t e same is = record {
    parts =
        ap RefusedAs (e ∙ ap (λ (z : SchemaType). fault_at left z kind) (same ∙ ap (λ (z : StructSchema). (struct_field z (index_of f)).type) field.schema))
        ∙ unread_parts (set_of (schema_of h)) own_group (Left (struct_levels (reader_of h))) (struct_of (reader_of h)) left (field_in h f).field.kind (field_in h f).type kind is;
    of_set = tt {0};
    less = omega arith;
  }

  -- a group has the sections of the struct that it is in, and lesser height
  pub group_opened : (n : StructHandle) (g : StructSchema) (x : StructReader) → x ≡ reader_of h → reader_of n ≡ x → schema_of n ≡ g →
      Some (number_of g) ≡ kind_target (typed_of f).field.kind (typed_of f).type → IsGroupSchemaIn (field_schema f) g → IsFieldOpened left h (field_in h f) (opened.Struct n left)
  group_opened n g x xs rs is target down = record {
    parts = sym
        (ap (part_parts (set_of (schema_of h)) left (kind_default (field_in h f).field.kind) (field_in h f).type) group_value
        ∙ (ap (λ (m : ℕ). RecordParts left m (record_of (set_of (schema_of h)) (Left (struct_levels (reader_of h))) (struct_of (reader_of h)).bytes (values_of (set_of (schema_of h)) (struct_of (reader_of h)).pointers) (number_of g))) (number_named (field_in h f).field.kind (field_in h f).type (number_of g) (sym named))
        ∙ (ap (λ (z : Schemas). RecordParts left (number_of g) (struct_record z (Left (struct_levels (reader_of h))) (struct_of (reader_of h)) (number_of g))) (sym in_set)
        ∙ (ap (λ (y : StructReader). RecordParts left (number_of g) (struct_record (set_of g) (Left (struct_levels y)) (struct_of y) (number_of g))) (sym (rs ∙ xs))
        ∙ ap (λ (z : StructSchema). RecordParts left (number_of z) (struct_record (set_of z) (Left (struct_levels (reader_of n))) (struct_of (reader_of n)) (number_of z))) (sym is)))));
    of_set = ap set_of is ∙ in_set;
    less = (let lt = lower in omega (arith, lt));
  }
    where
      in_set : set_of g ≡ set_of (schema_of h)
      in_set = down.set ∙ ap set_of field.schema

      named : Some (number_of g) ≡ kind_target (field_in h f).field.kind (field_in h f).type
      named = target_in h f field (Some (number_of g)) target

      group_value : kind_value own_group (Left (struct_levels (reader_of h))) (struct_of (reader_of h)).bytes (values_of (set_of (schema_of h)) (struct_of (reader_of h)).pointers) (field_in h f).field.kind (field_in h f).type
          ≡ value.Group (record_of (set_of (schema_of h)) (Left (struct_levels (reader_of h))) (struct_of (reader_of h)).bytes (values_of (set_of (schema_of h)) (struct_of (reader_of h)).pointers) (number_of g))
      group_value =
          part_of_group (set_of (schema_of h)) (subst IsAccepted in_set down.stands.accepted) (Left (struct_levels (reader_of h))) (struct_of (reader_of h)).bytes (values_of (set_of (schema_of h)) (struct_of (reader_of h)).pointers) (number_of (schema_of h)) (index_of f) (number_of g) (brand_there (set_of (schema_of h)) (number_of (schema_of h)) (index_of f) field.inside) field.inside
          (group_named (field_in h f).field.kind (field_in h f).type (number_of g) (sym named))

      lower : group_height (set_of (schema_of h)) (number_of (schema_of n)) < group_height (set_of (schema_of h)) (number_of (schema_of h))
      lower =
          subst (λ (z : StructSchema). group_height (set_of (schema_of h)) (number_of z) < group_height (set_of (schema_of h)) (number_of (schema_of h))) (sym is)
          (subst (λ (z : StructSchema). group_height (set_of z) (number_of g) < group_height (set_of z) (number_of z)) field.schema down.leads.down.lower)

-- ---- an element ----

module _ (left : ℕ) (l : ListHandle) (i : ℕ) where
  pub element_opened : (v : DynamicValue) (o : OpenValue) → o ≡ value_opened left v → value_seen v ≡ element_seen l i → IsValueUnder (list_set l) (element_of l) v → IsElementOpened left l i o
  element_opened v o e is under = subst (λ (z : OpenValue). IsElementOpened left l i z) (sym e) (record {
    parts = sym (ap (value_parts left (element_of l)) (sym is) ∙ parts_under (list_set l) (element_of l) left v under);
    of_set = of_set_under (list_set l) (element_of l) left v under;
    less = (let le = value_below (list_set l) left v in omega (arith, le));
  })

  pub element_unread : (kind other : ErrorKind) → other ≡ fault_at left (element_of l) kind → value.Fault kind ≡ element_seen l i → IsElementOpened left l i (opened.Refused other)
  element_unread kind other e is = record {
    parts = ap RefusedAs e ∙ sym (ap (value_parts left (element_of l)) (sym is) ∙ fault_parts left (element_of l) kind);
    of_set = tt {0};
    less = omega arith;
  }

-- ---- a value by its level ----

before_suc : (n : ℕ) → suc n - 1 ≡ n
before_suc n = omega arith

pub struct_opened : (left : ℕ) (v : DynamicValue) (s : StructHandle) → v ≡ dynamic.Struct s → (left ≡ 0 → ⊥) → opened.Struct s (left - 1) ≡ value_opened left v
struct_opened zero v s e some = absurd (some refl)
struct_opened (suc n) v s e some = ap (opened.Struct s) (before_suc n) ∙ ap (value_opened (suc n)) (sym e)

pub struct_deepest : (left : ℕ) (v : DynamicValue) (s : StructHandle) → v ≡ dynamic.Struct s → left ≡ 0 → opened.Refused TooDeep ≡ value_opened left v
struct_deepest left v s e none = ap (λ (n : ℕ). value_opened n (dynamic.Struct s)) (sym none) ∙ ap (value_opened left) (sym e)

pub list_opened : (left : ℕ) (v : DynamicValue) (l : ListHandle) → v ≡ dynamic.List l → (left ≡ 0 → ⊥) → opened.List l (left - 1) ≡ value_opened left v
list_opened zero v l e some = absurd (some refl)
list_opened (suc n) v l e some = ap (opened.List l) (before_suc n) ∙ ap (value_opened (suc n)) (sym e)

pub list_deepest : (left : ℕ) (v : DynamicValue) (l : ListHandle) → v ≡ dynamic.List l → left ≡ 0 → opened.Refused TooDeep ≡ value_opened left v
list_deepest left v l e none = ap (λ (n : ℕ). value_opened n (dynamic.List l)) (sym none) ∙ ap (value_opened left) (sym e)

pub leaf_opened : (left : ℕ) (v : DynamicValue) → ((s : StructHandle) → v ≡ dynamic.Struct s → ⊥) → ((l : ListHandle) → v ≡ dynamic.List l → ⊥) → opened.Whole ≡ value_opened left v
leaf_opened left (dynamic.Struct s) h k = absurd (h s refl)
leaf_opened left (dynamic.List l) h k = absurd (k l refl)
leaf_opened left v h k = refl

-- ---- a value that stands alone ----

pub group_alone : (v : DynamicValue) (s : StructHandle) → v ≡ dynamic.Struct s → (node_of (set_of (schema_of s)) (number_of (schema_of s))).is_group ≡ true →
    (parts_seen (opened.Struct s 64) ≡ root_parts v) × IsOpenIn (set_seen v) (opened.Struct s 64)
group_alone v s e h = (sym (ap root_parts e ∙ go (node_of (set_of (schema_of s)) (number_of (schema_of s))).is_group h), ap set_seen (sym e))
  where
    go : (q : Bool) → q ≡ true → part_parts (set_of (schema_of s)) 64 VoidValue (struct_type (schema_of s)) (struct_printed q s) ≡ RecordParts 64 (number_of (schema_of s)) (record_seen s)
    go true e = refl
    go false e = absurd (true≢false (sym e))

value_alone : (v : DynamicValue) → root_parts v ≡ value_parts 64 (type_seen v) (value_seen v) → parts_seen (value_opened 64 v) ≡ root_parts v
value_alone v e = sym (e ∙ parts_under (set_seen v) (type_seen v) 64 v (own_under v))

pub alone_set : (v : DynamicValue) → IsOpenIn (set_seen v) (value_opened 64 v)
alone_set v = of_set_under (set_seen v) (type_seen v) 64 v (own_under v)

pub struct_alone : (v : DynamicValue) (s : StructHandle) → v ≡ dynamic.Struct s → (node_of (set_of (schema_of s)) (number_of (schema_of s))).is_group ≡ false → parts_seen (value_opened 64 v) ≡ root_parts v
struct_alone v s e h = subst (λ (z : DynamicValue). parts_seen (value_opened 64 z) ≡ root_parts z) (sym e) (value_alone (dynamic.Struct s) (go (node_of (set_of (schema_of s)) (number_of (schema_of s))).is_group h))
  where
    go : (q : Bool) → q ≡ false → part_parts (set_of (schema_of s)) 64 VoidValue (struct_type (schema_of s)) (struct_printed q s) ≡ value_parts 64 (struct_type (schema_of s)) (value.Struct (record_seen s))
    go false e = refl
    go true e = absurd (true≢false e)

pub other_alone : (v : DynamicValue) → ((s : StructHandle) → v ≡ dynamic.Struct s → ⊥) → parts_seen (value_opened 64 v) ≡ root_parts v
other_alone (dynamic.Struct s) h = absurd (h s refl)
other_alone v h = value_alone v refl
