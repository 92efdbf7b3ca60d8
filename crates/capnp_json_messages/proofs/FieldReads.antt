-- What is read into a field: a group, a struct or a list.
use Rattle.std.proofs.Common.{ℕ, ◌≡◌, Bool, List, [], Option, Ok, refl, ap, sym, subst, ◌∙◌}
use Rattle.capnp_base.specs.declared.introspect.TypeVariant.{TypeVariant}
use Rattle.capnp_base.specs.declared.introspect.«Type».{«Type» as TypeHandle}
use Rattle.capnp_wire.specs.Tree.{StructTree}
use Rattle.capnp_schema.specs.FieldLists.{typed_of}
use Rattle.capnp_schema.specs.StructHandles.{generic_of, number_of, set_of}
use Rattle.capnp_schema.specs.Types.{ListType, SchemaType, StructType, seen_type, seen_variant}
use Rattle.capnp_schema.specs.declared.schema.fields.Field.{Field}
use Rattle.capnp_schema.specs.declared.schema.structs.StructSchema.{StructSchema}
use Rattle.capnp_records.specs.Reading.{reads}
use Rattle.capnp_records.specs.Record as value
use Rattle.capnp_records.specs.Record.{Endless, Record, Value}
use Rattle.capnp_slots.specs.Fields.{IsSlot, field_set}
use Rattle.capnp_slots.specs.Groups.{IsGroupAt}
use Rattle.capnp_json_text.specs.Values.{json_at}
use Rattle.capnp_json_fields.specs.Marks.{data_form, is_float}
use Rattle.capnp_json_fields.specs.declared.fields.DataForm.{DataForm}
use Rattle.capnp_from_json.specs.Errors.{IsErrorOf, Read}
use Rattle.capnp_from_json.specs.Leaves.{AreFloats, OfGroup, OfSlot, Part, Target}
use Rattle.capnp_from_json.specs.LeafReads.{leaf_value, under}
use Rattle.capnp_from_json.specs.Records.{Rules, as_group, part_of_kind, value_of_json}
use Rattle.capnp_from_json.specs.declared.error.Error.{Error}
use Rattle.capnp_from_json.specs.declared.leaves.Leaf.{Leaf}
use Rattle.capnp_from_json.specs.declared.reading.Reading.{Reading}
use Rattle.capnp_json_messages.specs.Opened.{list_opened, record_opened, struct_opened}
use Rattle.capnp_json_messages.specs.Reads.{PutsInto}
use Rattle.capnp_json_messages.specs.Started.{GroupStarted}
use Rattle.capnp_json_messages.specs.Walks.{AreRules, FieldRead, IsRead, IsRefused, StructRead, field_json, members_json}
use Rattle.capnp_json_messages.specs.Ways.{IsLeafType, IsListType, IsStructType}
use Rattle.capnp_json_messages.specs.declared.opened.Opened.{Opened}
use Rattle.capnp_json_messages.specs.declared.opened.Opened.TheVariants as opened
use Rattle.capnp_json_messages.proofs.ReadParts.{group_is, group_refused, rules_of}
use Rattle.capnp_json_messages.proofs.Targets.{group_type, part_group, part_slot, target_is}

-- the value for a target
abbrev pub value_at : Reading → (levels : ℕ) → List ℕ → Rules → Target → Read Value
value_at reading levels bytes rules t = value_of_json rules (json_at reading.whole bytes) levels t

module _ (f : Field) (reading : Reading) (levels : ℕ) (bytes : List ℕ) where
  -- the value of a field, by its type and part
  pub field_by : (t : SchemaType) (p : Part) (rules : Rules) → t ≡ (typed_of f).type → p ≡ part_of_kind (typed_of f).field.kind
      → field_json reading levels f bytes rules ≡ value_at reading levels bytes rules (under t p (is_float (typed_of f)) (data_form (typed_of f)))
  field_by t p rules same part = ap (value_at reading levels bytes rules) (sym (target_is (typed_of f) t p same part))

  pub field_refused : (t : SchemaType) (p : Part) (strict : Bool) (e : Error) → t ≡ (typed_of f).type → p ≡ part_of_kind (typed_of f).field.kind
      → ((rules : Rules) → AreRules (field_set f) strict rules → IsErrorOf (value_at reading levels bytes rules (under t p (is_float (typed_of f)) (data_form (typed_of f)))) e) → IsRefused (field_set f) strict (field_json reading levels f bytes) e
  field_refused t p strict e same part h = λ rules are. subst (λ r. IsErrorOf r e) (sym (field_by t p rules same part)) (h rules are)

  -- ---- groups ----

  module _ (g : StructSchema) (leads : IsGroupAt f g) where
    group_by : (x : ℕ) × (StructType (number_of g) x ≡ (typed_of f).type)
    group_by = group_type (typed_of f).field.kind (typed_of f).type (number_of g) leads.names

    pub group_closed : (strict : Bool) (e : Error) → ((rules : Rules) (levels b x : ℕ) (is_float : Bool) (form : DataForm) → IsErrorOf (value_at reading levels bytes rules (under (StructType b x) OfGroup is_float form)) e)
        → IsRefused (field_set f) strict (field_json reading levels f bytes) e
    group_closed strict e h = field_refused (StructType (number_of g) group_by.0) OfGroup strict e group_by.1 (part_group (typed_of f).field.kind leads.is_group) (λ rules are. h rules levels (number_of g) group_by.0 (is_float (typed_of f)) (data_form (typed_of f)))

    module _ (first : Option (List ℕ)) (told : (rules : Rules) (levels b x : ℕ) (is_float : Bool) (form : DataForm) → value_at reading levels bytes rules (under (StructType b x) OfGroup is_float form) ≡ as_group (record_opened rules reading.whole levels b first)) where
      group_opened : (rules : Rules) → field_json reading levels f bytes rules ≡ as_group (record_opened rules reading.whole levels (number_of g) first)
      group_opened rules = field_by (StructType (number_of g) group_by.0) OfGroup rules group_by.1 (part_group (typed_of f).field.kind leads.is_group) ∙ told rules levels (number_of g) group_by.0 (is_float (typed_of f)) (data_form (typed_of f))

      module _ (strict : Bool) (s m : StructTree) (started : GroupStarted f g s m) where
        pub group_read : (s' : StructTree) → StructRead g strict (members_json reading levels g first [] (reads (set_of g) m (number_of g))) m s' → FieldRead f strict (field_json reading levels f bytes) s s'
        group_read s' read = record {
          value = value.Group (reads (set_of g) s' (number_of g));
          is = λ rules are. group_is reading levels g first (reads (set_of g) m (number_of g)) started.here strict (field_json reading levels f bytes) (reads (set_of g) s' (number_of g)) read.is group_opened rules (rules_of (field_set f) (set_of g) strict rules leads.set are);
          puts = started.puts s' (reads (set_of g) s' (number_of g)) read.turns;
        }

        pub group_stopped : (e : Error) → IsRefused (set_of g) strict (members_json reading levels g first [] (reads (set_of g) m (number_of g))) e → IsRefused (field_set f) strict (field_json reading levels f bytes) e
        group_stopped e h = λ rules are. group_refused reading levels g first (reads (set_of g) m (number_of g)) started.here strict (field_json reading levels f bytes) e h group_opened rules (rules_of (field_set f) (set_of g) strict rules leads.set are)

  -- ---- structs and lists behind pointers ----

  module _ (slot : IsSlot f) (schema : StructSchema) (leads : IsStructType (field_set f) (typed_of f).type schema) where
    pub struct_closed : (strict : Bool) (e : Error) → ((rules : Rules) (b x : ℕ) (is_float : Bool) (form : DataForm) → IsErrorOf (value_at reading levels bytes rules (under (StructType b x) OfSlot is_float form)) e)
        → IsRefused (field_set f) strict (field_json reading levels f bytes) e
    struct_closed strict e h = field_refused (StructType (number_of schema) (generic_of schema)) OfSlot strict e leads.type_is (part_slot (typed_of f).field.kind slot) (λ rules are. h rules (number_of schema) (generic_of schema) (is_float (typed_of f)) (data_form (typed_of f)))

    pub struct_opens : (o : Opened) → ((rules : Rules) (b x : ℕ) (is_float : Bool) (form : DataForm) → value_at reading levels bytes rules (under (StructType b x) OfSlot is_float form) ≡ struct_opened rules reading.whole levels b o)
        → (rules : Rules) → field_json reading levels f bytes rules ≡ struct_opened rules reading.whole levels (number_of schema) o
    struct_opens o told rules = field_by (StructType (number_of schema) (generic_of schema)) OfSlot rules leads.type_is (part_slot (typed_of f).field.kind slot) ∙ told rules (number_of schema) (generic_of schema) (is_float (typed_of f)) (data_form (typed_of f))

  module _ (element : TypeHandle) (leads : IsListType (field_set f) (typed_of f).type element) where
    pub list_closed : (strict : Bool) (e : Error) → ((rules : Rules) (t : SchemaType) (p : Part) (is_float : Bool) (form : DataForm) → IsErrorOf (value_at reading levels bytes rules (under (ListType t) p is_float form)) e)
        → IsRefused (field_set f) strict (field_json reading levels f bytes) e
    list_closed strict e h = field_refused (ListType (seen_type element)) (part_of_kind (typed_of f).field.kind) strict e leads.type_is refl (λ rules are. h rules (seen_type element) (part_of_kind (typed_of f).field.kind) (is_float (typed_of f)) (data_form (typed_of f)))

    pub list_opens : (place : ℕ) (o : Opened) → ((rules : Rules) (t : SchemaType) (p : Part) (is_float : Bool) (form : DataForm) → value_at reading levels bytes rules (under (ListType t) p is_float form) ≡ list_opened rules reading.whole place levels t is_float o)
        → (rules : Rules) → field_json reading levels f bytes rules ≡ list_opened rules reading.whole place levels (seen_type element) (is_float (typed_of f)) o
    list_opens place o told rules =
        field_by (ListType (seen_type element)) (part_of_kind (typed_of f).field.kind) rules leads.type_is refl ∙ told rules (seen_type element) (part_of_kind (typed_of f).field.kind) (is_float (typed_of f)) (data_form (typed_of f))

-- ---- what is put into a slot ----

module _ (f : Field) (strict : Bool) (reading : Reading) (levels : ℕ) (bytes : List ℕ) (s s' : StructTree) where
  pub value_put : (v w : Value) → IsRead (field_set f) strict (field_json reading levels f bytes) v → v ≡ w → PutsInto f s s' w → FieldRead f strict (field_json reading levels f bytes) s s'
  value_put v w read same puts = record { value = v; is = read; puts = subst (PutsInto f s s') (sym same) puts }

  -- a null pointer
  pub null_put : (o : Opened) → o ≡ opened.Null → ((rules : Rules) → (told : Opened → Read Value) × (field_json reading levels f bytes rules ≡ told o) × (told opened.Null ≡ Ok (value.Missing Endless))) → PutsInto f s s' (value.Missing Endless)
      → FieldRead f strict (field_json reading levels f bytes) s s'
  null_put o is told puts = record { value = value.Missing Endless; is = λ rules are. let t = told rules in t.1 ∙ (ap t.0 is ∙ t.2); puts = puts }

  -- a leaf
  pub leaf_put : (of : TypeVariant) (l : Leaf) → IsLeafType (typed_of f).type of
      → ((rules : Rules) → rules.set ≡ field_set f → AreFloats rules.floats → (levels : ℕ) (part : Part) → value_at reading levels bytes rules (under (seen_variant of) part (is_float (typed_of f)) (data_form (typed_of f))) ≡ Ok (leaf_value l))
      → PutsInto f s s' (leaf_value l) → FieldRead f strict (field_json reading levels f bytes) s s'
  leaf_put of l leaf read puts = record {
    value = leaf_value l;
    is = λ rules are. field_by f reading levels bytes (seen_variant of) (part_of_kind (typed_of f).field.kind) rules leaf.type_is refl ∙ read rules are.of_set are.floats levels (part_of_kind (typed_of f).field.kind);
    puts = puts;
  }

pub leaf_refused : (f : Field) (strict : Bool) (reading : Reading) (levels : ℕ) (bytes : List ℕ) (of : TypeVariant) (e : Error) → IsLeafType (typed_of f).type of
    → ((rules : Rules) → rules.set ≡ field_set f → AreFloats rules.floats → (levels : ℕ) (part : Part) → IsErrorOf (value_at reading levels bytes rules (under (seen_variant of) part (is_float (typed_of f)) (data_form (typed_of f)))) e)
    → IsRefused (field_set f) strict (field_json reading levels f bytes) e
leaf_refused f strict reading levels bytes of e leaf h =
    field_refused f reading levels bytes (seen_variant of) (part_of_kind (typed_of f).field.kind) strict e leaf.type_is refl (λ rules are. h rules are.of_set are.floats levels (part_of_kind (typed_of f).field.kind))
