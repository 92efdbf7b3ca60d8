-- What is read into an element of a list: a leaf, a struct or a list.
use Rattle.std.proofs.Common.{ℕ, ◌≡◌, Bool, List, [], Option, Ok, refl, ap, sym, subst, ◌∙◌}
use Rattle.capnp_arena.specs.Built.{built_at}
use Rattle.capnp_arena.specs.Forest.{tree}
use Rattle.capnp_arena.specs.Frame.{LeavesStruct}
use Rattle.capnp_arena.specs.Segment.{segment}
use Rattle.capnp_arena.specs.declared.arena.Arena.{Arena}
use Rattle.capnp_arena.specs.declared.arena.Place.{Place}
use Rattle.capnp_base.specs.declared.introspect.TypeVariant.{TypeVariant}
use Rattle.capnp_base.specs.declared.introspect.«Type».{«Type» as TypeHandle}
use Rattle.capnp_wire.specs.Tree.{Tree}
use Rattle.capnp_schema.specs.Schema.{Schemas}
use Rattle.capnp_schema.specs.StructHandles.{generic_of, number_of, set_of}
use Rattle.capnp_schema.specs.Types.{ListType, SchemaType, StructType, seen_type, seen_variant}
use Rattle.capnp_schema.specs.declared.schema.structs.StructSchema.{StructSchema}
use Rattle.capnp_records.specs.Reading.{reads, value_of}
use Rattle.capnp_records.specs.Record as value
use Rattle.capnp_records.specs.Record.{Endless, Value, Values}
use Rattle.capnp_json_fields.specs.declared.fields.DataForm.{DataForm}
use Rattle.capnp_json_fields.specs.declared.fields.DataForm.TheVariants.{Array}
use Rattle.capnp_from_json.specs.Errors.{IsErrorOf, Read}
use Rattle.capnp_from_json.specs.Leaves.{AreFloats, OfElement, Part}
use Rattle.capnp_from_json.specs.LeafReads.{leaf_value, under}
use Rattle.capnp_from_json.specs.Records.{Rules, as_struct}
use Rattle.capnp_from_json.specs.declared.error.Error.{Error}
use Rattle.capnp_from_json.specs.declared.leaves.Leaf.{Leaf}
use Rattle.capnp_from_json.specs.declared.reading.Reading.{Reading}
use Rattle.capnp_json_messages.specs.Opened.{list_opened, record_opened}
use Rattle.capnp_json_messages.specs.Put.{HasNew, PutsAt}
use Rattle.capnp_json_messages.specs.Rows.{row_set, row_type}
use Rattle.capnp_json_messages.specs.Started.{InnerStarted}
use Rattle.capnp_json_messages.specs.Walks.{AreRules, ElementRead, IsRead, IsRefused, StructRead, element_json, members_json}
use Rattle.capnp_json_messages.specs.Ways.{IsLeafType, IsListType, IsStructType}
use Rattle.capnp_json_messages.specs.declared.opened.Opened.{Opened}
use Rattle.capnp_json_messages.specs.declared.opened.Opened.TheVariants as opened
use Rattle.capnp_json_messages.proofs.ElementPuts.{null_stays}
use Rattle.capnp_json_messages.specs.declared.row.Row.{Row}
use Rattle.capnp_json_messages.proofs.FieldReads.{value_at}
use Rattle.capnp_json_messages.proofs.ReadParts.{rules_of, struct_is, struct_refused}

-- a new element of a struct's type is one of its schema's
pub has_struct : (set : Schemas) (t : SchemaType) (schema : StructSchema) (x : Tree) (j : ℕ) → IsStructType set t schema → HasNew set t x j → HasNew (set_of schema) (StructType (number_of schema) (generic_of schema)) x j
has_struct set t schema x j leads has =
    subst (λ (z : Schemas). HasNew z (StructType (number_of schema) (generic_of schema)) x j) (sym leads.of_set) (subst (λ (y : SchemaType). HasNew set y x j) (sym leads.type_is) has)

module _ (row : Row) (reading : Reading) (levels : ℕ) (bytes : List ℕ) where
  abbrev read_here : Rules → Read Value
  read_here = element_json reading levels (row_type row) row.is_float bytes

  element_by : (t : SchemaType) (rules : Rules) → t ≡ row_type row → read_here rules ≡ value_at reading levels bytes rules (under t OfElement row.is_float Array)
  element_by t rules same = ap (λ (x : SchemaType). value_at reading levels bytes rules (under x OfElement row.is_float Array)) (sym same)

  element_refused : (t : SchemaType) (strict : Bool) (e : Error) → t ≡ row_type row → ((rules : Rules) → AreRules (row_set row) strict rules → IsErrorOf (value_at reading levels bytes rules (under t OfElement row.is_float Array)) e)
      → IsRefused (row_set row) strict read_here e
  element_refused t strict e same h = λ rules are. subst (λ r. IsErrorOf r e) (sym (element_by t rules same)) (h rules are)

  -- ---- leaves ----

  pub inner_leaf : (strict : Bool) (of : TypeVariant) (l : Leaf) (j : ℕ) (x x' : Tree) → IsLeafType (row_type row) of
      → ((rules : Rules) → rules.set ≡ row_set row → AreFloats rules.floats → (levels : ℕ) (part : Part) → value_at reading levels bytes rules (under (seen_variant of) part row.is_float Array) ≡ Ok (leaf_value l))
      → PutsAt (row_set row) (row_type row) j x x' (leaf_value l) → ElementRead (row_set row) (row_type row) j strict read_here x x'
  inner_leaf strict of l j x x' leaf read puts = record {
    value = leaf_value l;
    is = λ rules are. element_by (seen_variant of) rules leaf.type_is ∙ read rules are.of_set are.floats levels OfElement;
    puts = puts;
  }

  pub inner_leaf_refused : (strict : Bool) (of : TypeVariant) (e : Error) → IsLeafType (row_type row) of
      → ((rules : Rules) → rules.set ≡ row_set row → AreFloats rules.floats → (levels : ℕ) (part : Part) → IsErrorOf (value_at reading levels bytes rules (under (seen_variant of) part row.is_float Array)) e)
      → IsRefused (row_set row) strict read_here e
  inner_leaf_refused strict of e leaf h = element_refused (seen_variant of) strict e leaf.type_is (λ rules are. h rules are.of_set are.floats levels OfElement)

  -- ---- structs ----

  module _ (schema : StructSchema) (leads : IsStructType (row_set row) (row_type row) schema) where
    pub inner_struct_closed : (strict : Bool) (e : Error) → ((rules : Rules) (b x : ℕ) (is_float : Bool) (form : DataForm) → IsErrorOf (value_at reading levels bytes rules (under (StructType b x) OfElement is_float form)) e)
        → IsRefused (row_set row) strict read_here e
    inner_struct_closed strict e h = element_refused (StructType (number_of schema) (generic_of schema)) strict e leads.type_is (λ rules are. h rules (number_of schema) (generic_of schema) row.is_float Array)

    module _ (below : ℕ) (first : Option (List ℕ))
        (told : (rules : Rules) (b x : ℕ) (is_float : Bool) (form : DataForm) → value_at reading levels bytes rules (under (StructType b x) OfElement is_float form) ≡ as_struct (record_opened rules reading.whole below b first))
        (strict : Bool) (word j : ℕ) (now : Arena) (inner : Place) (started : InnerStarted schema word j now inner) where
      inner_opened : (rules : Rules) → read_here rules ≡ as_struct (record_opened rules reading.whole below (number_of schema) first)
      inner_opened rules = element_by (StructType (number_of schema) (generic_of schema)) rules leads.type_is ∙ told rules (number_of schema) (generic_of schema) row.is_float Array

      pub inner_struct_read : (later : Arena) → LeavesStruct inner now later
          → StructRead schema strict (members_json reading below schema first [] (reads (set_of schema) (built_at now inner) (number_of schema))) (built_at now inner) (built_at later inner)
          → ElementRead (row_set row) (row_type row) j strict read_here (tree (segment now) word) (tree (segment later) word)
      inner_struct_read later left read =
          let x : Value = value.Struct (reads (set_of schema) (built_at later inner) (number_of schema)) in
          record {
            value = x;
            is = λ rules are. struct_is reading below schema first (reads (set_of schema) (built_at now inner) (number_of schema)) started.here strict read_here (reads (set_of schema) (built_at later inner) (number_of schema)) read.is inner_opened rules (rules_of (row_set row) (set_of schema) strict rules leads.of_set are);
            puts = subst (λ (z : Schemas). PutsAt z (row_type row) j (tree (segment now) word) (tree (segment later) word) x) leads.of_set
                (subst (λ (t : SchemaType). PutsAt (set_of schema) t j (tree (segment now) word) (tree (segment later) word) x) leads.type_is (started.puts later left read.room));
          }

      pub inner_struct_stopped : (e : Error) → IsRefused (set_of schema) strict (members_json reading below schema first [] (reads (set_of schema) (built_at now inner) (number_of schema))) e → IsRefused (row_set row) strict read_here e
      inner_struct_stopped e h = λ rules are.
          struct_refused reading below schema first (reads (set_of schema) (built_at now inner) (number_of schema)) started.here strict read_here e h inner_opened rules (rules_of (row_set row) (set_of schema) strict rules leads.of_set are)

  -- ---- lists ----

  module _ (element : TypeHandle) (leads : IsListType (row_set row) (row_type row) element) where
    pub inner_list_closed : (strict : Bool) (e : Error) → ((rules : Rules) (t : SchemaType) (p : Part) (is_float : Bool) (form : DataForm) → IsErrorOf (value_at reading levels bytes rules (under (ListType t) p is_float form)) e)
        → IsRefused (row_set row) strict read_here e
    inner_list_closed strict e h = element_refused (ListType (seen_type element)) strict e leads.type_is (λ rules are. h rules (seen_type element) OfElement row.is_float Array)

    pub inner_list_opens : (place : ℕ) (o : Opened) → ((rules : Rules) (t : SchemaType) (p : Part) (is_float : Bool) (form : DataForm) → value_at reading levels bytes rules (under (ListType t) p is_float form) ≡ list_opened rules reading.whole place levels t is_float o)
        → (rules : Rules) → read_here rules ≡ list_opened rules reading.whole place levels (seen_type element) row.is_float o
    inner_list_opens place o told rules = element_by (ListType (seen_type element)) rules leads.type_is ∙ told rules (seen_type element) OfElement row.is_float Array

    pub inner_list_read : (strict : Bool) (j : ℕ) (x x' y : Tree) (vs : Values) → value_of (row_set row) y Endless (ListType (seen_type element)) ≡ value.Elements vs → IsRead (row_set row) strict read_here (value.Elements vs)
        → PutsAt (row_set row) (ListType (seen_type element)) j x x' (value_of (row_set row) y Endless (ListType (seen_type element))) → ElementRead (row_set row) (row_type row) j strict read_here x x'
    inner_list_read strict j x x' y vs reads_as read puts = record {
      value = value.Elements vs;
      is = read;
      puts = subst (λ (t : SchemaType). PutsAt (row_set row) t j x x' (value.Elements vs)) leads.type_is (subst (PutsAt (row_set row) (ListType (seen_type element)) j x x') reads_as puts);
    }

    -- a null pointer stays as it is in a new list
    pub inner_list_null : (strict : Bool) (j : ℕ) (x : Tree) (place : ℕ) (o : Opened) → o ≡ opened.Null → ((rules : Rules) → read_here rules ≡ list_opened rules reading.whole place levels (seen_type element) row.is_float o)
        → ElementRead (row_set row) (row_type row) j strict read_here x x
    inner_list_null strict j x place o is told = record {
      value = value.Missing Endless;
      is = λ rules are. told rules ∙ ap (list_opened rules reading.whole place levels (seen_type element) row.is_float) is;
      puts = subst (λ (t : SchemaType). PutsAt (row_set row) t j x x (value.Missing Endless)) leads.type_is (null_stays (row_set row) (ListType (seen_type element)) x j (value.Missing Endless) refl);
    }
