-- What is read into a slot once it leads to a struct or a list.
use Rattle.std.proofs.Common.{ℕ, ◌≡◌, ◌-◌, Bool, false, List, [], Option, ap, sym, subst, ◌∙◌}
use Rattle.capnp_arena.specs.Built.{built_at}
use Rattle.capnp_arena.specs.Forest.{tree}
use Rattle.capnp_arena.specs.Frame.{LeavesPointer, LeavesStruct}
use Rattle.capnp_arena.specs.Segment.{segment}
use Rattle.capnp_arena.specs.declared.arena.Arena.{Arena}
use Rattle.capnp_arena.specs.declared.arena.Place.{Place}
use Rattle.capnp_schema.specs.FieldLists.{typed_of}
use Rattle.capnp_schema.specs.StructHandles.{number_of, set_of}
use Rattle.capnp_schema.specs.Types.{SchemaType}
use Rattle.capnp_schema.specs.declared.schema.fields.Field.{Field}
use Rattle.capnp_schema.specs.declared.schema.structs.StructSchema.{StructSchema}
use Rattle.capnp_records.specs.Operation.{elements_past}
use Rattle.capnp_records.specs.Reading.{reads}
use Rattle.capnp_records.specs.Record as value
use Rattle.capnp_records.specs.Record.{Record, Value}
use Rattle.capnp_slots.specs.Fields.{field_set}
use Rattle.capnp_json_text.specs.Values.{elements_of, json_at}
use Rattle.capnp_from_json.specs.Errors.{Read}
use Rattle.capnp_from_json.specs.Records.{Rules, as_struct, element_count}
use Rattle.capnp_from_json.specs.declared.error.Error.{Error}
use Rattle.capnp_from_json.specs.declared.reading.Reading.{Reading}
use Rattle.capnp_json_messages.specs.Opened.{list_by, record_opened}
use Rattle.capnp_json_messages.specs.Reads.{PutsInto}
use Rattle.capnp_json_messages.specs.Started.{ListStarted, StructStarted}
use Rattle.capnp_json_messages.specs.Steps.Walks.{ListRead, elements_json}
use Rattle.capnp_json_messages.specs.Walks.{FieldRead, IsRefused, StructRead, members_json}
use Rattle.capnp_json_messages.specs.Ways.{IsStructType}
use Rattle.capnp_json_messages.proofs.NewLists.{new_record}
use Rattle.capnp_json_messages.proofs.ReadParts.{list_is, list_refused, rules_of, struct_is, struct_refused}

-- the record that stands at a place
abbrev pub record_here : StructSchema → Arena → Place → Record
record_here schema arena place = reads (set_of schema) (built_at arena place) (number_of schema)

module _ (f : Field) (schema : StructSchema) (leads : IsStructType (field_set f) (typed_of f).type schema) (place : Place) (old m : Arena) (inner : Place) (started : StructStarted f schema place old m inner)
    (reading : Reading) (levels below : ℕ) (first : Option (List ℕ)) (strict : Bool) (v : Rules → Read Value)
    (lower : below ≡ levels - 1) (told : (rules : Rules) → v rules ≡ as_struct (record_opened rules reading.whole (levels - 1) (number_of schema) first)) where
  told_below : (rules : Rules) → v rules ≡ as_struct (record_opened rules reading.whole below (number_of schema) first)
  told_below rules = told rules ∙ ap (λ (n : ℕ). as_struct (record_opened rules reading.whole n (number_of schema) first)) (sym lower)

  pub struct_done : (later : Arena) → LeavesStruct inner m later → StructRead schema strict (members_json reading below schema first [] (record_here schema m inner)) (built_at m inner) (built_at later inner)
      → FieldRead f strict v (built_at old place) (built_at later place)
  struct_done later left read = record {
    value = value.Struct (record_here schema later inner);
    is = λ rules are. struct_is reading below schema first (record_here schema m inner) (new_record schema (built_at m inner) started.here) strict v (record_here schema later inner) read.is told_below rules (rules_of (field_set f) (set_of schema) strict rules leads.of_set are);
    puts = started.puts later left;
  }

  pub struct_stopped : (e : Error) → IsRefused (set_of schema) strict (members_json reading below schema first [] (record_here schema m inner)) e → IsRefused (field_set f) strict v e
  struct_stopped e h = λ rules are.
      struct_refused reading below schema first (record_here schema m inner) (new_record schema (built_at m inner) started.here) strict v e h told_below rules (rules_of (field_set f) (set_of schema) strict rules leads.of_set are)

module _ (f : Field) (e : SchemaType) (place : Place) (count : ℕ) (old m : Arena) (word : ℕ) (started : ListStarted f e place count old m word)
    (reading : Reading) (levels below at : ℕ) (is_float : Bool) (first : Option (List ℕ)) (strict : Bool) (v : Rules → Read Value)
    (lower : below ≡ levels - 1) (counted : count ≡ element_count (elements_of (json_at reading.whole) first)) (within : elements_past (field_set f) e count ≡ false)
    (told : (rules : Rules) → v rules ≡ list_by rules reading.whole at levels e is_float first) where
  pub list_done : (later : Arena) → LeavesPointer word m later → ListRead (field_set f) e strict (elements_json reading below e is_float first) (tree (segment later) word)
      → FieldRead f strict v (built_at old place) (built_at later place)
  list_done later left read = record {
    value = value.Elements read.values;
    is = list_is reading levels at count (field_set f) e is_float first strict v counted told within read.values (λ rules are. ap (λ (n : ℕ). elements_json reading n e is_float first rules) (sym lower) ∙ read.is rules are);
    puts = subst (PutsInto f (built_at old place) (built_at later place)) read.list.reads_as (started.puts later left);
  }

  pub list_stopped : (x : Error) → IsRefused (field_set f) strict (elements_json reading below e is_float first) x → IsRefused (field_set f) strict v x
  list_stopped x h = list_refused reading levels at count (field_set f) e is_float first strict v counted told within x (subst (λ (n : ℕ). IsRefused (field_set f) strict (elements_json reading n e is_float first) x) lower h)
