-- Objects and arrays that are opened: what is read of what they hold.
use Rattle.std.specs.Prelude.{ℕ, ◌-◌, ◌≤◌, ⊤, Bool, List, [], length, Option, Ok}
use Rattle.std.specs.Option.{option_map}
use Rattle.capnp_schema.specs.Types.{SchemaType}
use Rattle.capnp_records.specs.Default.{default_record}
use Rattle.capnp_records.specs.Record as value
use Rattle.capnp_records.specs.Record.{Endless, Record, Value}
use Rattle.capnp_json_text.specs.Values.{elements_of, json_at, members_of, most_items}
use Rattle.capnp_json_fields.specs.declared.fields.DataForm.TheVariants.{Array}
use Rattle.capnp_from_json.specs.Errors.{Read, refused}
use Rattle.capnp_from_json.specs.LeafReads.{under}
use Rattle.capnp_from_json.specs.Leaves.{OfElement}
use Rattle.capnp_from_json.specs.Records.{Rules, as_elements, as_struct, element_count, elements_of_json, is_past, members_of_json, unless}
use Rattle.capnp_from_json.specs.declared.error.RefusalKind.TheVariants.{SizePastFormat}
use Rattle.capnp_json_messages.specs.declared.opened.Opened.{Opened}
use Rattle.capnp_json_messages.specs.declared.opened.Opened.TheVariants as opened

-- the record of what an object holds
abbrev pub record_opened : Rules → (whole levels b : ℕ) → Option (List ℕ) → Read Record
record_opened rules whole levels b first = members_of_json rules (members_of (json_at whole) whole first) levels b [] (default_record rules.set Endless b)

-- the struct of an object behind a pointer
abbrev pub struct_opened : Rules → (whole levels b : ℕ) → Opened → Read Value
struct_opened rules whole levels b opened.Null = Ok (value.Missing Endless)
struct_opened rules whole levels b (opened.Items first) = as_struct (record_opened rules whole (levels - 1) b (option_map (λ x. x.now) first))

-- the list of an array at a place, by its elements
abbrev pub list_by : Rules → (whole place levels : ℕ) → (element : SchemaType) → (is_float : Bool) → Option (List ℕ) → Read Value
list_by rules whole place levels e is_float first =
    unless (is_past rules.set e (element_count (elements_of (json_at whole) first))) (refused SizePastFormat place)
    (as_elements (elements_of_json rules (elements_of (json_at whole) first) (levels - 1) (under e OfElement is_float Array)))

abbrev pub list_opened : Rules → (whole place levels : ℕ) → (element : SchemaType) → (is_float : Bool) → Opened → Read Value
list_opened rules whole place levels e is_float opened.Null = Ok (value.Missing Endless)
list_opened rules whole place levels e is_float (opened.Items first) = list_by rules whole place levels e is_float (option_map (λ x. x.now) first)

-- what it holds has less items than there are bytes
abbrev pub IsOpenedWithin : Opened → List ℕ → Type 0
IsOpenedWithin opened.Null bs = ⊤
IsOpenedWithin (opened.Items first) bs = most_items (option_map (λ x. x.now) first) ≤ length bs
