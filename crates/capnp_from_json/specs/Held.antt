-- Values of types that hold others, by what stands there.
use Rattle.std.specs.Prelude.{ℕ, ◌-◌, ◌<◌, ⊤, List, [], length, Option, Some, None, Ok}
use Rattle.std.specs.Option.{option_map}
use Rattle.capnp_schema.specs.Types.{SchemaType}
use Rattle.capnp_records.specs.Default.{default_record}
use Rattle.capnp_records.specs.Record as value
use Rattle.capnp_records.specs.Record.{Endless, Record, Value}
use Rattle.capnp_json_text.specs.Values.{elements_of, json_at, members_of}
use Rattle.capnp_from_json.specs.Errors.{Read, refused}
use Rattle.capnp_from_json.specs.Leaves.{Part, Target, null_struct}
use Rattle.capnp_from_json.specs.Records.{Rules, all_levels, element_count, element_target, elements_of_json, list_read, members_of_json, struct_read}
use Rattle.capnp_from_json.specs.declared.error.RefusalKind.TheVariants.{WrongJsonKind}
use Rattle.capnp_from_json.specs.declared.held.Held.{Held}
use Rattle.capnp_from_json.specs.declared.held.Held.TheVariants as held

-- the value of a struct's type
abbrev pub struct_held : Rules → (whole place levels : ℕ) → Part → (brand : ℕ) → Held → Read Value
struct_held rules whole place levels part b held.Null = null_struct place part
struct_held rules whole place levels part b (held.Items first) = struct_read rules.set place (members_of_json rules (members_of (json_at whole) whole (option_map (λ x. x.now) first))) levels part b
struct_held rules whole place levels part b held.Other = refused WrongJsonKind place

-- the record of a root
abbrev pub root_held : Rules → (whole place : ℕ) → (brand : ℕ) → Held → Read Record
root_held rules whole place b held.Null = refused WrongJsonKind place
root_held rules whole place b (held.Items first) = members_of_json rules (members_of (json_at whole) whole (option_map (λ x. x.now) first)) (all_levels - 1) b [] (default_record rules.set Endless b)
root_held rules whole place b held.Other = refused WrongJsonKind place

-- the value of a list's type, by the type of its elements
abbrev pub list_held : Rules → (whole place levels : ℕ) → Target → (element : SchemaType) → Held → Read Value
list_held rules whole place levels t e held.Null = Ok (value.Missing Endless)
list_held rules whole place levels t e (held.Items first) =
    list_read rules.set place levels e (element_count (elements_of (json_at whole) (option_map (λ x. x.now) first))) (elements_of_json rules (elements_of (json_at whole) (option_map (λ x. x.now) first)) (levels - 1) (element_target t e))
list_held rules whole place levels t e held.Other = refused WrongJsonKind place

-- the bytes from an item on
abbrev pub bytes_left : Option (List ℕ) → ℕ
bytes_left None = 0
bytes_left (Some bs) = length bs

-- what it holds has less bytes
abbrev pub IsShorter : Held → List ℕ → Type 0
IsShorter (held.Items first) bs = bytes_left (option_map (λ x. x.now) first) < length bs
IsShorter h bs = ⊤
