-- How many elements what stands at a path of a message has.
use Rattle.std.specs.Prelude.{ℕ, ◌≡◌, List, Result, Ok, Err}
use Rattle.capnp_device.specs.declared.error.ErrorKind.{ErrorKind}
use Rattle.capnp_device.specs.declared.error.ErrorKind.TheVariants.{NotAContainer, UntypedStep}
use Rattle.capnp_schema.specs.Schema.{Schemas}
use Rattle.capnp_schema.specs.Types.{AnyPointerType, SchemaType}
use Rattle.capnp_records.specs.Call.{PathStep}
use Rattle.capnp_records.specs.Part.{value_count}
use Rattle.capnp_records.specs.Record as value
use Rattle.capnp_records.specs.Record.{Value}
use Rattle.capnp_patch.specs.Gets.{Part, Reached}
use Rattle.capnp_patch.specs.Places.{IsRefusedAt}
use Rattle.capnp_queries.specs.Reach.{IsOnWay, at_path}
use Rattle.capnp_queries.specs.declared.length.NoLength.{NoLength}
use Rattle.capnp_queries.specs.declared.length.NoLength.TheVariants.{NoList, Unreached}

-- what is no list has none, as a step past it has no target
abbrev pub no_list : SchemaType → ErrorKind
no_list AnyPointerType = UntypedStep
no_list t = NotAContainer

abbrev pub value_length : SchemaType → Value → Result ℕ ErrorKind
value_length t (value.Elements vs) = Ok (value_count vs)
value_length t v = Err (no_list t)

abbrev pub part_length : Part → Result ℕ ErrorKind
part_length p = value_length p.type p.value

abbrev pub reached_length : Reached → Result ℕ ErrorKind
reached_length (Err kind) = Err kind
reached_length (Ok p) = part_length p

-- the number of elements of what stands at a path
abbrev pub length_at : Schemas → ℕ → List PathStep → (bytes : List ℕ) → Result ℕ ErrorKind
length_at set b path bytes = reached_length (at_path set b path bytes)

-- nothing stands at the path, and that is the place; or what stands there is no list
abbrev pub HasNoLength : Schemas → ℕ → List PathStep → (bytes : List ℕ) → NoLength → Type 0
HasNoLength set b path bytes (Unreached r) = (at_path set b path bytes ≡ Err r.kind) × IsRefusedAt set b path bytes r.kind r.place × IsOnWay r.place
HasNoLength set b path bytes (NoList kind) = (p : Part) × (at_path set b path bytes ≡ Ok p) × (part_length p ≡ Err kind)
