-- The JSON of a message's root.
use Rattle.std.specs.Prelude.{ℕ, List, Bool, true, false, Result, Ok, Err}
use Rattle.capnp_device.specs.declared.error.ErrorKind.{ErrorKind}
use Rattle.capnp_wire.specs.Depth.{message_levels}
use Rattle.capnp_wire.specs.Stream.{message_tree_of}
use Rattle.capnp_wire.specs.Tree.{Tree}
use Rattle.capnp_schema.specs.Schema.{Schemas, VoidValue, node_of}
use Rattle.capnp_records.specs.Default.{read_of}
use Rattle.capnp_records.specs.Reading.{value_of}
use Rattle.capnp_records.specs.Record as value
use Rattle.capnp_records.specs.Record.{Left, Record, Value}
use Rattle.capnp_records.specs.Run.{root_type}
use Rattle.capnp_json.specs.Json.{json_of}
use Rattle.capnp_json.specs.Pieces.{Out}
use Rattle.capnp_json.specs.declared.error.JsonError.TheVariants.{Read}

-- a struct that is read under a group's brand is a group, whose JSON takes no level
abbrev pub struct_or_group : (is_group : Bool) → Record → Value
struct_or_group true r = value.Group r
struct_or_group false r = value.Struct r

abbrev pub as_written : (is_group : Bool) → Value → Value
as_written is_group (value.Struct r) = struct_or_group is_group r
as_written is_group v = v

-- a root as it is read as a struct of a brand, with the levels of a message
abbrev pub root_value : Schemas → ℕ → Tree → Value
root_value set b root = read_of set VoidValue (root_type set b) (value_of set root (Left message_levels) (root_type set b))

abbrev pub root_json : Schemas → ℕ → (indented : Bool) → Result Tree ErrorKind → Out
root_json set b indented (Ok root) = json_of set indented (root_type set b) (as_written (node_of set b).is_group (root_value set b root))
root_json set b indented (Err kind) = Err (Read kind)

-- the JSON of the first message in these bytes, or why there is none
abbrev pub message_json : Schemas → ℕ → (indented : Bool) → List ℕ → Out
message_json set b indented bytes = root_json set b indented (message_tree_of bytes)
