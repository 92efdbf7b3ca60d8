-- The set that the bytes of a message stand for.
use Rattle.std.specs.Prelude.{ℕ, List, ◌≡◌, ◌<◌, ◌⊎◌, Option, Some, None, Result, Ok, Err}
use Rattle.capnp_device.specs.declared.error.Error.{Error}
use Rattle.capnp_device.specs.declared.error.ErrorKind.{ErrorKind}
use Rattle.capnp_wire.specs.Depth.{message_levels, root_levels}
use Rattle.capnp_wire.specs.Reading.{as_struct}
use Rattle.capnp_wire.specs.Stream.{message_tree_of}
use Rattle.capnp_wire.specs.Tree.{StructTree, Tree}
use Rattle.capnp_schema.specs.Meta.{meta}
use Rattle.capnp_schema.specs.Schema.{Schemas}
use Rattle.capnp_records.specs.Reading.{struct_record}
use Rattle.capnp_records.specs.Record.{Left, Record}
use Rattle.capnp_wire.specs.Unfolded.{unfolded}
use Rattle.capnp_sets.specs.Lists.{IsSchemaSetRefusal, lists_meant}
use Rattle.capnp_sets.specs.Unfolded.{values_size}

-- the record of a root that was read as a struct, which takes one of the levels of a message
abbrev pub root_record : StructTree → Record
root_record root = struct_record meta (Left root_levels) root 0

-- a root as a struct, or why it is none; of a stream that is refused, its refusal
abbrev pub root_struct : Result Tree ErrorKind → Result StructTree ErrorKind
root_struct (Ok t) = as_struct t message_levels
root_struct (Err kind) = Err kind

abbrev pub root_set : Result StructTree ErrorKind → Option Schemas
root_set (Ok root) = lists_meant (root_record root)
root_set (Err kind) = None

-- the lists that the root of the first message in these bytes stands for
abbrev pub message_set : List ℕ → Option Schemas
message_set bytes = root_set (root_struct (message_tree_of bytes))

-- why a root that was read gives no checked set
abbrev pub IsRootRefusal : Result StructTree ErrorKind → Error → Type 0
IsRootRefusal (Ok root) e = IsSchemaSetRefusal (root_record root) e
IsRootRefusal (Err kind) e = e.kind ≡ kind

-- why the first message in these bytes gives no checked set: the stream is refused, its root is no struct, a cause stands in
-- the record, or its lists break a rule
abbrev pub IsMessageRefusal : List ℕ → Error → Type 0
IsMessageRefusal bytes e = IsRootRefusal (root_struct (message_tree_of bytes)) e

-- what the root leads to is past a limit
abbrev pub IsLargeRoot : ℕ → Result Tree ErrorKind → Type 0
IsLargeRoot limit (Ok t) = limit < unfolded t
IsLargeRoot limit (Err kind) = ⊥

abbrev pub HasLargeMessage : ℕ → List ℕ → Type 0
HasLargeMessage limit bytes = IsLargeRoot limit (message_tree_of bytes)

-- there is more in the message, or in the values of the set, than a limit
abbrev pub IsPastLimit : ℕ → List ℕ → Type 0
IsPastLimit limit bytes = HasLargeMessage limit bytes ⊎ ((set : Schemas) × (message_set bytes ≡ Some set) × limit < values_size set)
