-- A message that is read of a record's JSON has the record.
use Rattle.std.specs.Prelude.{ℕ, ◌≡◌, List, Bool}
use Rattle.capnp_wire.specs.Edits.{struct_in}
use Rattle.capnp_wire.specs.Tree.{Tree}
use Rattle.capnp_schema.specs.StructHandles.{number_of, set_of}
use Rattle.capnp_schema.specs.Types.{StructType}
use Rattle.capnp_schema.specs.declared.schema.structs.StructSchema.{StructSchema}
use Rattle.capnp_records.specs.Reading.{reads}
use Rattle.capnp_records.specs.Record as value
use Rattle.capnp_records.specs.Record.{Record}
use Rattle.capnp_json.specs.Json.{json_of}
use Rattle.capnp_json.specs.Pieces.{IsJson}
use Rattle.capnp_json_messages.specs.Messages.{IsRootOf}
use Rattle.capnp_json_laws.specs.AsRead.{HasDistinctNames, record_as_read}
use Rattle.capnp_json_laws.specs.Fitting.{IsShaped, RecordHasRoom}

-- The root of each message that `read_message` makes of the JSON of a record reads as the record, but for what `record_as_read`
-- says.
abbrev pub NewMessagesHaveTheRecord : Type 0
NewMessagesHaveTheRecord =
    (schema : StructSchema) (strict indented : Bool) (g : ℕ) (r : Record) (text : List ℕ) (root : Tree) → HasDistinctNames (set_of schema)
    → IsShaped (set_of schema) (number_of schema) r → RecordHasRoom (set_of schema) (number_of schema) r
    → IsJson (json_of (set_of schema) indented (StructType (number_of schema) g) (value.Struct r)) text → IsRootOf schema strict text root
    → reads (set_of schema) (struct_in root) (number_of schema) ≡ record_as_read (set_of schema) (number_of schema) r
