-- What two brands of a set say of one struct.
use Rattle.std.specs.Prelude.{ℕ, ◌<◌, ◌≡◌, length}
use Rattle.capnp_wire.specs.Standing.{struct_levels, struct_of}
use Rattle.capnp_wire.specs.declared.struct_reader.StructReader.{StructReader}
use Rattle.capnp_schema.specs.Schema.{Schemas}
use Rattle.capnp_schema.specs.StructHandles.{number_of, set_of}
use Rattle.capnp_schema.specs.declared.schema.structs.StructSchema.{StructSchema}
use Rattle.capnp_records.specs.Compatible.{IsCompatible, projection_of}
use Rattle.capnp_records.specs.Upgrades.{AreUpgradesRead, IsSeenOf}
use Rattle.capnp_records.specs.Reading.{struct_record}
use Rattle.capnp_records.specs.Record.{Left, Record}
use Rattle.capnp_dynamic_readers.specs.Handles.{reader_of, schema_of}
use Rattle.capnp_dynamic_readers.specs.Seen.{record_seen}
use Rattle.capnp_dynamic_readers.specs.declared.dynamic_struct.Reader.{Reader as StructHandle}
use Rattle.capnp_compatible.specs.Checked.{newer_of, older_of}

-- a set has the brands of two numbers
abbrev pub HasBoth : Schemas → ℕ → ℕ → Type 0
HasBoth set older newer = (older < length set.brands) × (newer < length set.brands)

-- the schema is that of a brand
abbrev pub IsBrand : Schemas → ℕ → StructSchema → Type 0
IsBrand set number schema = (set_of schema ≡ set) × (number_of schema ≡ number)

-- the pair of the schemas of two brands
abbrev pub IsBetween : Schemas → ℕ → ℕ → StructSchema × StructSchema → Type 0
IsBetween set older newer pair = IsBrand set older (older_of pair) × IsBrand set newer (newer_of pair)

-- the record of a struct under a brand
abbrev pub reader_record_under : Schemas → StructReader → ℕ → Record
reader_record_under set sections number = struct_record set (Left (struct_levels sections)) (struct_of sections) number

-- a reader of the struct under the older brand, which sees the projection of its record under the newer; where lists became
-- lists of structs, if they are read, and but for the levels of missing parts
abbrev pub IsSeenByOlder : Schemas → ℕ → ℕ → StructReader → StructHandle → Type 0
IsSeenByOlder set older newer sections r =
    IsBrand set older (schema_of r) × (reader_of r ≡ sections)
    × (IsCompatible set older newer → record_seen r ≡ projection_of set older newer (reader_record_under set sections newer))
    × (AreUpgradesRead set older newer (record_seen r) (reader_record_under set sections newer) → IsSeenOf set older newer (record_seen r) (reader_record_under set sections newer))

-- a reader of the struct under the newer brand, of whose record the older brand sees the projection, likewise
abbrev pub IsSeenByNewer : Schemas → ℕ → ℕ → StructReader → StructHandle → Type 0
IsSeenByNewer set older newer sections r =
    IsBrand set newer (schema_of r) × (reader_of r ≡ sections)
    × (IsCompatible set older newer → projection_of set older newer (record_seen r) ≡ reader_record_under set sections older)
    × (AreUpgradesRead set older newer (reader_record_under set sections older) (record_seen r) → IsSeenOf set older newer (reader_record_under set sections older) (record_seen r))
