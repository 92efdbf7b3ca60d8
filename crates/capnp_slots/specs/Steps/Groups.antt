-- Groups of a struct: what they are, and their clear a field after another: steps of the code.
use Rattle.std.specs.Prelude.{ℕ, Option, Some, None}
use Rattle.capnp_wire.specs.Tree.{StructTree}
use Rattle.capnp_schema.specs.Schema.{Schemas, TypedField}
use Rattle.capnp_records.specs.Writes.Overlay.{cleared_field, cleared_within}

-- a brand's struct cleared through at most so many groups
unfoldable pub cleared_through : ℕ → Schemas → ℕ → StructTree → StructTree
cleared_through groups set b s = cleared_within groups set b s

-- a field of a brand, and the one of an index
abbrev pub clear_by : ℕ → Schemas → ℕ → TypedField → StructTree → StructTree
clear_by groups set b f s = cleared_field (cleared_through groups set) set b f s

-- the field of an index, where there is one, and those of several indices, one after another
abbrev pub cleared_option : (ℕ → StructTree → StructTree) → Option ℕ → StructTree → StructTree
cleared_option clear None s = s
cleared_option clear (Some i) s = clear i s
