-- Structs and lists of a set's record, as their readers stand under the meta set.
use Rattle.std.specs.Prelude.{ℕ, ◌≡◌}
use Rattle.capnp_schema.specs.Meta.{meta}
use Rattle.capnp_schema.specs.StructHandles.{number_of, set_of}
use Rattle.capnp_dynamic_readers.specs.Handles.{schema_of}
use Rattle.capnp_dynamic_readers.specs.declared.dynamic_struct.Reader.{Reader as StructHandle}

-- a struct of a brand of the meta set
pub record IsMetaRecord (b : ℕ) (s : StructHandle) : Type 0 where
  pub set : set_of (schema_of s) ≡ meta
  pub number : number_of (schema_of s) ≡ b
