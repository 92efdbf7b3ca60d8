-- What a reader of a message sees at the end of a path from a struct that is built.
use Rattle.std.specs.Prelude.{ℕ, ◌≡◌, List, Bool, true, false, Ok}
use Rattle.capnp_wire.specs.Depth.{AreBelow, memory_depth, message_levels}
use Rattle.capnp_wire.specs.Tree.{StructTree, Tree}
use Rattle.capnp_arena.specs.Same.{IsStructCutOf}
use Rattle.capnp_schema.specs.Accepted.{NamesEntries}
use Rattle.capnp_schema.specs.Schema.{Schemas}
use Rattle.capnp_schema.specs.StructHandles.{number_of, set_of}
use Rattle.capnp_schema.specs.Types.{ListType, SchemaType}
use Rattle.capnp_schema.specs.declared.schema.structs.StructSchema.{StructSchema}
use Rattle.capnp_records.specs.Call.{PathStep}
use Rattle.capnp_records.specs.Facts.ListValues.{below_of}
use Rattle.capnp_records.specs.Reading.{elements_value, struct_record}
use Rattle.capnp_records.specs.Record as value
use Rattle.capnp_records.specs.Record.{Left}
use Rattle.capnp_dynamic_readers.specs.Typed.{struct_type}
use Rattle.capnp_patch.specs.Gets.{Part, Reached, path_read}

-- a struct as its reader sees it, with all levels left
abbrev pub struct_part : StructSchema → StructTree → Part
struct_part schema s = record { type = struct_type schema; value = value.Struct (struct_record (set_of schema) (Left message_levels) s (number_of schema)) }

-- what is seen at the end of a path, or why nothing is; the reader stands on the struct as far as 65 levels go, and on all of it
-- where that goes no further down than a walk in memory
pub record IsSeenAt (schema : StructSchema) (s : StructTree) (path : List PathStep) (r : Reached) : Type 0 where
  pub seen : StructTree
  pub cut : IsStructCutOf seen s
  pub whole : AreBelow memory_depth s.pointers → seen ≡ s
  pub read : path_read (set_of schema) path (Ok (struct_part schema seen)) ≡ r

-- the elements of a list as a reader sees them with so many levels left
abbrev pub list_part : Schemas → (levels : ℕ) → SchemaType → Tree → Part
list_part set l e t = record { type = ListType e; value = elements_value set t (below_of set t) (Left l) e }

-- the list that is seen there: the tree that the reader of its elements stands on
pub record IsListAt (schema : StructSchema) (s : StructTree) (path : List PathStep) (e : SchemaType) (t : Tree) : Type 0 where
  pub levels : ℕ
  pub entries : NamesEntries (set_of schema) e
  pub seen : IsSeenAt schema s path (Ok (list_part (set_of schema) levels e t))

abbrev pub is_list_type : SchemaType → Bool
is_list_type (ListType e) = true
is_list_type t = false
