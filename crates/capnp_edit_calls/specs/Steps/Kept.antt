-- Values with memory of their own.
use Rattle.std.specs.Prelude.{ℕ, ◌≡◌, ◌⊎◌, ⊤, List, Ok}
use Rattle.capnp_device.specs.declared.error.ErrorKind.TheVariants.{TooDeep}
use Rattle.capnp_wire.specs.Edits.{rounded_struct}
use Rattle.capnp_wire.specs.Place.{struct_tree}
use Rattle.capnp_wire.specs.Tree.{StructTree}
use Rattle.capnp_arena.specs.Message.{IsMessage, message_tree}
use Rattle.capnp_arena.specs.declared.arena.Arena.{Arena}
use Rattle.capnp_schema.specs.StructHandles.{number_of, set_of}
use Rattle.capnp_schema.specs.Types.{SchemaType, seen_type}
use Rattle.capnp_schema.specs.declared.schema.structs.StructSchema.{StructSchema}
use Rattle.capnp_records.specs.Call.{DataSource, ListSource, PathStep, Refused, Reply, Set, Source, StructSource, TextSource}
use Rattle.capnp_records.specs.Record.{Levels}
use Rattle.capnp_records.specs.Writes.TreeEnds.{TreeStep}
use Rattle.capnp_slots.specs.Primitives.{primitive_source}
use Rattle.capnp_slots.specs.SetValues.{source_of}
use Rattle.capnp_dynamic_readers.specs.declared.dynamic_value.Reader.{Reader as DynamicValue}
use Rattle.capnp_patch.specs.Gets.{value_part_seen}
use Rattle.capnp_edit_calls.specs.PathReads.{IsSeenAt}
use Rattle.capnp_edit_calls.specs.Copies.{IsCopyOf, IsTooDeep}
use Rattle.capnp_edit_calls.specs.EditsMade.{call_along}
use Rattle.capnp_edit_calls.specs.declared.copy.Kept.{Kept}
use Rattle.capnp_edit_calls.specs.declared.copy.Kept.TheVariants as kept

pub record IsKeptStruct (s : Source) (m : Arena) (n : ℕ) : Type 0 where
  pub levels : Levels
  pub struct : StructTree
  pub source : s ≡ StructSource levels struct n
  pub copy : message_tree m ≡ struct_tree (rounded_struct struct)

pub record IsKeptList (s : Source) (m : Arena) (e : SchemaType) : Type 0 where
  pub levels : Levels
  pub source : s ≡ ListSource levels (message_tree m) e

-- what is given to a set was copied
abbrev pub IsKept : Source → Kept → Type 0
IsKept s (kept.Primitive p) = s ≡ primitive_source p
IsKept s (kept.Text b) = s ≡ TextSource b.items
IsKept s (kept.«Data» b) = s ≡ DataSource b.items
IsKept s (kept.Struct m n) = IsKeptStruct s m n
IsKept s (kept.List m e) = IsKeptList s m (seen_type e)

-- its message stands
abbrev pub HasMessage : Kept → Type 0
HasMessage (kept.Struct m n) = IsMessage m
HasMessage (kept.List m e) = IsMessage m
HasMessage k = ⊤

-- a copy was set, or it goes too deep
pub record IsCopySet (schema : StructSchema) (old : StructTree) (path : List PathStep) (s : Source) (reply : Reply) (new : StructTree) : Type 0 where
  pub copy : Source
  pub is_copy : IsCopyOf s copy
  pub set : TreeStep (set_of schema) (number_of schema) old (call_along path (Set copy)) reply new

abbrev pub SetsCopy : StructSchema → StructTree → List PathStep → Source → Reply → StructTree → (before after : List ℕ) → Type 0
SetsCopy schema old path s reply new before after = ((reply ≡ Refused TooDeep) × IsTooDeep s × (after ≡ before)) ⊎ IsCopySet schema old path s reply new

-- what is seen at the end of a path was copied
pub record IsKeptAt (schema : StructSchema) (s : StructTree) (from : List PathStep) (k : Kept) : Type 0 where
  pub value : DynamicValue
  pub seen : IsSeenAt schema s from (Ok (value_part_seen value))
  pub is_kept : IsKept (source_of value) k
