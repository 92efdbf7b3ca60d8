-- Copies of what stands at the end of a path to the end of another.
use Rattle.std.specs.Prelude.{ℕ, ◌≡◌, ◌≢◌, ◌⊎◌, List, Some, Ok, Err, option_map}
use Rattle.capnp_device.specs.declared.error.ErrorKind.{ErrorKind}
use Rattle.capnp_device.specs.declared.error.ErrorKind.TheVariants.{CannotSetAnyPointerFieldToAPrimitiveValue, OutOfMemory, TooDeep}
use Rattle.capnp_wire.specs.Depth.{IsShallow}
use Rattle.capnp_wire.specs.Edits.{rounded_struct}
use Rattle.capnp_wire.specs.Place.{struct_tree}
use Rattle.capnp_wire.specs.Reading.{refusal}
use Rattle.capnp_wire.specs.Tree.{StructTree}
use Rattle.capnp_wire.specs.Words.{first_fault, first_fault_of_all}
use Rattle.capnp_schema.specs.StructHandles.{number_of, set_of}
use Rattle.capnp_schema.specs.declared.schema.structs.StructSchema.{StructSchema}
use Rattle.capnp_records.specs.Call.{AnyPointerSource, ListSource, PathStep, Refused, Reply, Set, Source, StructSource}
use Rattle.capnp_records.specs.Writes.TreeEnds.{TreeStep}
use Rattle.capnp_dynamic_readers.specs.declared.dynamic_value.Reader.{Reader as DynamicValue}
use Rattle.capnp_slots.specs.SetValues.{source_of}
use Rattle.capnp_patch.specs.Gets.{value_part_seen}
use Rattle.capnp_edit_calls.specs.EditsMade.{call_along}
use Rattle.capnp_edit_calls.specs.PathReads.{IsSeenAt}

-- a copy of what is given to a set: a struct has its data rounded up to whole words, and the levels are a new reader's
abbrev pub IsCopyOf : Source → Source → Type 0
IsCopyOf (StructSource l s b) (StructSource m u c) = (u ≡ rounded_struct s) × (c ≡ b)
IsCopyOf (ListSource l t e) (ListSource m u f) = (u ≡ t) × (f ≡ e)
IsCopyOf s u = u ≡ s

-- what is copied goes more than 64 levels down
abbrev pub IsTooDeep : Source → Type 0
IsTooDeep (StructSource l s b) = IsShallow (struct_tree (rounded_struct s)) → ⊥
IsTooDeep (ListSource l t e) = IsShallow t → ⊥
IsTooDeep s = ⊥

-- why there is no copy, memory aside: a pointer can't be followed, or an untyped pointer stands there, which no set takes
abbrev pub IsKeepRefusal : Source → ErrorKind → Type 0
IsKeepRefusal (StructSource l s b) kind = option_map refusal (first_fault_of_all s.pointers) ≡ Some kind
IsKeepRefusal (ListSource l t e) kind = option_map refusal (first_fault t) ≡ Some kind
IsKeepRefusal (AnyPointerSource l t) kind = kind ≡ CannotSetAnyPointerFieldToAPrimitiveValue
IsKeepRefusal s kind = ⊥

-- what is seen at the end of one path was copied, and a set put the copy at the end of another
pub record IsCopyMade (schema : StructSchema) (old : StructTree) (path from : List PathStep) (reply : Reply) (new : StructTree) : Type 0 where
  pub value : DynamicValue
  pub seen : IsSeenAt schema old from (Ok (value_part_seen value))
  pub copy : Source
  pub is_copy : IsCopyOf (source_of value) copy
  pub set : TreeStep (set_of schema) (number_of schema) old (call_along path (Set copy)) reply new

-- why nothing is set, memory aside: nothing can be read there, or what is read has no copy, or is too deep for one
pub data IsCopyRefused (schema : StructSchema) (s : StructTree) (from : List PathStep) : ErrorKind → Type 0 where
  not_read : (kind : ErrorKind) → IsSeenAt schema s from (Err kind) → IsCopyRefused schema s from kind
  not_kept : (v : DynamicValue) (kind : ErrorKind) → IsSeenAt schema s from (Ok (value_part_seen v)) → IsKeepRefusal (source_of v) kind → IsCopyRefused schema s from kind
  too_deep : (v : DynamicValue) → IsSeenAt schema s from (Ok (value_part_seen v)) → IsTooDeep (source_of v) → IsCopyRefused schema s from TooDeep

pub record IsCopyStopped (schema : StructSchema) (s : StructTree) (from : List PathStep) (reply : Reply) : Type 0 where
  pub kind : ErrorKind
  pub refused : reply ≡ Refused kind
  pub cause : kind ≢ OutOfMemory → IsCopyRefused schema s from kind

-- a copy in a message of these bytes, before and after: where it is refused before the set, none of them has changed
abbrev pub Copies : StructSchema → StructTree → (path from : List PathStep) → Reply → StructTree → (before after : List ℕ) → Type 0
Copies schema old path from reply new before after = (IsCopyStopped schema old from reply × (after ≡ before)) ⊎ IsCopyMade schema old path from reply new

-- the same of a struct
abbrev pub CopiesTo : StructSchema → StructTree → (path from : List PathStep) → Reply → StructTree → Type 0
CopiesTo schema old path from reply new = (IsCopyStopped schema old from reply × (new ≡ old)) ⊎ IsCopyMade schema old path from reply new
