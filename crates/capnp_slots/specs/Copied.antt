-- The copy of a slot out of a struct of the same schema: what is copied, and why it is not.
use Rattle.std.specs.Prelude.{ℕ, ◌≡◌, Option, Some, None, Result, Ok, Err}
use Rattle.capnp_device.specs.declared.error.Error.{Error}
use Rattle.capnp_device.specs.declared.error.ErrorKind.{ErrorKind}
use Rattle.capnp_wire.specs.Tree.{StructTree}
use Rattle.capnp_schema.specs.FieldLists.{typed_of}
use Rattle.capnp_schema.specs.Schema.{default_of}
use Rattle.capnp_schema.specs.declared.schema.fields.Field.{Field}
use Rattle.capnp_records.specs.Given.{Given}
use Rattle.capnp_records.specs.GroupCopy.{slot_copy}
use Rattle.capnp_records.specs.Record.{Levels, Left}
use Rattle.capnp_records.specs.Writes.Slots.{Content}
use Rattle.capnp_records.specs.Writes.TreeCopy.{copied_content}
use Rattle.capnp_records.specs.Writes.TreeEnds.{offset_of}
use Rattle.capnp_slots.specs.Fields.{Keeps, field_set, names_of, slot_with}
use Rattle.capnp_slots.specs.Sources.{IsTaken}

-- what a field's slot is given by the copy out of a struct, of whose pointers so many levels are left
abbrev pub copy_given : Field → Levels → StructTree → Given
copy_given f l x = slot_copy (field_set f) l x (offset_of (typed_of f).field.kind) (default_of (typed_of f).field) (typed_of f).type

-- and what is written there
abbrev pub copy_content : Field → StructTree → Content
copy_content f x = copied_content x (offset_of (typed_of f).field.kind) (default_of (typed_of f).field) (typed_of f).type

-- a slot was copied: it took what is given, which stands there now, and the rest is kept
pub record IsCopied (f : Field) (given : Given) (c : Content) (old new : StructTree) : Type 0 where
  pub taken : IsTaken given
  pub written : new ≡ slot_with f c old
  pub kept : Keeps (names_of f) old new

abbrev pub IsCopiedFrom : Field → ℕ → StructTree → StructTree → StructTree → Type 0
IsCopiedFrom f n x old new = IsCopied f (copy_given f (Left n) x) (copy_content f x) old new

abbrev pub refusal_of : {A : Type 0} → Result A Error → Option ErrorKind
refusal_of (Ok a) = None
refusal_of (Err e) = Some e.kind
